use Rattle.hn_base.proofs.Names.{◌∙◌, refl, sym, ap}
use Rattle.hn_watch.proofs.Names.{keeping}
use Rattle.hn_watch.proofs.Orders.{older_test}
use Rattle.hn_watch.proofs.KeptLemmas.{keeping_first, keeping_newer, keeping_not_newer}
use Rattle.hn_watch.proofs.remembered.kept_after.Goals as goal
use Rattle.hn_watch.proofs.remembered.kept_after.Goals.{in_default-via-in-Some+else-not-older, in_default-via-in_default}

pub returns-in-Some : goal.returns-in-Some
returns-in-Some c =
    let one = c.args.one.now in
    let kept = c.in-Some.kept in
    let test = older_test c.older.result kept.number one.number c.older.ensures in
    sym (ap (λ k. keeping one.node k one) c.in-Some.is ∙ keeping_not_newer one.node kept one (sym test ∙ c.if-not-older.true))

pub returns-in_default : goal.returns-in_default
returns-in_default c =
    let one = c.args.one.now in
    elim c.in_default.branch [
      | in_default-via-in-Some+else-not-older w ↦
          (let kept = w.in-Some.kept in
          let test = older_test w.older.result kept.number one.number w.older.ensures in
          sym (ap (λ k. keeping one.node k one) w.in-Some.is ∙ keeping_newer one.node kept one refl (sym test ∙ w.if-not-older.false)))
      | in_default-via-in_default w ↦ sym (ap (λ k. keeping one.node k one) w.in_default.is ∙ keeping_first one.node one refl)
    ]
