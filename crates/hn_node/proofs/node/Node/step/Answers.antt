use Rattle.hn_base.proofs.Names.{◌≡◌, ◌≤◌, ◌∷◌, [], ◌++◌, inr, length, sym, subst, on_ok_weaker}
use Rattle.hn_node.proofs.Names.{Outgoing, plain_site}
use Rattle.std.proofs.Common.{All}
use Rattle.hn_node.proofs.Stepped.{of_ok, of_err, entry_of, entered_sends, stepped, cut_step}
use Rattle.hn_node.proofs.node.Node.step.Goals as goal

pub hand_all-requires-clause-short : goal.hand_all-requires-clause-short
hand_all-requires-clause-short g c =
    let pushed : c.push.new.self ≡ c.args.self.now.log ++ entry_of c.args.now c.args.event c.in-Ok.done ∷ [] = of_ok c.push.result _ c.push.ensures.ok c.if-is_err.ensures.value in
    let are = entered_sends c.args.now c.args.event c.in-Ok.done _ _ _ _ _ _ pushed c.as_slice.ensures c.len-at.ensures c.as_slice-sends.ensures in
    subst (All (λ (o : Outgoing). length o.bytes ≤ 65507)) (sym are) c.in-Ok.ensures.short

pub returns-clause-ok : goal.returns-clause-ok
returns-clause-ok g c =
    let pushed : c.push.new.self ≡ c.args.self.now.log ++ entry_of c.args.now c.args.event c.in-Ok.done ∷ [] = of_ok c.push.result _ c.push.ensures.ok c.if-is_err.ensures.value in
    let are = entered_sends c.args.now c.args.event c.in-Ok.done _ _ _ _ _ _ pushed c.as_slice.ensures c.len-at.ensures c.as_slice-sends.ensures in
    let limit = c.limit_stays.ensures c.args.now _ c.args.self.now.router c.act.new.self c.in-Ok.done c.in-Ok.ensures.happened in
    on_ok_weaker c.hand_all.result
    (stepped (plain_site c.args.site.now) c.args.now c.args.event _ c.in-Ok.done _ _ _ _ c.args.self.now _ _ _ _ c.event.ensures
    c.in-Ok.ensures.happened c.in-Ok.ensures.drew c.requires.short c.in-Ok.ensures.short limit pushed are)
    c.hand_all.ensures.ok

pub returns-clause-cut : goal.returns-clause-cut
returns-clause-cut g c = λ failed.
    let pushed : c.push.new.self ≡ c.args.self.now.log ++ entry_of c.args.now c.args.event c.in-Ok.done ∷ [] = of_ok c.push.result _ c.push.ensures.ok c.if-is_err.ensures.value in
    let are = entered_sends c.args.now c.args.event c.in-Ok.done _ _ _ _ _ _ pushed c.as_slice.ensures c.len-at.ensures c.as_slice-sends.ensures in
    let limit = c.limit_stays.ensures c.args.now _ c.args.self.now.router c.act.new.self c.in-Ok.done c.in-Ok.ensures.happened in
    cut_step (plain_site c.args.site.now) c.args.now c.args.event _ c.in-Ok.done _ _ _ _ c.args.self.now _ _ _ _ c.event.ensures
    c.in-Ok.ensures.happened c.in-Ok.ensures.drew c.requires.short c.in-Ok.ensures.short limit pushed are
    (of_err c.hand_all.result _ _ c.hand_all.ensures.cut failed)

pub returns-clause-starved : goal.returns-clause-starved
returns-clause-starved g c = λ starved.
    let pushed : c.push.new.self ≡ c.args.self.now.log ++ entry_of c.args.now c.args.event c.in-Ok.done ∷ [] = of_ok c.push.result _ c.push.ensures.ok c.if-is_err.ensures.value in
    let are = entered_sends c.args.now c.args.event c.in-Ok.done _ _ _ _ _ _ pushed c.as_slice.ensures c.len-at.ensures c.as_slice-sends.ensures in
    let limit = c.limit_stays.ensures c.args.now _ c.args.self.now.router c.act.new.self c.in-Ok.done c.in-Ok.ensures.happened in
    let cut = cut_step (plain_site c.args.site.now) c.args.now c.args.event _ c.in-Ok.done _ _ _ _ c.args.self.now _ _ _ _ c.event.ensures
    c.in-Ok.ensures.happened c.in-Ok.ensures.drew c.requires.short c.in-Ok.ensures.short limit pushed are
    (of_err c.hand_all.result _ _ c.hand_all.ensures.cut starved) in
    inr (cut.0, cut.1, c.act.new.self, cut.2)
