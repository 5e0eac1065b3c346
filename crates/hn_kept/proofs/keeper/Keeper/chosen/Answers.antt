use Rattle.hn_base.proofs.Names.{◌≡◌, ◌≢◌, ◌∙◌, List, [], sym, ap, subst}
use Rattle.std.proofs.lemmas.Result.{IfOk-weaker}
use Rattle.rand_chacha.specs.ChaCha.{ChaCha}
use Rattle.hn_router.specs.Act.{plain_event, Tick}
use Rattle.hn_kept.specs.declared.preferred.Preferred.{Preferred}
use Rattle.hn_kept.specs.Choosing.{PlainAsked, AreChosen}
use Rattle.hn_kept.specs.Kept.{Kept, asked_of}
use Rattle.hn_kept.specs.Words.{AreDrawn}
use Rattle.hn_kept.proofs.DrawnWords.{none_drawn}
use Rattle.hn_kept.proofs.keeper.Keeper.chosen.Goals as goal

pub returns-then-not-matches-clause-drawn : goal.returns-then-not-matches-clause-drawn
returns-then-not-matches-clause-drawn c =
    subst (AreDrawn c.args.self.now.preferred c.args.self.now.words) (sym c.new.ensures) (none_drawn c.args.self.now.preferred c.args.self.now.words)

pub returns-clause-chosen : goal.returns-clause-chosen
returns-clause-chosen c =
    let event = plain_event c.args.event.now in
    let k : Kept = c.args.self.now in
    let ask : PlainAsked = record { moment = c.args.now; event = event; router = c.self.inside.router; words = c.self.inside.words; preferred = c.as_slice-preferred.result.now } in
    let router = ap (λ (kept : Kept). kept.router) c.self.view_is in
    let words = ap (λ (kept : Kept). kept.words) c.self.view_is in
    let preferred = c.as_slice-preferred.ensures.value ∙ ap (λ (kept : Kept). kept.preferred) c.self.view_is in
    let same : ask ≡ asked_of c.args.now event k = λ i. record { moment = c.args.now; event = event; router = router i; words = words i; preferred = preferred i } in
    IfOk-weaker c.choose.result (AreChosen ask) (λ ws. event ≡ Tick → k.preferred ≢ [] → AreChosen (asked_of c.args.now event k) ws)
    (λ ws h tick some. subst (λ (a : PlainAsked). AreChosen a ws) same h) c.choose.ensures

pub returns-clause-drawn : goal.returns-clause-drawn
returns-clause-drawn c =
    let event = plain_event c.args.event.now in
    let k : Kept = c.args.self.now in
    let ask : PlainAsked = record { moment = c.args.now; event = event; router = c.self.inside.router; words = c.self.inside.words; preferred = c.as_slice-preferred.result.now } in
    let words = ap (λ (kept : Kept). kept.words) c.self.view_is in
    let preferred = c.as_slice-preferred.ensures.value ∙ ap (λ (kept : Kept). kept.preferred) c.self.view_is in
    IfOk-weaker c.choose.result (AreChosen ask) (AreDrawn k.preferred k.words)
    (λ ws h. subst (λ (g : ChaCha). AreDrawn k.preferred g ws) words (subst (λ (fs : List Preferred). AreDrawn fs c.self.inside.words ws) preferred h.drawn)) c.choose.ensures
