use Rattle.hn_base.proofs.Names.{[], ◌∷◌, ◌++◌, List, Option, sym, subst, append-nil}
use Rattle.hn_watch.proofs.Names.{option_to_list, plain, Shown, Shows, AreShownBy}
use Rattle.hn_watch.proofs.ShownLemmas.{shown_push}
use Rattle.hn_watch.proofs.reading.add_shown.Goals as goal

pub returns-in_ok-push : goal.returns-in_ok-push
returns-in_ok-push c tlvs by =
    let tlv = plain c.args.tlv.now in
    subst (λ (xs : List Shown). AreShownBy (tlvs ++ tlv ∷ []) xs) (sym c.in_ok-push.ensures.ok) (shown_push tlvs c.args.shown.now tlv (c.in-Some.one ∷ []) by c.in-Some.ensures)

pub returns-in_default : goal.returns-in_default
returns-in_default c tlvs by =
    let tlv = plain c.args.tlv.now in
    subst (λ (xs : List Shown). AreShownBy (tlvs ++ tlv ∷ []) xs) (append-nil c.args.shown.now)
    (shown_push tlvs c.args.shown.now tlv [] by (subst (λ (o : Option Shown). Shows tlv (option_to_list o)) c.in_default.is c.shown_by_tlv.ensures))
