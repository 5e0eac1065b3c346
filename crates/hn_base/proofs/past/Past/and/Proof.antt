-- The body stores a struct without data and reads neither reference, so both are returned as they were passed.
use Rattle.hn_base.proofs.Names.{proved}
use Rattle.hn_base.proofs.Names.{refl, [], ◌∷◌, a_type, inst_fn, ‵, raw, ◌⊛◌, ◌$◌, ◌∵◌, !, qed, move, keep, split, suffices, done, agg, enter, returns, and_then, no_more, alloc_all, pass_all}
use Rattle.hn_base.proofs.Names.{free_all, look_at, get, sets, RattleType, owns, param, layouts, types_at, alive, says, ends_at}
use mathlib.Core.List.{◌++◌}
use mir.Syntax.{named}
use denote.Exit.{yes}
use denote.RattleType.{Valss}
use denote.Ref.{shr_vals, shr_Tells}
use denote.Signature.{plain}
use denote.Triple.Walked.{Stays, stay_none_ref, Goes-none_ref}
use Rattle.hn_base.proofs.PastOwnsNothing.{stored, past_owns_nothing}
use Rattle.hn_base.specs.contracts.past.Past as past
use Rattle.hn_base.specs.contracts.past.Past.and as f
use Rattle.hn_base.proofs.past.Past.and.Statement.{statement}
use Rattle.hn_base.proofs.past.Past.and.Code as code

pub and_spec : {M : Type 1} → statement M
and_spec 𝓤 𝓛 𝓜 𝓡 wired A laws =
    let item : RattleType = param 0 A in let whole : RattleType = past.the_row item in
    let layout = layouts (a_type ∷ []) (A, tt) in
    let ended = f.ended A in let clauses = f.clauses A 𝓛 𝓜.mem 𝓡.returns in
    let stays : Stays ended.signature.params ended.kept =
    (stay_none_ref (0 ∷ []) tt (plain (λ _. whole)) yes, (stay_none_ref (1 ∷ []) tt (plain (λ _. item)) yes, tt)) in
    proved 𝓛 ended stays clauses 𝓜 𝓡
    (Goes-none_ref 𝓛 3 (0 ∷ []) tt (plain (λ _. whole)) yes, (Goes-none_ref 𝓛 3 (1 ∷ []) tt (plain (λ _. item)) yes, tt))
    (f.Key.name layout) (inst_fn layout code.function) (code.unfolded 𝓤 𝓛.H 𝓜 𝓡 wired (A, tt))
    (λ κs. (shr_vals, (shr_vals, tt))) (λ κs. (shr_Tells (named 0) κs.0 whole, (shr_Tells (named 1) κs.1.0 item, tt)))
    (λ κs qs bounds a g are.
    let passed : Valss (types_at ended.signature.params κs) = (shr_vals a.0, (shr_vals a.1.0, tt)) in
    let made : whole.Denot = record { of = record {}; items = a.0.now.items ++ a.1.0.now ∷ [] } in
    qed 𝓛 ((raw (alive 𝓛 ended.signature κs qs) ⊛ ‵ (owns (types_at ended.signature.params κs) a passed))
    ∷ raw ((clauses κs a).requires g) ∷ []) ∵
    keep ! (0 ∷ []) $ split ! $
    enter ! _ _ _ _ _ $ alloc_all ! (λ l. pass_all ! refl ((tt, tt), ((tt, tt), tt)) $
    sets ! (agg ! (no_more !)) refl (tt, tt) $
    sets ! (agg ! (and_then ! (get ! refl) (no_more !))) refl (tt, (tt, tt)) $
    returns ! (look_at ! 0 refl) $ free_all ! refl $
    suffices ! _ (ends_at 𝓛 ended stays clauses ((κs, qs, bounds, a, passed), g) stored made (tt, (tt, tt)) (tt, (tt, tt))) $
    says ! refl $ past_owns_nothing ! item made $ move ! (1 ∷ 2 ∷ 0 ∷ []) $ done !))
