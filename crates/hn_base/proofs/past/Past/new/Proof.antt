-- The body stores a struct without data, and the walk names the empty list as its items.
use Rattle.hn_base.proofs.Names.{proved}
use Rattle.hn_base.proofs.Names.{refl, [], ◌∷◌, a_type, inst_fn, ‵, raw, ◌⊛◌, ◌$◌, ◌∵◌, !, qed, move, keep, split, suffices, done, agg, enter, returns, and_then, no_more, alloc_all, pass_all}
use Rattle.hn_base.proofs.Names.{free_all, look_at, get, sets, owns, param, layouts, types_at, alive, says, ends_at}
use Rattle.hn_base.proofs.PastOwnsNothing.{stored, past_owns_nothing}
use Rattle.hn_base.specs.contracts.past.Past as past
use Rattle.hn_base.specs.contracts.past.Past.new as f
use Rattle.hn_base.proofs.past.Past.new.Statement.{statement}
use Rattle.hn_base.proofs.past.Past.new.Code as code

pub new_spec : {M : Type 1} → statement M
new_spec 𝓤 𝓛 𝓜 𝓡 wired A laws =
    let layout = layouts (a_type ∷ []) (A, tt) in
    let ended = f.ended A in let clauses = f.clauses A 𝓛 𝓜.mem 𝓡.returns in
    let made : (past.the_row (param 0 A)).Denot = record { of = record {}; items = [] } in
    proved 𝓛 ended tt clauses 𝓜 𝓡 tt (f.Key.name layout) (inst_fn layout code.function)
    (code.unfolded 𝓤 𝓛.H 𝓜 𝓡 wired (A, tt)) (λ κs. tt) (λ κs. tt) (λ κs qs bounds a g are.
    qed 𝓛 ((raw (alive 𝓛 ended.signature κs qs) ⊛ ‵ (owns (types_at ended.signature.params κs) a tt)) ∷ raw ((clauses κs a).requires g) ∷ []) ∵
    keep ! (0 ∷ []) $ split ! $
    enter ! _ _ _ _ _ $ alloc_all ! (λ l. pass_all ! refl tt $
    sets ! (agg ! (no_more !)) refl (tt, tt) $
    sets ! (agg ! (and_then ! (get ! refl) (no_more !))) refl (tt, (tt, tt)) $
    returns ! (look_at ! 0 refl) $ free_all ! refl $
    suffices ! _ (ends_at 𝓛 ended tt clauses ((κs, qs, bounds, a, tt), g) stored made tt tt) $
    says ! refl $ past_owns_nothing ! (param 0 A) made $ move ! (1 ∷ 2 ∷ 0 ∷ []) $ done !))
