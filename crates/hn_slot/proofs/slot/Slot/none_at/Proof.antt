-- `none_at`: the pointer, which is null, is the one field, and the slot owns nothing.
use Rattle.hn_slot.proofs.Names.{◌≡◌, List, [], ◌∷◌, refl, sym, ty_ptr, Val, vstruct, vcons, vnil, has_ty, inst_fn, SProp, emp, ftrue, flft, WpFn, ‵, raw, ◌⊛◌, rewrite, ◌$◌, ◌∵◌, !, qed, by, move, keep, drop, split, fsplit, fjoin, fpack, suffices, use0, use1, id⊢, feq_i, feq_l, no_more}
use Rattle.hn_slot.proofs.Names.{and_then, returns, enter, alloc_all, pass_all, free_all, look_at, get, sets, agg, fact, fact_i, tables, owns, types_at, RawPtr, Valss, Ptr, null_ptr, rawptr_Lawful, ptr_val, plain, param, nothing}
use Rattle.hn_slot.proofs.Names.{heard, within, shape, Stays, stay_dropped, walk_of, Goes-dropped, proved_at, leaves, and_tt}
use contract.BorrowLft.{◌⊑◌}
use Rattle.hn_slot.specs.Held.{held_by, at_null}
use Rattle.hn_slot.proofs.Held.{none, given_type}
use Rattle.hn_slot.proofs.Parts.{one_argument}
use Rattle.hn_slot.specs.contracts.slot.Slot as slot
use Rattle.hn_slot.specs.contracts.slot.Slot.none_at as f
use Rattle.hn_slot.proofs.slot.Slot.none_at.Statement.{statement}
use Rattle.hn_slot.proofs.slot.Slot.none_at.Code as code

pub none_at_spec : {M : Type 1} → statement M
unfolding held_by
none_at_spec 𝓤 𝓛 𝓜 𝓡 wired V LV value_drop value_glue =
    let 𝓣 = tables 𝓤 𝓛.H 𝓜 𝓡 𝓡.env in
    let ended = f.ended V value_drop in
    let clauses = f.clauses V value_drop 𝓛 𝓜.mem 𝓡.returns in
    let R = param 0 V in
    let fn = inst_fn (given_type V value_drop) code.function in
    let stayed : Stays ended.signature.params ended.kept = (stay_dropped (plain (λ _. RawPtr)) (ended.kept).0, tt) in
    proved_at 𝓛 ended stayed clauses 𝓜 𝓡 (Goes-dropped 𝓛 1 (plain (λ _. RawPtr)) (ended.kept).0 (λ κs p w. refl), tt)
    (f.Key.name (given_type V value_drop)) fn (code.unfolded 𝓤 𝓛.H 𝓜 𝓡 wired (V, tt) value_drop) (λ y are.
    let κs = y.0.0 in let qs = y.0.1 in let at = y.0.3.0 in
    let Post : Val → SProp 𝓤 = (walk_of 𝓛 ended stayed clauses).post y in
    let Run : List Val → SProp 𝓤 = λ vs. WpFn 𝓤 𝓛.H 𝓣.C 𝓣.Λ fn vs Post in
    let place : Val = ptr_val at in let h : Val = vstruct (vcons place vnil) in
    let typed = (rawptr_Lawful 𝓛).typed at _ refl in
    let tokens = ‵ (flft κs.0 qs.0) ⊛ ‵ ftrue in
    qed 𝓛 ((tokens ⊛ ‵ (owns (types_at ended.signature.params κs) y.0.3 y.0.4)) ∷ raw ((clauses κs y.0.3).requires y.1) ∷ []) ∵
    move ! (1 ∷ []) $ use1 𝓛 (raw (fact 𝓤 (κs.0 ⊑ V.lives)) ⊛ raw (fact 𝓤 (at ≡ null_ptr))) (id⊢ 𝓤 _) $ split ! $ drop ! $ heard ! (at ≡ null_ptr) (λ is.
    split ! $ move ! (1 ∷ []) $ fsplit ! $ feq_l ! (λ is_place.
    suffices ! (Run (place ∷ [])) (one_argument 𝓤 Run place y.0.4.0 is_place) $
    enter ! 𝓣.C 𝓣.Λ fn (place ∷ []) Post $ alloc_all ! (λ l. pass_all ! refl typed $
    sets ! (agg ! (and_then ! (get ! refl) (no_more !))) refl (and_tt (has_ty ty_ptr place) typed.0.0, (typed.0.1, tt)) $
    -- what the fields own, what the slot owns beside them, and then the slot
    nothing ! $ rewrite ! 0 (λ (p : Ptr). ‵ (at_null p)) (sym is) refl $ nothing ! $ feq_i ! (List Val) (place ∷ []) (place ∷ []) refl $ fjoin ! $ feq_i ! (List Val) (h ∷ []) (h ∷ []) refl $ fjoin ! $
    fpack ! (Valss (RawPtr ∷ [])) (within (shape (slot.the_type R)) (at, tt) (h ∷ [])) (place ∷ [], tt) $ fjoin ! $
    use0 𝓛 (raw (fact 𝓤 (none R ≡ none R))) (fact_i 𝓤 (none R ≡ none R) (emp 𝓤) refl) $ nothing ! $ nothing ! $ fjoin ! $
    returns ! (look_at ! 0 refl) $ free_all ! refl $ keep ! (4 ∷ 0 ∷ 2 ∷ 1 ∷ []) $
    by ! (leaves 𝓛 ended stayed clauses y h (record { at = at; held = none R }) (tt, tt) (tt, tt))))))
