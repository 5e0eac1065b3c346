-- `none_at`: the pointer, which is null, is the one field, and the handle owns nothing.
use Rattle.hn_handle.proofs.Names.{◌≡◌, List, [], ◌∷◌, refl, sym, ty_ptr, Val, vstruct, vcons, vnil, has_ty, emp, ‵, raw, rewrite, ◌$◌, ◌∵◌, !, qed, by, keep, drop, fjoin, fpack, use0, feq_i, no_more}
use Rattle.hn_handle.proofs.Names.{and_then, returns, enter, alloc_all, pass_all, free_all, look_at, get, sets, agg, fact, fact_i, RawPtr, Valss, Ptr, null_ptr, rawptr_Lawful, ptr_val, plain, nothing}
use Rattle.hn_handle.proofs.Names.{heard, within, shape, Stays, stay_dropped, walk_of, Goes-dropped, leaves, and_tt}
use denote.RawPtr.{rawptr_vals, rawptr_Tells}
use denote.Triple.Entry.{on_entry}
use Rattle.std.proofs.raw_atomic.Walks.{proved}
use Rattle.hn_handle.specs.Held.{held_at, nowhere}
use Rattle.hn_handle.proofs.Held.{none}
use Rattle.hn_handle.specs.contracts.handle.Handle as handle
use Rattle.hn_handle.specs.contracts.handle.Handle.none_at as f
use Rattle.hn_handle.proofs.handle.Handle.none_at.Statement.{statement}
use Rattle.hn_handle.proofs.handle.Handle.none_at.Code as code

abbrev stayed : Stays f.ended.signature.params f.ended.kept
stayed = (stay_dropped (plain (λ _. RawPtr)) (f.ended).kept.0, tt)

pub none_at_spec : {M : Type 1} → statement M
unfolding held_at
none_at_spec 𝓤 𝓛 𝓜 𝓡 wired =
    let clauses = f.clauses 𝓛 𝓜.mem 𝓡.returns in
    proved 𝓛 f.ended stayed clauses 𝓜 𝓡 (Goes-dropped 𝓛 0 (plain (λ _. RawPtr)) (f.ended).kept.0 (λ κs p w. refl), tt)
    f.Key.name code.function (code.unfolded 𝓤 𝓛.H 𝓜 𝓡 wired)
    (λ κs. (rawptr_vals, tt)) (λ κs. (rawptr_Tells, tt)) (λ κs qs bounds a n are.
    let y : (walk_of 𝓛 f.ended stayed clauses).Ghost = ((κs, qs, bounds, a, (rawptr_vals a.0, tt)), n) in
    let place : Val = ptr_val a.0 in let h : Val = vstruct (vcons place vnil) in
    let typed = (rawptr_Lawful 𝓛).typed a.0 _ refl in
    qed 𝓛 (raw (on_entry 𝓛 f.signature κs qs a y.0.4) ∷ raw (fact 𝓤 (a.0 ≡ null_ptr)) ∷ []) ∵ drop ! $ heard ! (a.0 ≡ null_ptr) (λ is.
    enter ! _ _ _ _ _ $ alloc_all ! (λ l. pass_all ! refl typed $
    sets ! (agg ! (and_then ! (get ! refl) (no_more !))) refl (and_tt (has_ty ty_ptr place) typed.0.0, (typed.0.1, tt)) $
    -- what the fields own, what the handle owns beside them, and then the handle
    nothing ! $ rewrite ! 0 (λ (p : Ptr). ‵ (nowhere p)) (sym is) refl $ nothing ! $ feq_i ! (List Val) (place ∷ []) (place ∷ []) refl $ fjoin ! $ feq_i ! (List Val) (h ∷ []) (h ∷ []) refl $ fjoin ! $
    fpack ! (Valss (RawPtr ∷ [])) (within (shape handle.the_type) (a.0, tt) (h ∷ [])) (place ∷ [], tt) $ fjoin ! $
    use0 𝓛 (raw (fact 𝓤 (none ≡ none))) (fact_i 𝓤 (none ≡ none) (emp 𝓤) refl) $ nothing ! $ nothing ! $ fjoin ! $ nothing ! $
    returns ! (look_at ! 0 refl) $ free_all ! refl $ keep ! (0 ∷ 1 ∷ 3 ∷ 2 ∷ []) $
    by ! (leaves 𝓛 f.ended stayed clauses y h (record { at = a.0; held = none }) (tt, tt) (tt, tt)))))
