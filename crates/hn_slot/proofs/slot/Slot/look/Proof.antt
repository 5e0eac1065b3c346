-- `look`: the place goes out of the one field, is compared with null, and goes into a slot again.
use Rattle.hn_slot.proofs.Names.{◌≡◌, List, [], ◌∷◌, ◌++◌, refl, ◌∙◌, is_none, true, ◌&&◌, T, ty_ptr, Val, vbool, vstruct, vcons, vnil, of_list, has_ty, WT, inst_fn, SProp, emp, ftrue, flft, WpFn, ‵, raw, ◌⊛◌}
use Rattle.hn_slot.proofs.Names.{◌$◌, ◌∵◌, !, qed, by, move, keep, drop, split, fsplit, fjoin, fpick, fpack, suffices, use0, use1, feq_i, feq_l, stop, fld, of_opd, no_more, and_then, returns, enter}
use Rattle.hn_slot.proofs.Names.{alloc_all, pass_all, free_all, look_at, get, get_in, sets, agg, sub, whole, fact, fact_i, tables, no, RawPtr, Valss, owns, ptr_val, rawptr_Lawful, types_at, plain, param}
use Rattle.hn_slot.proofs.Names.{nothing, within, shape, Stays, stay_dropped, walk_of, Goes-blank, proved_at, leaves, and_tt, held_by, heap_owns}
use types.Kit.{given, learn}
use types.Run.{bin, lit}
use types.ByLocal.{is}
use denote.Builtin.{bool}
use denote.RawPtr.{tests_null}
use Rattle.hn_slot.proofs.Held.{is_null, answered, Tells, tested, given_type}
use Rattle.hn_slot.proofs.Parts.{both, one_argument, paired}
use Rattle.hn_slot.specs.contracts.slot.Slot as slot
use Rattle.hn_slot.specs.contracts.slot.Slot.look as f
use Rattle.hn_slot.proofs.slot.Slot.look.Statement.{statement}
use Rattle.hn_slot.proofs.slot.Slot.look.Code as code

pub look_spec : {M : Type 1} → statement M
look_spec 𝓤 𝓛 𝓜 𝓡 wired V LV value_drop value_glue =
    let 𝓣 = tables 𝓤 𝓛.H 𝓜 𝓡 𝓡.env in
    let ended = f.ended V value_drop in
    let clauses = f.clauses V value_drop 𝓛 𝓜.mem 𝓡.returns in
    let R = param 0 V in let Held = slot.the_row R in
    let fn = inst_fn (given_type V value_drop) code.function in
    let stayed : Stays ended.signature.params ended.kept = (stay_dropped (plain (λ _. Held)) no, tt) in
    proved_at 𝓛 ended stayed clauses 𝓜 𝓡 (Goes-blank 𝓛 1 (plain (λ _. Held)) no (λ κs p ok. tt), tt)
    (f.Key.name (given_type V value_drop)) fn (code.unfolded 𝓤 𝓛.H 𝓜 𝓡 wired (V, tt) value_drop) (λ y are.
    let κs = y.0.0 in let qs = y.0.1 in let self = y.0.3.0 in
    let Post : Val → SProp 𝓤 = (walk_of 𝓛 ended stayed clauses).post y in
    let Run : List Val → SProp 𝓤 = λ vs. WpFn 𝓤 𝓛.H 𝓣.C 𝓣.Λ fn vs Post in
    let place : Val = ptr_val self.at in let h : Val = vstruct (vcons place vnil) in let null = is_null self.at in
    let typed = (rawptr_Lawful 𝓛).typed self.at _ refl in
    let fits : T (has_ty ty_ptr place && true) × WT h = (and_tt (has_ty ty_ptr place) typed.0.0, (typed.0.1, tt)) in
    let tokens = ‵ (flft κs.0 qs.0) ⊛ ‵ ftrue in
    qed 𝓛 ((tokens ⊛ ‵ (owns (types_at ended.signature.params κs) y.0.3 y.0.4)) ∷ raw ((clauses κs y.0.3).requires y.1) ∷ []) ∵
    split ! $ move ! (1 ∷ []) $ fsplit ! $ fsplit ! $ fpick ! (λ fields. fsplit ! $ feq_l ! (λ is_slot. fsplit ! $ feq_l ! (λ is_place. drop ! $
    -- [what the slot owns; nothing; the tokens; the `requires`]
    use1 𝓛 (given (Tells R self.at self.held) (‵ (held_by (heap_owns R) self.at self.held))) (tested R 𝓛 self.at self.held) $ learn ! (λ tells.
    suffices ! (Run (h ∷ [])) (one_argument 𝓤 Run h y.0.4.0 (is_slot ∙ (λ i. vstruct (of_list (is_place i ++ [])) ∷ []))) $
    enter ! 𝓣.C 𝓣.Λ fn (h ∷ []) Post $ alloc_all ! (λ l. pass_all ! refl (fits, tt) $
    sets ! (of_opd ! (get_in ! (fld ! refl (stop !)) (sub ! 0 refl (whole !)))) refl typed.0 $
    sets ! (is ! (bin ! (get ! refl) (lit ! tt) (tests_null self.at tells.testable)) (answered self.at)) refl (tt, tt) $
    sets ! (agg ! (and_then ! (get ! refl) (no_more !))) refl fits $
    sets ! (agg ! (and_then ! (get ! refl) (and_then ! (get ! refl) (no_more !)))) refl (and_tt (has_ty ty_ptr place && true) fits.0, (tt, (fits.1, tt))) $
    -- what the fields own, then the slot, and then the pair
    nothing ! $ feq_i ! (List Val) (place ∷ []) (place ∷ []) refl $ fjoin ! $ feq_i ! (List Val) (h ∷ []) (h ∷ []) refl $ fjoin ! $
    fpack ! (Valss (RawPtr ∷ [])) (within (shape (slot.the_type R)) (self.at, tt) (h ∷ [])) (place ∷ [], tt) $ fjoin ! $
    feq_i ! (List Val) (vbool null ∷ []) (vbool null ∷ []) refl $ paired bool Held ! null self (vbool null) h $
    use0 𝓛 (raw (fact 𝓤 ((self.held ≡ self.held) × (null ≡ is_none self.held)))) (fact_i 𝓤 ((self.held ≡ self.held) × (null ≡ is_none self.held)) (emp 𝓤) (refl, tells.is)) $
    nothing ! $ nothing ! $ fjoin ! $ returns ! (look_at ! 0 refl) $ free_all ! refl $ keep ! (4 ∷ 0 ∷ 2 ∷ 1 ∷ []) $
    by ! (leaves 𝓛 ended stayed clauses y (both (vbool null) h) (null, self) (tt, tt) (tt, tt))))))))
