-- `unwrap`: the place goes out of the one field, beside the allocator, with what the slot owned.
use Rattle.hn_slot.proofs.Names.{◌≡◌, List, [], ◌∷◌, ◌++◌, refl, sym, ap, ◌∙◌, subst, Val, vptr, vstruct, vcons, vnil, of_list, inst_fn, SProp, ent, emp, id⊢, never, fst∗, ftrue, flft, WpFn, sem, ‵, raw, ◌⊛◌, ◌$◌}
use Rattle.hn_slot.proofs.Names.{◌∵◌, !, qed, by, move, keep, drop, split, fsplit, fjoin, fpick, suffices, use0, use1, feq_l, rewrite, stop, fld, of_opd, no_more, and_then, returns, enter, alloc_all}
use Rattle.hn_slot.proofs.Names.{pass_all, free_all, look_at, get, get_in, sets, agg, sub, whole, fact, fact_i, tables, no, owns, lone, Ptr, block_ptr, null_ptr, ptr_val, in_a_block, types_at, plain, param}
use Rattle.hn_slot.proofs.Names.{nothing, heard, Stays, stay_dropped, walk_of, Goes-blank, Goes-dropped, handle_tells, box_owns, proved_at, leaves, Option, IsSome}
use mir.Raw.{raw as bare}
use contract.BorrowLft.{◌⊑◌}
use Rattle.std_heap.specs.contracts.Global.{the_row as Z}
use Rattle.std_heap.proofs.Global.TheLaws.{the_row_laws as LZ}
use Rattle.std_heap.specs.contracts.GlobalAllocator.TheImpl.{ghosts as g}
use Rattle.hn_slot.specs.Held.{held_by, heap_owns}
use Rattle.hn_slot.proofs.Held.{one, value_of, given_type}
use Rattle.hn_slot.proofs.Parts.{both, heap, fits, parts_in}
use Rattle.hn_slot.specs.contracts.slot.Slot as slot
use Rattle.hn_slot.specs.contracts.slot.Slot.unwrap as f
use Rattle.hn_slot.proofs.slot.Slot.unwrap.Statement.{statement}
use Rattle.hn_slot.proofs.slot.Slot.unwrap.Code as code

pub unwrap_spec : {M : Type 1} → statement M
unfolding held_by
unwrap_spec 𝓤 𝓛 𝓜 𝓡 wired V LV value_drop value_glue =
    let 𝓣 = tables 𝓤 𝓛.H 𝓜 𝓡 𝓡.env in
    let ended = f.ended V value_drop in
    let clauses = f.clauses V value_drop 𝓛 𝓜.mem 𝓡.returns in
    let R = param 0 V in let Held = slot.the_row R in
    let fn = inst_fn (given_type V value_drop) code.function in
    let stayed : Stays ended.signature.params ended.kept = (stay_dropped (plain (λ _. Held)) no, (stay_dropped (plain (λ _. Z)) (ended.kept).1.0, tt)) in
    proved_at 𝓛 ended stayed clauses 𝓜 𝓡
    (Goes-blank 𝓛 1 (plain (λ _. Held)) no (λ κs p ok. tt), (Goes-dropped 𝓛 1 (plain (λ _. Z)) (ended.kept).1.0 (λ κs p w. refl), tt))
    (f.Key.name (given_type V value_drop)) fn (code.unfolded 𝓤 𝓛.H 𝓜 𝓡 wired (V, tt) value_drop) (λ y are.
    let κs = y.0.0 in let qs = y.0.1 in let self = y.0.3.0 in let a = y.0.3.1.0 in
    let Post : Val → SProp 𝓤 = (walk_of 𝓛 ended stayed clauses).post y in
    let Run : List Val → SProp 𝓤 = λ vs. WpFn 𝓤 𝓛.H 𝓣.C 𝓣.Λ fn vs Post in
    let tokens = ‵ (flft κs.0 qs.0) ⊛ ‵ ftrue in
    qed 𝓛 ((tokens ⊛ ‵ (owns (types_at ended.signature.params κs) y.0.3 y.0.4)) ∷ raw ((clauses κs y.0.3).requires y.1) ∷ []) ∵
    move ! (1 ∷ []) $ use1 𝓛 (raw (fact 𝓤 (κs.0 ⊑ V.lives)) ⊛ raw (fact 𝓤 (IsSome self.held))) (id⊢ 𝓤 _) $ split ! $ drop ! $ heard ! (IsSome self.held) (λ some.
    let k = (value_of R self.held some).0 in let is : self.held ≡ one R k = (value_of R self.held some).1 in
    split ! $ move ! (1 ∷ []) $ fsplit ! $ fsplit ! $ fpick ! (λ fields. fsplit ! $ feq_l ! (λ is_slot. fsplit ! $ feq_l ! (λ is_place. drop ! $
    -- [what the slot owns; the other parameter; the tokens]
    rewrite ! 0 (λ (held : Option R.Denot). ‵ (held_by (heap_owns R) self.at held)) is refl $
    in_a_block ! self.at (λ at. box_owns (g.dealloc_token a) R at k) (fst∗ 𝓤 (never 𝓤) (sem 𝓛 (g.dealloc_token a (bare (lone R.mir)) null_ptr))) (λ b o at_block.
    move ! (1 ∷ []) $ fsplit ! $ handle_tells (heap R Z LZ g) ! a y.0.4.1.0 (λ h is_heap good. move ! (2 ∷ []) $
    -- [what the place owns; the allocator; nothing; the tokens]
    let v : Val = vstruct (vcons (vptr b o) vnil) in
    let is_value : y.0.4.0 ≡ v ∷ [] = is_slot ∙ (λ i. vstruct (of_list ((is_place ∙ ap (λ (at : Ptr). ptr_val at ∷ []) at_block) i ++ [])) ∷ []) in
    suffices ! (Run (v ∷ h ∷ [])) (subst (λ (us : List Val). ent 𝓤 (Run (v ∷ h ∷ [])) (Run us)) (sym (λ i. is_value i ++ (is_heap i ++ []))) (id⊢ 𝓤 (Run (v ∷ h ∷ [])))) $
    enter ! 𝓣.C 𝓣.Λ fn (v ∷ h ∷ []) Post $ alloc_all ! (λ l. pass_all ! refl ((tt, (tt, tt)), (good, tt)) $
    sets ! (of_opd ! (get_in ! (fld ! refl (stop !)) (sub ! 0 refl (whole !)))) refl (tt, tt) $
    sets ! (agg ! (and_then ! (get ! refl) (and_then ! (get ! refl) (no_more !)))) refl (fits R Z LZ g b o h good) $
    parts_in R Z LZ g ! b o h a k $
    use0 𝓛 (raw (fact 𝓤 (self.held ≡ one R k))) (fact_i 𝓤 (self.held ≡ one R k) (emp 𝓤) is) $ nothing ! $ nothing ! $ fjoin ! $ nothing ! $ fjoin ! $
    returns ! (look_at ! 0 refl) $ free_all ! refl $ keep ! (4 ∷ 0 ∷ 2 ∷ 1 ∷ []) $
    by ! (leaves 𝓛 ended stayed clauses y (both h (vptr b o)) (record { alloc = a; at = block_ptr b o; value = k }) (tt, (tt, tt)) (tt, (tt, tt)))))))))))
