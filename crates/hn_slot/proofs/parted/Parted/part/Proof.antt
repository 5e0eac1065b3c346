-- `part`: `Box::into_raw_with_allocator` gives the place and the allocator, which become the two fields.
use Rattle.hn_slot.proofs.Names.{◌≡◌, List, [], ◌∷◌, ◌++◌, refl, ap, ◌∙◌, Val, vptr, vstruct, of_list, inst_fn, SProp, emp, never, id⊢, fst∗, ftrue, flft, WpFn, sem, ‵, raw, ◌⊛◌, some, later, ◌$◌}
use Rattle.hn_slot.proofs.Names.{◌∵◌, !, qed, by, move, keep, drop, split, split3, join, fsplit, fjoin, fpick, pick, suffices, use0, use1, await, rewrite, feq_l, stop, fld, of_opd, no_more}
use Rattle.hn_slot.proofs.Names.{and_then, returns, enter, alloc_all, pass_all, free_all, look_at, get, get_in, sets, agg, sub, whole, fact, fact_i, tables, no, owns, types_at, plain, RawPtr, Ptr}
use Rattle.hn_slot.proofs.Names.{block_ptr, null_ptr, ptr_val, in_a_block, lone, nothing, only, heard, param, param_laws, Tuple, triple_of, framed, Stays, stay_dropped, walk_of, Goes-blank}
use Rattle.hn_slot.proofs.Names.{handle_tells, box_owns, B, box_typed, box_out, box_in, proved_at, leaves}
use mir.Raw.{raw as bare}
use base.Fml.{fsep}
use types.ByLocal.{lands_as}
use denote.Triple.Call.{calls_at}
use Rattle.std_alloc.proofs.BoxSteps.Form.{word}
use Rattle.std_alloc.specs.contracts.boxed.Box.into_raw_with_allocator as taken
use Rattle.std_alloc.proofs.boxed.Box.into_raw_with_allocator.Met.{met}
use Rattle.hn_slot.proofs.Parts.{both, one_argument, heap, boxed, given, fits, parts_in}
use Rattle.hn_slot.specs.contracts.parted.Parted.part as f
use Rattle.hn_slot.proofs.parted.Parted.part.Statement.{statement}
use Rattle.hn_slot.proofs.parted.Parted.part.Code as code

pub part_spec : {M : Type 1} → statement M
part_spec 𝓤 𝓛 𝓜 𝓡 wired V H LV LH g methods value_drop heap_drop allocator value_glue heap_glue =
    let 𝓣 = tables 𝓤 𝓛.H 𝓜 𝓡 𝓡.env in
    let ended = f.ended V H g methods value_drop heap_drop in
    let clauses = f.clauses V H g methods value_drop heap_drop 𝓛 𝓜.mem 𝓡.returns in
    let R = param 0 V in let Z = param 1 H in let LZ = param_laws 1 H LH in
    let E = boxed V H LV LH g methods heap_drop in
    let args = given V H methods value_drop heap_drop in
    let fn = inst_fn args code.function in
    let stayed : Stays ended.signature.params ended.kept = (stay_dropped (plain (λ _. B E)) no, tt) in
    proved_at 𝓛 ended stayed clauses 𝓜 𝓡 (Goes-blank 𝓛 2 (plain (λ _. B E)) no (λ κs x ok. tt), tt)
    (f.Key.name args) fn (code.unfolded 𝓤 𝓛.H 𝓜 𝓡 wired (V, (H, tt)) methods value_drop heap_drop) (λ y are.
    let κs = y.0.0 in let qs = y.0.1 in let boxed_value = y.0.3.0 in let a = boxed_value.alloc in let x = boxed_value.value in
    let Post : Val → SProp 𝓤 = (walk_of 𝓛 ended stayed clauses).post y in
    let Run : List Val → SProp 𝓤 = λ vs. WpFn 𝓤 𝓛.H 𝓣.C 𝓣.Λ fn vs Post in
    let tokens = ‵ (flft κs.0 qs.0) ⊛ ‵ (flft κs.1.0 qs.1.0) ⊛ ‵ ftrue in
    qed 𝓛 ((tokens ⊛ ‵ (owns (types_at ended.signature.params κs) y.0.3 y.0.4)) ∷ raw ((clauses κs y.0.3).requires y.1) ∷ []) ∵
    split ! $ move ! (1 ∷ []) $ fsplit ! $ box_out E ! boxed_value y.0.4.0 (λ b o h is_block is_word good. box_in E ! boxed_value b o x is_block refl $
    -- [the box; nothing; the tokens; the `requires`]
    let v : Val = word E h b o in
    let callee = triple_of 𝓛 (taken.signature V H g methods heap_drop value_drop) (taken.spec V H g methods heap_drop value_drop 𝓛 𝓜.mem 𝓡.returns) in
    let z : callee.Ghost = ((κs, qs, tt, (boxed_value, tt), (v ∷ [], tt)), tt) in
    fjoin ! $ move ! (1 ∷ 0 ∷ []) $ join ! $ join ! $ use1 𝓛 (raw (callee.pre z)) (id⊢ 𝓤 _) $
    suffices ! (Run (v ∷ [])) (one_argument 𝓤 Run v y.0.4.0 is_word) $
    enter ! 𝓣.C 𝓣.Λ fn (v ∷ []) Post $ alloc_all ! (λ l. pass_all ! refl (box_typed E h b o good, tt) $
    sets ! (of_opd ! (get ! refl)) refl (box_typed E h b o good) $
    calls_at ! (framed 𝓤 𝓛.H 𝓜 𝓣) callee (met 𝓤 𝓛 𝓜 𝓡 (code.calls-std_alloc::boxed::Box::into_raw_with_allocator 𝓡.env wired) V H LV LH g methods heap_drop value_drop allocator heap_glue value_glue) z
    (and_then ! (get ! refl) (no_more !)) (λ u.
    use1 𝓛 (later (some (λ (r : Ptr × H.Denot). (tokens ⊛ ‵ ((Tuple (RawPtr ∷ Z ∷ [])).own_val r (u ∷ []))) ⊛
    some (λ (_ : (Unit {0} × (Unit {0} × Unit {0})) × Unit {0}). ‵ (fsep (fsep ftrue (fsep ftrue ftrue)) ftrue) ⊛ (raw (fact 𝓤 (r.1 ≡ a)) ⊛ ‵ (box_owns (g.dealloc_token a) R r.0 x)))))) (id⊢ 𝓤 _) $
    await ! tt $ pick ! (λ r. split ! $ move ! (1 ∷ []) $ pick ! (λ _. split3 ! $ drop ! $ heard ! (r.1 ≡ a) (λ is_alloc.
    in_a_block ! r.0 (λ p. box_owns (g.dealloc_token a) R p x) (fst∗ 𝓤 (never 𝓤) (sem 𝓛 (g.dealloc_token a (bare (lone R.mir)) null_ptr))) (λ b' o' at_block.
    -- [what the place owns; the tokens with the pair]
    move ! (1 ∷ []) $ split ! $ move ! (1 ∷ []) $ fpick ! (λ fields. fsplit ! $ feq_l ! (λ is_pair. fsplit ! $ feq_l ! (λ is_place. fsplit ! $
    rewrite ! 0 (λ (s : H.Denot). ‵ (Z.own_val s fields.1.0)) is_alloc refl $ handle_tells (heap R Z LZ g) ! a fields.1.0 (λ h' is_heap good'.
    let pair : Val = both (vptr b' o') h' in
    let pair_typed = box_typed E h' b' o' good' in
    lands_as ! (ap only (is_pair ∙ (λ i. vstruct (of_list ((is_place ∙ ap (λ (p : Ptr). ptr_val p ∷ []) at_block) i ++ (is_heap i ++ []))) ∷ []))) refl pair_typed $
    sets ! (of_opd ! (get_in ! (fld ! refl (stop !)) (sub ! 0 refl (whole !)))) refl (tt, tt) $
    sets ! (of_opd ! (get_in ! (fld ! refl (stop !)) (sub ! 1 refl (whole !)))) refl good' $
    sets ! (of_opd ! (get ! refl)) refl good' $
    sets ! (agg ! (and_then ! (get ! refl) (and_then ! (get ! refl) (no_more !)))) refl (fits R Z LZ g b' o' h' good') $
    -- [the allocator; nothing; the tokens; what the place owns]
    move ! (3 ∷ 0 ∷ []) $ parts_in R Z LZ g ! b' o' h' a x $
    use0 𝓛 (raw (fact 𝓤 (x ≡ x))) (fact_i 𝓤 (x ≡ x) (emp 𝓤) refl) $ nothing ! $ nothing ! $ fjoin ! $
    returns ! (look_at ! 0 refl) $ free_all ! refl $ keep ! (4 ∷ 0 ∷ 2 ∷ 1 ∷ []) $
    by ! (leaves 𝓛 ended stayed clauses y (both h' (vptr b' o')) (record { alloc = a; at = block_ptr b' o'; value = x }) ((tt, (tt, tt)), tt) (tt, tt))))))))))))))
