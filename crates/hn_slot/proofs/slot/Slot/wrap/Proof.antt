-- `wrap`: the place is kept as the one field, the allocator is let go, and the slot owns what the place owned.
use Rattle.hn_slot.proofs.Names.{◌≡◌, List, [], ◌∷◌, refl, Val, vptr, vstruct, vcons, vnil, inst_fn, SProp, emp, ftrue, flft, WpFn, ‵, raw, ◌⊛◌, ◌$◌, ◌∵◌, !, qed, by, move, keep, split, fsplit, fjoin, fpack}
use Rattle.hn_slot.proofs.Names.{suffices, use0, feq_i, stop, fld, of_opd, no_more, and_then, returns, enter, alloc_all, pass_all, free_all, look_at, get, get_in, sets, agg, sub, whole, fact}
use Rattle.hn_slot.proofs.Names.{fact_i, tables, no, RawPtr, Valss, owns, block_ptr, types_at, plain, param, nothing, within, shape, Stays, stay_dropped, walk_of, Goes-blank, proved_at, leaves}
use Rattle.std_heap.specs.contracts.Global.{the_row as Z}
use Rattle.std_heap.proofs.Global.TheLaws.{the_row_laws as LZ}
use Rattle.std_heap.specs.contracts.GlobalAllocator.TheImpl.{ghosts as g}
use Rattle.hn_slot.specs.Held.{held_by}
use Rattle.hn_slot.proofs.Held.{one, given_type}
use Rattle.hn_slot.proofs.Parts.{both, one_argument, Apart, fits, parts_out}
use Rattle.hn_slot.specs.contracts.slot.Slot as slot
use Rattle.hn_slot.specs.contracts.slot.Slot.wrap as f
use Rattle.hn_slot.proofs.slot.Slot.wrap.Statement.{statement}
use Rattle.hn_slot.proofs.slot.Slot.wrap.Code as code

pub wrap_spec : {M : Type 1} → statement M
unfolding held_by
wrap_spec 𝓤 𝓛 𝓜 𝓡 wired V LV value_drop value_glue =
    let 𝓣 = tables 𝓤 𝓛.H 𝓜 𝓡 𝓡.env in
    let ended = f.ended V value_drop in
    let clauses = f.clauses V value_drop 𝓛 𝓜.mem 𝓡.returns in
    let R = param 0 V in
    let fn = inst_fn (given_type V value_drop) code.function in
    let stayed : Stays ended.signature.params ended.kept = (stay_dropped (plain (λ _. Apart R Z LZ g)) no, tt) in
    proved_at 𝓛 ended stayed clauses 𝓜 𝓡 (Goes-blank 𝓛 1 (plain (λ _. Apart R Z LZ g)) no (λ κs p ok. tt), tt)
    (f.Key.name (given_type V value_drop)) fn (code.unfolded 𝓤 𝓛.H 𝓜 𝓡 wired (V, tt) value_drop) (λ y are.
    let κs = y.0.0 in let qs = y.0.1 in let p = y.0.3.0 in
    let Post : Val → SProp 𝓤 = (walk_of 𝓛 ended stayed clauses).post y in
    let Run : List Val → SProp 𝓤 = λ vs. WpFn 𝓤 𝓛.H 𝓣.C 𝓣.Λ fn vs Post in
    let tokens = ‵ (flft κs.0 qs.0) ⊛ ‵ ftrue in
    qed 𝓛 ((tokens ⊛ ‵ (owns (types_at ended.signature.params κs) y.0.3 y.0.4)) ∷ raw ((clauses κs y.0.3).requires y.1) ∷ []) ∵
    split ! $ move ! (1 ∷ []) $ fsplit ! $ parts_out R Z LZ g ! p y.0.4.0 (λ b o a is_block is_pair good.
    -- [what the place owns; the allocator; nothing; the tokens; the `requires`]
    let v : Val = both a (vptr b o) in let h : Val = vstruct (vcons (vptr b o) vnil) in
    suffices ! (Run (v ∷ [])) (one_argument 𝓤 Run v y.0.4.0 is_pair) $
    enter ! 𝓣.C 𝓣.Λ fn (v ∷ []) Post $ alloc_all ! (λ l. pass_all ! refl (fits R Z LZ g b o a good, tt) $
    sets ! (of_opd ! (get_in ! (fld ! refl (stop !)) (sub ! 0 refl (whole !)))) refl good $
    sets ! (of_opd ! (get_in ! (fld ! refl (stop !)) (sub ! 1 refl (whole !)))) refl (tt, tt) $
    sets ! (of_opd ! (get ! refl)) refl good $
    sets ! (agg ! (and_then ! (get ! refl) (no_more !))) refl (tt, (tt, tt)) $
    -- what the fields own, and then the slot
    nothing ! $ feq_i ! (List Val) (vptr b o ∷ []) (vptr b o ∷ []) refl $ fjoin ! $ feq_i ! (List Val) (h ∷ []) (h ∷ []) refl $ fjoin ! $
    fpack ! (Valss (RawPtr ∷ [])) (within (shape (slot.the_type R)) (block_ptr b o, tt) (h ∷ [])) (vptr b o ∷ [], tt) $ fjoin ! $
    use0 𝓛 (raw (fact 𝓤 (one R p.value ≡ one R p.value))) (fact_i 𝓤 (one R p.value ≡ one R p.value) (emp 𝓤) refl) $ nothing ! $ nothing ! $ fjoin ! $
    returns ! (look_at ! 0 refl) $ free_all ! refl $ keep ! (5 ∷ 0 ∷ 2 ∷ 1 ∷ []) $
    by ! (leaves 𝓛 ended stayed clauses y h (record { at = block_ptr b o; held = one R p.value }) (tt, tt) (tt, tt)))))
