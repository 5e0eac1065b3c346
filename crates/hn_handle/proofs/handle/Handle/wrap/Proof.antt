-- `wrap`: the place is kept as the one field, the allocator is let go, and the handle owns what the place owned.
use Rattle.hn_handle.proofs.Names.{◌≡◌, List, [], ◌∷◌, refl, Val, vptr, vstruct, vcons, vnil, SProp, emp, ftrue, WpFn, ‵, raw, ◌⊛◌, ◌$◌, ◌∵◌, !, qed, by, move, keep, split, fsplit, fjoin, fpack}
use Rattle.hn_handle.proofs.Names.{suffices, use0, feq_i, stop, fld, of_opd, no_more, and_then, returns, enter, alloc_all, pass_all, free_all, look_at, get, get_in, sets, agg, sub, whole, fact}
use Rattle.hn_handle.proofs.Names.{fact_i, tables, RawPtr, Valss, owns, block_ptr, types_at, plain, nothing, within, shape, Stays, stay_dropped, walk_of, Goes-dropped, proved_at, leaves}
use Rattle.std_heap.specs.contracts.Global.{the_row as Z}
use Rattle.std_heap.proofs.Global.TheLaws.{the_row_laws as LZ}
use Rattle.std_heap.specs.contracts.GlobalAllocator.TheImpl.{ghosts as g}
use Rattle.hn_kept.specs.contracts.keeper.Keeper.{the_row as R}
use Rattle.hn_handle.specs.Held.{held_at}
use Rattle.hn_handle.proofs.Held.{one}
use Rattle.hn_handle.proofs.Parts.{both, one_argument, Apart, fits, parts_out}
use Rattle.hn_handle.specs.contracts.handle.Handle as handle
use Rattle.hn_handle.specs.contracts.handle.Handle.wrap as f
use Rattle.hn_handle.proofs.handle.Handle.wrap.Statement.{statement}
use Rattle.hn_handle.proofs.handle.Handle.wrap.Code as code

abbrev stayed : Stays f.ended.signature.params f.ended.kept
stayed = (stay_dropped (plain (λ _. Apart R Z LZ g)) (f.ended).kept.0, tt)

pub wrap_spec : {M : Type 1} → statement M
unfolding held_at
wrap_spec 𝓤 𝓛 𝓜 𝓡 wired =
    let 𝓣 = tables 𝓤 𝓛.H 𝓜 𝓡 𝓡.env in let clauses = f.clauses 𝓛 𝓜.mem 𝓡.returns in
    proved_at 𝓛 f.ended stayed clauses 𝓜 𝓡 (Goes-dropped 𝓛 0 (plain (λ _. Apart R Z LZ g)) (f.ended).kept.0 (λ κs p w. refl), tt)
    f.Key.name code.function (code.unfolded 𝓤 𝓛.H 𝓜 𝓡 wired) (λ y are.
    let p = y.0.3.0 in
    let Post : Val → SProp 𝓤 = (walk_of 𝓛 f.ended stayed clauses).post y in
    let Run : List Val → SProp 𝓤 = λ vs. WpFn 𝓤 𝓛.H 𝓣.C 𝓣.Λ code.function vs Post in
    qed 𝓛 ((‵ ftrue ⊛ ‵ (owns (types_at f.ended.signature.params y.0.0) y.0.3 y.0.4)) ∷ raw (emp 𝓤) ∷ []) ∵
    split ! $ move ! (1 ∷ []) $ fsplit ! $ parts_out R Z LZ g ! p y.0.4.0 (λ b o a is_block is_pair good.
    -- [what the place owns; the allocator; nothing; nothing; no `requires`]
    let v : Val = both a (vptr b o) in let h : Val = vstruct (vcons (vptr b o) vnil) in
    suffices ! (Run (v ∷ [])) (one_argument 𝓤 Run v y.0.4.0 is_pair) $
    enter ! 𝓣.C 𝓣.Λ code.function (v ∷ []) Post $ alloc_all ! (λ l. pass_all ! refl (fits R Z LZ g b o a good, tt) $
    sets ! (of_opd ! (get_in ! (fld ! refl (stop !)) (sub ! 0 refl (whole !)))) refl good $
    sets ! (of_opd ! (get_in ! (fld ! refl (stop !)) (sub ! 1 refl (whole !)))) refl (tt, tt) $
    sets ! (of_opd ! (get ! refl)) refl good $ sets ! (of_opd ! (get ! refl)) refl (tt, tt) $
    sets ! (agg ! (and_then ! (get ! refl) (no_more !))) refl (tt, (tt, tt)) $
    -- what the fields own, and then the handle
    nothing ! $ feq_i ! (List Val) (vptr b o ∷ []) (vptr b o ∷ []) refl $ fjoin ! $ feq_i ! (List Val) (h ∷ []) (h ∷ []) refl $ fjoin ! $
    fpack ! (Valss (RawPtr ∷ [])) (within (shape handle.the_type) (block_ptr b o, tt) (h ∷ [])) (vptr b o ∷ [], tt) $ fjoin ! $
    use0 𝓛 (raw (fact 𝓤 (one p.value ≡ one p.value))) (fact_i 𝓤 (one p.value ≡ one p.value) (emp 𝓤) refl) $ nothing ! $ nothing ! $ fjoin ! $
    returns ! (look_at ! 0 refl) $ free_all ! refl $ keep ! (5 ∷ 0 ∷ 2 ∷ 1 ∷ []) $
    by ! (leaves 𝓛 f.ended stayed clauses y h (record { at = block_ptr b o; held = one p.value }) (tt, tt) (tt, tt)))))
