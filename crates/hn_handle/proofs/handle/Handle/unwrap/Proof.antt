-- `unwrap`: the place goes out of the one field, beside the allocator, with what the handle owned.
use Rattle.hn_handle.proofs.Names.{◌≡◌, List, [], ◌∷◌, ◌++◌, refl, sym, ap, ◌∙◌, subst, Val, vptr, vstruct, vcons, vnil, of_list, SProp, ent, emp, id⊢, never, fst∗, ftrue, WpFn, sem, ‵, raw, ◌⊛◌, ◌$◌}
use Rattle.hn_handle.proofs.Names.{◌∵◌, !, qed, by, move, keep, drop, split, fsplit, fjoin, fpick, suffices, use0, feq_l, rewrite, stop, fld, of_opd, no_more, and_then, returns, enter, alloc_all}
use Rattle.hn_handle.proofs.Names.{pass_all, free_all, look_at, get, get_in, sets, agg, sub, whole, fact, fact_i, tables, owns, lone, Ptr, block_ptr, null_ptr, ptr_val, in_a_block, types_at, plain}
use Rattle.hn_handle.proofs.Names.{nothing, heard, Stays, stay_dropped, walk_of, Goes-dropped, handle_tells, box_owns, proved_at, leaves, Option, IsSome}
use mir.Raw.{raw as bare}
use Rattle.std_heap.specs.contracts.Global.{the_row as Z}
use Rattle.std_heap.proofs.Global.TheLaws.{the_row_laws as LZ}
use Rattle.std_heap.specs.contracts.GlobalAllocator.TheImpl.{ghosts as g}
use Rattle.hn_kept.specs.contracts.keeper.Keeper.{the_row as R}
use Rattle.hn_handle.specs.Held.{held_at}
use Rattle.hn_handle.proofs.Held.{one, router_of}
use Rattle.hn_handle.proofs.Parts.{both, heap, fits, parts_in}
use Rattle.hn_handle.specs.contracts.handle.Handle.{the_row as Held}
use Rattle.hn_handle.specs.contracts.handle.Handle.unwrap as f
use Rattle.hn_handle.proofs.handle.Handle.unwrap.Statement.{statement}
use Rattle.hn_handle.proofs.handle.Handle.unwrap.Code as code

abbrev stayed : Stays f.ended.signature.params f.ended.kept
stayed = (stay_dropped (plain (λ _. Held)) (f.ended).kept.0, (stay_dropped (plain (λ _. Z)) (f.ended).kept.1.0, tt))

pub unwrap_spec : {M : Type 1} → statement M
unfolding held_at
unwrap_spec 𝓤 𝓛 𝓜 𝓡 wired =
    let 𝓣 = tables 𝓤 𝓛.H 𝓜 𝓡 𝓡.env in let clauses = f.clauses 𝓛 𝓜.mem 𝓡.returns in
    proved_at 𝓛 f.ended stayed clauses 𝓜 𝓡
    (Goes-dropped 𝓛 0 (plain (λ _. Held)) (f.ended).kept.0 (λ κs x w. refl), (Goes-dropped 𝓛 0 (plain (λ _. Z)) (f.ended).kept.1.0 (λ κs x w. refl), tt))
    f.Key.name code.function (code.unfolded 𝓤 𝓛.H 𝓜 𝓡 wired) (λ y are.
    let self = y.0.3.0 in let a = y.0.3.1.0 in
    let Post : Val → SProp 𝓤 = (walk_of 𝓛 f.ended stayed clauses).post y in
    let Run : List Val → SProp 𝓤 = λ vs. WpFn 𝓤 𝓛.H 𝓣.C 𝓣.Λ code.function vs Post in
    qed 𝓛 ((‵ ftrue ⊛ ‵ (owns (types_at f.ended.signature.params y.0.0) y.0.3 y.0.4)) ∷ raw (fact 𝓤 (IsSome self.held)) ∷ []) ∵
    move ! (1 ∷ []) $ heard ! (IsSome self.held) (λ some.
    let k = (router_of self.held some).0 in let is : self.held ≡ one k = (router_of self.held some).1 in
    split ! $ move ! (1 ∷ []) $ fsplit ! $ fsplit ! $ fpick ! (λ fields. fsplit ! $ feq_l ! (λ is_handle. fsplit ! $ feq_l ! (λ is_place. drop ! $
    -- [what the handle owns; the other parameter; nothing]
    rewrite ! 0 (λ (held : Option R.Denot). ‵ (held_at self.at held)) is refl $
    in_a_block ! self.at (λ at. box_owns (g.dealloc_token a) R at k) (fst∗ 𝓤 (never 𝓤) (sem 𝓛 (g.dealloc_token a (bare (lone R.mir)) null_ptr))) (λ b o at_block.
    move ! (1 ∷ []) $ fsplit ! $ handle_tells (heap R Z LZ g) ! a y.0.4.1.0 (λ h is_heap good. move ! (2 ∷ []) $
    -- [what the place owns; the allocator; nothing; nothing]
    let v : Val = vstruct (vcons (vptr b o) vnil) in
    let is_value : y.0.4.0 ≡ v ∷ [] = is_handle ∙ (λ i. vstruct (of_list ((is_place ∙ ap (λ (at : Ptr). ptr_val at ∷ []) at_block) i ++ [])) ∷ []) in
    suffices ! (Run (v ∷ h ∷ [])) (subst (λ (us : List Val). ent 𝓤 (Run (v ∷ h ∷ [])) (Run us)) (sym (λ i. is_value i ++ (is_heap i ++ []))) (id⊢ 𝓤 (Run (v ∷ h ∷ [])))) $
    enter ! 𝓣.C 𝓣.Λ code.function (v ∷ h ∷ []) Post $ alloc_all ! (λ l. pass_all ! refl ((tt, (tt, tt)), (good, tt)) $
    sets ! (of_opd ! (get_in ! (fld ! refl (stop !)) (sub ! 0 refl (whole !)))) refl (tt, tt) $ sets ! (of_opd ! (get ! refl)) refl (tt, tt) $
    sets ! (agg ! (and_then ! (get ! refl) (and_then ! (get ! refl) (no_more !)))) refl (fits R Z LZ g b o h good) $
    parts_in R Z LZ g ! b o h a k $
    use0 𝓛 (raw (fact 𝓤 (self.held ≡ one k))) (fact_i 𝓤 (self.held ≡ one k) (emp 𝓤) is) $ nothing ! $ nothing ! $ fjoin ! $ nothing ! $ fjoin ! $
    returns ! (look_at ! 0 refl) $ free_all ! refl $ keep ! (4 ∷ 0 ∷ 2 ∷ 1 ∷ []) $
    by ! (leaves 𝓛 f.ended stayed clauses y (both h (vptr b o)) (record { alloc = a; at = block_ptr b o; value = k }) (tt, (tt, tt)) (tt, (tt, tt)))))))))))
