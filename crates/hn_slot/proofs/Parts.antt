-- The machine values of a box that is taken apart, and what it owns, one entry for each part. Assumes `Logic`.
--     both                     a struct of two fields
--     boxed, given             the box of a value and an allocator that are a function's parameters, and what a call passes for them
--     one_argument             a function that is called with one machine value
--     Apart, heap, fits        such a box as a row, its allocator, and that its machine value has its type
--     parts_out, parts_in      a `Parted` by value is [what the place owns; the allocator]
--     paired                   two values make a pair
use Rattle.hn_slot.proofs.Names.{◌≡◌, List, [], ◌∷◌, ◌++◌, refl, sym, ap, ◌∙◌, subst, true, ◌&&◌, T, Ura, Val, vptr, vstruct, vcons, vnil, of_list, has_ty, WT, SProp, ent, id⊢, never, fst∗, Logic}
use Rattle.hn_slot.proofs.Names.{sem, ‵, ◌$◌, move, drop, fsplit, fjoin, fpick, fpack, feq_i, feq_l, Valss, RawPtr, lone, Ptr, block_ptr, null_ptr, ptr_val, in_a_block, nothing, layout, within}
use Rattle.hn_slot.proofs.Names.{Tuple, shape, handle_tells, Good, box_owns, and_tt}
use Rattle.std.proofs.Common.{ℕ}
use mir.Syntax.{Dict, Args, a_type, impl, tnil, dcons, dnil}
use mir.Raw.{raw as bare}
use types.Kit.{Item, Goal, Seq, Step, step, fjoin3}
use denote.RattleType.{RattleType}
use denote.Param.{bounded}
use denote.Param.Laws.{Laws}
use Rattle.core.specs.declared.alloc.Allocator.{Ghosts}
use Rattle.core.proofs.alloc.Calls.{Al}
use Rattle.std_alloc.proofs.BoxSteps.Form.{Bx}
use Rattle.hn_slot.specs.contracts.parted.Parted as parted

abbrev pub both : Val → Val → Val
both v w = vstruct (vcons v (vcons w vnil))

-- a box of a value and an allocator, which are the parameters of a function
abbrev pub boxed : (V H : RattleType) (LV : Laws V) (LH : Laws H) (g : Ghosts H.Denot) (methods heap_drop : Dict) → Bx
boxed V H LV LH g methods heap_drop = record { row = V; laws = LV; al = record { row = H; laws = LH; g = g; d = methods; drops = heap_drop } }

-- what a call passes for them
abbrev pub given : (V H : RattleType) (methods value_drop heap_drop : Dict) → Args
given V H methods value_drop heap_drop = bounded (a_type ∷ a_type ∷ []) (V, (H, tt)) (dcons methods (dcons value_drop (dcons heap_drop dnil)))

pub one_argument : {M : Type 1} (𝓤 : Ura M) (Run : List Val → SProp 𝓤) (v : Val) (vs : List Val) → vs ≡ v ∷ [] → ent 𝓤 (Run (v ∷ [])) (Run (vs ++ []))
one_argument 𝓤 Run v vs is = subst (λ (us : List Val). ent 𝓤 (Run (v ∷ [])) (Run us)) (sym (λ i. is i ++ [])) (id⊢ 𝓤 (Run (v ∷ [])))

module _ (Value Heap : RattleType) (LH : Laws Heap) (g : Ghosts Heap.Denot) where
  abbrev pub Apart : RattleType
  Apart = parted.the_row Value Heap g

  abbrev pub heap : Al
  heap = record { row = Heap; laws = LH; g = g; d = impl [] tnil dnil; drops = impl [] tnil dnil }

  pub fits : (b o : ℕ) (h : Val) → Good (layout Heap) h → T (has_ty (layout Heap) h && true) × WT (both h (vptr b o))
  fits b o h good = (and_tt (has_ty (layout Heap) h) good.0, (good.1, (tt, tt)))

  module _ {M : Type 1} {𝓤 : Ura M} {𝓛 : Logic 𝓤} {K : Type 0} {Γ : List (Item 𝓤)} {G : Goal 𝓤 𝓛.H} where
    pub parts_out : K → (p : Apart.Denot) (vs : List Val)
        → ((b o : ℕ) (h : Val) → p.at ≡ block_ptr b o → vs ≡ both h (vptr b o) ∷ [] → Good (layout Heap) h
        → Seq K 𝓛 (‵ (box_owns (g.dealloc_token p.alloc) Value (block_ptr b o) p.value) ∷ ‵ (Heap.own_val p.alloc (h ∷ [])) ∷ Γ) G)
        → Seq K 𝓛 (‵ (Apart.own_val p vs) ∷ Γ) G
    parts_out t p vs rest =
        fsplit t $ fpick t (λ fields. fsplit t $ feq_l t (λ are.
        fsplit t $ handle_tells heap t p.alloc fields.0 (λ h is_heap good. move t (1 ∷ []) $ fsplit t $ feq_l t (λ is_place. drop t $ move t (1 ∷ []) $
        in_a_block t p.at (λ at. box_owns (g.dealloc_token p.alloc) Value at p.value) (fst∗ 𝓤 (never 𝓤) (sem 𝓛 (g.dealloc_token p.alloc (bare (lone Value.mir)) null_ptr))) (λ b o e. rest b o h e
        (are ∙ (λ i. vstruct (of_list (is_heap i ++ ((is_place ∙ ap (λ (at : Ptr). ptr_val at ∷ []) e) i ++ []))) ∷ [])) good)))))

    pub parts_in : K → (b o : ℕ) (h : Val) (a : Heap.Denot) (x : Value.Denot)
        → Step K 𝓛 (‵ (Apart.own_val (record { alloc = a; at = block_ptr b o; value = x }) (both h (vptr b o) ∷ [])) ∷ Γ) G
        (‵ (box_owns (g.dealloc_token a) Value (block_ptr b o) x) ∷ ‵ (Heap.own_val a (h ∷ [])) ∷ Γ) G
    parts_in t b o h a x = step (λ rest.
        nothing t $ feq_i t (List Val) (vptr b o ∷ []) (vptr b o ∷ []) refl $ fjoin t $ move t (2 ∷ []) $ fjoin t $
        feq_i t (List Val) (both h (vptr b o) ∷ []) (both h (vptr b o) ∷ []) refl $ fjoin t $
        fpack t (Valss (Heap ∷ RawPtr ∷ [])) (within (shape (parted.the_type Value Heap g)) (a, (block_ptr b o, tt)) (both h (vptr b o) ∷ [])) (h ∷ [], (vptr b o ∷ [], tt)) $ fjoin t $ rest)

-- a pair of two values
module _ (P Q : RattleType) {M : Type 1} {𝓤 : Ura M} {𝓛 : Logic 𝓤} {K : Type 0} {Γ : List (Item 𝓤)} {G : Goal 𝓤 𝓛.H} where
  pub paired : K → (x : P.Denot) (y : Q.Denot) (v w : Val)
      → Step K 𝓛 (‵ ((Tuple (P ∷ Q ∷ [])).own_val (x, y) (both v w ∷ [])) ∷ Γ) G (‵ (P.own_val x (v ∷ [])) ∷ ‵ (Q.own_val y (w ∷ [])) ∷ Γ) G
  paired t x y v w = step (λ rest.
      nothing t $ move t (1 ∷ 2 ∷ 0 ∷ []) $ fjoin3 t $ feq_i t (List Val) (both v w ∷ []) (both v w ∷ []) refl $ fjoin t $
      fpack t (Valss (P ∷ Q ∷ [])) (within (record { name = []; args = []; types = []; fields = P ∷ Q ∷ [] }) (x, (y, tt)) (both v w ∷ [])) (v ∷ [], (w ∷ [], tt)) $ rest)
