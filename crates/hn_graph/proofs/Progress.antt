-- How far the search has come.
use Rattle.hn_base.proofs.Names.{◌≡◌, ◌⊎◌, ◌↔◌, ℕ, ◌<◌, ◌≤◌, Bool, false, List, [], ◌∷◌, ◌++◌, length, replicate, Some, refl, sym, ◌∙◌, ap, subst, inl, inr, ⊎_elim, arith, slice_get, Contains}
use Rattle.hn_base.proofs.Names.{IsStrictlySortedBy, nat_cmp, cases_lt, length-replicate, get_or-replicate, Contains-get_or, Contains-push, Contains-push_cases, Contains-append_left, same_Some}
use Rattle.hn_base.proofs.Names.{slice_get_within, slice_get_read}
use Rattle.hn_graph.proofs.Names.{NodeId, nothing_in, part_stands, part_is, one_place, contains_at, ids_of, Entry, AreAdjacent, IsReachable, IsPlaceMarked, IsNext, HasMarked, HasFound, ArePlacesNext}
use Rattle.std.proofs.lemmas.List.{get_or_past}
use Rattle.hn_base.proofs.AscendingLists.{Contains-one}
use Rattle.hn_graph.proofs.Ways.{HasWay, way_to_own, way_further, path_from_way, along_path}

-- Each marked node is reached by a path, and the own one is marked. Where a path may go on from a marked node, that node
-- is still to be visited, or the next one is marked too.
pub record IsUnderway (own : ℕ) (nodes : List Entry) (found : List Bool) (visits : List ℕ) : Type 0 where
  pub same_length : length found ≡ length nodes
  pub visits_nodes : (k : ℕ) → Contains visits k → k < length nodes
  pub visits_found : (k : ℕ) → Contains visits k → IsPlaceMarked found k
  pub own_found : (k : ℕ) (x : Entry) → slice_get nodes k ≡ Some x → x.id.0 ≡ own → IsPlaceMarked found k
  pub sound : (k : ℕ) (x : Entry) → slice_get nodes k ≡ Some x → IsPlaceMarked found k → HasWay own nodes x
  pub closed : (k : ℕ) (x : Entry) (j : ℕ) → slice_get nodes k ≡ Some x → IsPlaceMarked found k → IsNext nodes x j → Contains visits k ⊎ IsPlaceMarked found j

none_yet : (n k : ℕ) → ¬ (IsPlaceMarked (replicate n false) k)
none_yet n k h =
    ⊎_elim (λ (below : k < n). absurd (let is = get_or-replicate n k false false below in cc))
    (λ (rest : n ≤ k). absurd (let is = get_or_past (replicate n false) k false (let long = length-replicate n false in omega arith) in cc))
    (cases_lt k n)

-- the beginning: the own node is marked
pub begin : (own : ℕ) (nodes : List Entry) (start : ℕ) (found : List Bool) (visits : List ℕ) → IsStrictlySortedBy nat_cmp (ids_of nodes)
    → start < length nodes → slice_get (ids_of nodes) start ≡ Some own → HasMarked (start ∷ []) (replicate (length nodes) false) [] found visits → IsUnderway own nodes found visits
begin own nodes start found visits up lt is m = record {
  same_length = m.same_length ∙ length-replicate (length nodes) false;
  visits_nodes = λ k h. ⊎_elim (λ (old : Contains [] k). absurd (nothing_in k old))
      (λ (new : Contains (start ∷ []) k). subst (λ (j : ℕ). j < length nodes) (Contains-one start k new) lt) (m.visits_only k h);
  visits_found = λ k h. ⊎_elim (λ (old : Contains [] k). absurd (nothing_in k old)) (m.marks_given k) (m.visits_only k h);
  own_found = λ k x at own_is. let same : k ≡ start = one_place (ids_of nodes) up k start own (part_stands (λ n. n.id.0) nodes k x at ∙ ap Some own_is) is in
      m.marks_given k (subst (Contains (start ∷ [])) (sym same) (Contains-get_or (start ∷ []) 0 0 (omega arith)));
  sound = λ k x at h. ⊎_elim (λ (old : IsPlaceMarked (replicate (length nodes) false) k). absurd (none_yet (length nodes) k old))
      (λ (new : Contains (start ∷ []) k × Contains visits k). way_to_own own nodes x (contains_at nodes k x at)
      (part_is (λ n. n.id.0) nodes k own x at (subst (λ (j : ℕ). slice_get (ids_of nodes) j ≡ Some own) (Contains-one start k new.0) is)))
      (m.marks_only k h);
  closed = λ k x j at h next. ⊎_elim (λ (old : IsPlaceMarked (replicate (length nodes) false) k). absurd (none_yet (length nodes) k old))
      (λ (new : Contains (start ∷ []) k × Contains visits k). inl new.1) (m.marks_only k h);
}

-- a visit: the nodes that may follow are marked
pub visit : (own : ℕ) (nodes : List Entry) (x : Entry) (place : ℕ) (places : List ℕ) (found : List Bool) (rest : List ℕ) (found' : List Bool) (visits' : List ℕ)
    → IsUnderway own nodes found (rest ++ place ∷ []) → slice_get nodes place ≡ Some x → ArePlacesNext nodes x found places
    → HasMarked places found rest found' visits' → IsUnderway own nodes found' visits'
visit own nodes x place places found rest found' visits' u at next m =
    let old_visit = λ (k : ℕ) (h : Contains rest k). Contains-append_left rest (place ∷ []) k h in
    record {
      same_length = m.same_length ∙ u.same_length;
      visits_nodes = λ k h. ⊎_elim (λ (old : Contains rest k). u.visits_nodes k (old_visit k old)) (λ (new : Contains places k). let n = next.only k new in
          slice_get_within nodes k n.y n.at) (m.visits_only k h);
      visits_found = λ k h. ⊎_elim (λ (old : Contains rest k). m.marks_stay k (u.visits_found k (old_visit k old))) (m.marks_given k) (m.visits_only k h);
      own_found = λ k y is own_is. m.marks_stay k (u.own_found k y is own_is);
      sound = λ k y is h. ⊎_elim (u.sound k y is)
          (λ (new : Contains places k × Contains visits' k).
          let n = next.only k new.0 in
          let one : n.y ≡ y = same_Some n.y y (sym n.at ∙ is) in
          let way = u.sound place x at (u.visits_found place (Contains-push rest place)) in
          way_further own nodes x y way n.recent (subst (AreAdjacent x) one n.adjacent) (contains_at nodes k y is))
          (m.marks_only k h);
      closed = λ k y j is h on. ⊎_elim
          (λ (old : IsPlaceMarked found k). ⊎_elim
          (λ (waits : Contains (rest ++ place ∷ []) k). ⊎_elim (λ (still : Contains rest k). inl (m.visits_stay k still))
          (λ (now : place ≡ k).
          let one : y ≡ x = same_Some y x (sym is ∙ ap (slice_get nodes) (sym now) ∙ at) in
          inr (⊎_elim (m.marks_stay j) (m.marks_given j) (next.all j (subst (λ (z : Entry). IsNext nodes z j) one on))))
          (Contains-push_cases rest place k waits))
          (λ (marked : IsPlaceMarked found j). inr (m.marks_stay j marked))
          (u.closed k y j is old on))
          (λ (new : Contains places k × Contains visits' k). inl new.1)
          (m.marks_only k h);
    }

-- the node is marked
abbrev IsMarked : List Entry → List Bool → Entry → Type 0
IsMarked nodes found x = (k : ℕ) × (slice_get nodes k ≡ Some x) × IsPlaceMarked found k

-- the end: the marked nodes are the reachable ones
pub finish : (own : ℕ) (nodes : List Entry) (found : List Bool) (id : NodeId) → IsUnderway own nodes found [] → HasFound nodes found id ↔ IsReachable own nodes id.0
finish own nodes found id u = (
  λ h. subst (λ (i : NodeId). IsReachable own nodes i.0) h.is_it (path_from_way own nodes h.node (u.sound h.place h.node h.at h.marked)),
  λ r.
      let last = along_path own nodes (IsMarked nodes found)
      (λ x there is. let at = slice_get_read nodes (length nodes) there.0 x refl there.1 (sym there.2) in (there.0, at, u.own_found there.0 x at is))
      (λ x z marked recent adjacent there.
      let at = slice_get_read nodes (length nodes) there.0 z refl there.1 (sym there.2) in
      let on : IsNext nodes x there.0 = record { y = z; at = at; recent = recent; adjacent = adjacent } in
      ⊎_elim (λ (waits : Contains [] marked.0). absurd (nothing_in marked.0 waits)) (λ (found_too : IsPlaceMarked found there.0). (there.0, at, found_too))
      (u.closed marked.0 x there.0 marked.1 marked.2 on))
      id.0 r in
      record { place = last.1.0; node = last.0; at = last.1.1; marked = last.1.2; is_it = ap (λ n. record { 0 = n }) last.2 },
)
