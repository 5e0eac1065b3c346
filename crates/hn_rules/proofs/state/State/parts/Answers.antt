use Rattle.hn_base.proofs.Names.{◌≡◌, ◌<◌, ◌∙◌, ◌+◌, ◌++◌, ◌∷◌, [], ℕ, List, Option, Some, None, length, take, get_or, filter_map, flat_map-append, append-nil, ap, refl}
use Rattle.hn_hash.specs.Network.{part_entry, part_text}
use Rattle.hn_rules.proofs.Names.{given_next, passed_next, part_of, NodeId, Part}
use Rattle.hn_rules.proofs.state.State.parts.Goals.{in-Some+in_ok-add_entry, in_default}
use Rattle.hn_rules.proofs.state.State.parts.Goals as goal

entry_more : (h : NodeId → Option Part) (ids : List NodeId) (i : ℕ) (id d : NodeId) (part : Part) (text next : List ℕ)
    → i < length ids → id ≡ get_or ids i d → h id ≡ Some part → text ≡ part_text (filter_map h (take i ids)) → next ≡ text ++ part_entry part
    → next ≡ part_text (filter_map h (take (i + 1) ids))
entry_more h ids i id d part text next within is gives so_far last =
    let parts : List Part = filter_map h (take i ids) in
    let more : parts ++ part ∷ [] ≡ filter_map h (take (i + 1) ids) = given_next h ids i id d part parts (parts ++ part ∷ []) within is gives refl refl in
    last ∙ rw (so_far, ← more, flat_map-append part_entry parts (part ∷ []), append-nil (part_entry part)) refl

same_entries : (h : NodeId → Option Part) (ids : List NodeId) (i : ℕ) (id d : NodeId) (text next : List ℕ)
    → i < length ids → id ≡ get_or ids i d → h id ≡ None → text ≡ part_text (filter_map h (take i ids)) → next ≡ text
    → next ≡ part_text (filter_map h (take (i + 1) ids))
same_entries h ids i id d text next within is gives so_far last =
    let parts : List Part = filter_map h (take i ids) in
    last ∙ so_far ∙ ap part_text (passed_next h ids i id d parts parts within is gives refl refl)

pub loop-id-preserved : goal.loop-id-preserved
loop-id-preserved c = record {
  all = c.loop-id.invariant.all;
  so_far =
      elim c.match-part.branch [
        | in-Some+in_ok-add_entry w ↦ entry_more (part_of c.args.self.now) c.as_slice-id-items.result.now c.loop-id.id-index _
            (record { 0 = 0 }) w.in-Some.part c.loop-id.text.items c.match-part.text.items c.loop-id-test.true refl (cc) c.loop-id.invariant.so_far
            (ap (λ p. p.items) w.text-is ∙ w.in_ok-add_entry.ensures)
        | in_default w ↦ same_entries (part_of c.args.self.now) c.as_slice-id-items.result.now c.loop-id.id-index _
            (record { 0 = 0 }) c.loop-id.text.items c.match-part.text.items c.loop-id-test.true refl (cc) c.loop-id.invariant.so_far (ap (λ p. p.items) w.text-is)
      ];
}
