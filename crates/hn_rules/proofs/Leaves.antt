-- The parts of the reachable nodes are those of their leaves.
use Rattle.hn_base.proofs.Names.{◌≡◌, ◌∙◌, ◌<◌, ◌^◌, ◌++◌, ℕ, Bool, true, false, cond, List, [], ◌∷◌, map, Option, Some, None, refl, ap, ◌==◌, option_map, filter_map, flat_map, cons_option, All-nil}
use Rattle.hn_base.proofs.Names.{All-cons}
use Rattle.hn_rules.proofs.Names.{IfSome, NodeId, Part, hash_of, Entry, held, stored_part, IsIntact, Stored, State, own_entry, held_entry, entry_of, view_of, leaf_of, part_of, parts_of, IsWell}
use Rattle.hn_rules.proofs.Names.{HeldIsOfAnEntry}
use Rattle.hn_hash.specs.Network as network
use Rattle.hn_hash.specs.Network.{AreNumbered}
use Rattle.hn_rules.specs.Nodes.{leaves_of}
use Rattle.hn_rules.specs.Laws.{HashIsOfLeaves}
use Rattle.hn_rules.proofs.LawsFromBelow.{held_all}

-- ---- a node's part is that of its leaf, and its number has 32 bits

abbrev leaf_part : Entry → Part
leaf_part n = network.leaf_part (leaf_of n)

abbrev IsNumberedEntry : Entry → Type 0
IsNumberedEntry n = n.number < 2 ^ 32

module _ (held_of_entry : HeldIsOfAnEntry) (s : State) (well : IsWell s) where
  held_part : (id : NodeId) (h : Option Stored) → held s.table.entries id.0 ≡ h
      → option_map stored_part h ≡ option_map leaf_part (option_map (λ stored. held_entry s.moment (record { id = id; stored = stored })) h)
  held_part id None is = refl
  held_part id (Some stored) is =
      let intact : IsIntact stored = held_all held_of_entry IsIntact s.table.entries id.0 stored well.table.intact is in
      ap (λ (hash : List ℕ). let part : Part = record { number = stored.number; hash = hash } in Some part) intact.hashed

  part_is : (id : NodeId) → part_of s id ≡ option_map leaf_part (entry_of s id)
  part_is id = by_test (id.0 == s.id.0)
    where
      by_test : (b : Bool) → cond b (Some (record { number = s.number; hash = s.own.hash })) (option_map stored_part (held s.table.entries id.0))
          ≡ option_map leaf_part (cond b (Some (own_entry s)) (option_map (λ stored. held_entry s.moment (record { id = id; stored = stored })) (held s.table.entries id.0)))
      by_test true = ap (λ (hash : List ℕ). let part : Part = record { number = s.number; hash = hash } in Some part) well.own.hashed
      by_test false = held_part id (held s.table.entries id.0) refl

  parts_are : (ids : List NodeId) → filter_map (part_of s) ids ≡ map leaf_part (filter_map (entry_of s) ids)
  parts_are [] = refl
  parts_are (id ∷ ids) = ap (λ o. cons_option o (filter_map (part_of s) ids)) (part_is id)
      ∙ ap (cons_option (option_map leaf_part (entry_of s id))) (parts_are ids) ∙ joined (entry_of s id) (filter_map (entry_of s) ids)
    where
      joined : (o : Option Entry) (ns : List Entry) → cons_option (option_map leaf_part o) (map leaf_part ns) ≡ map leaf_part (cons_option o ns)
      joined None ns = refl
      joined (Some n) ns = refl

  -- ---- the numbers have 32 bits

  held_numbered : (id : NodeId) (h : Option Stored) → held s.table.entries id.0 ≡ h → IfSome (option_map (λ stored. held_entry s.moment (record { id = id; stored = stored })) h) IsNumberedEntry
  held_numbered id None is = tt
  held_numbered id (Some stored) is = held_all held_of_entry (λ stored. stored.number < 2 ^ 32) s.table.entries id.0 stored well.numbered.held is

  entry_numbered : (id : NodeId) → IfSome (entry_of s id) IsNumberedEntry
  entry_numbered id = by_test (id.0 == s.id.0)
    where
      by_test : (b : Bool) → IfSome (cond b (Some (own_entry s)) (option_map (λ stored. held_entry s.moment (record { id = id; stored = stored })) (held s.table.entries id.0))) IsNumberedEntry
      by_test true = well.numbered.own
      by_test false = held_numbered id (held s.table.entries id.0) refl

  leaves_numbered : (ids : List NodeId) → AreNumbered (map leaf_of (filter_map (entry_of s) ids))
  leaves_numbered [] = All-nil (λ leaf. leaf.number < 2 ^ 32)
  leaves_numbered (id ∷ ids) = joined (entry_of s id) (filter_map (entry_of s) ids) (entry_numbered id) (leaves_numbered ids)
    where
      joined : (o : Option Entry) (ns : List Entry) → IfSome o IsNumberedEntry → AreNumbered (map leaf_of ns) → AreNumbered (map leaf_of (cons_option o ns))
      joined None ns one all = all
      joined (Some n) ns one all = All-cons (λ leaf. leaf.number < 2 ^ 32) (leaf_of n) (map leaf_of ns) one all

-- ---- the texts are the same

texts_are : (ns : List Entry) → flat_map network.part_entry (map leaf_part ns) ≡ flat_map network.leaf_entry (map leaf_of ns)
texts_are [] = refl
texts_are (n ∷ ns) = ap (λ rest. network.leaf_entry (leaf_of n) ++ rest) (texts_are ns)

pub hash_of_leaves : HeldIsOfAnEntry → HashIsOfLeaves
hash_of_leaves held_of_entry s router =
    let parts : parts_of s ≡ map leaf_part (view_of s) = parts_are held_of_entry s router.well s.reach in
    let texts : network.part_text (parts_of s) ≡ network.leaf_text (leaves_of s) = ap network.part_text parts ∙ texts_are (view_of s) in
    (router.refreshed.hashed ∙ ap hash_of texts, leaves_numbered held_of_entry s router.well s.reach)
