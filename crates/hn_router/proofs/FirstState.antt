-- What a new router publishes, and the hash of its network state.
use Rattle.hn_base.proofs.Names.{◌≡◌, ◌∙◌, ℕ, List, [], ◌∷◌, filter_map, ap, sym, refl, eq-eqb}
use Rattle.hn_router.proofs.Names.{NodeId, Port, Caps, OwnItems, OwnPrefix, OwnAddress, links_of, no_pairs}
use Rattle.hn_pair.specs.declared.held.Held.{Held}
use Rattle.hn_hash.specs.declared.part.Part.{Part}
use Rattle.hn_own.specs.HeldPairs.{published_in}
use Rattle.hn_store.specs.Acceptance.{known_of}
use Rattle.hn_store.specs.declared.stored.HeldNode.{HeldNode}

-- without endpoints, prefixes and addresses these are its own items
pub items_at_first : (caps : Caps) (ports : List Port) (delegated : List OwnPrefix) (held : Held) (addresses : List OwnAddress) (items : OwnItems)
    → caps ≡ items.caps → items.links ≡ [] → items.delegated ≡ [] → items.assigned ≡ [] → items.addresses ≡ []
    → ports ≡ [] → delegated ≡ [] → held ≡ no_pairs → addresses ≡ []
    → items ≡ record { caps = caps; links = links_of ports; delegated = delegated; assigned = published_in held.assigned; addresses = addresses }
items_at_first caps ports delegated held addresses items same links none nothing without no_ports no_delegated no_held no_address = λ i. record {
  caps = sym same i;
  links = (links ∙ sym (ap links_of no_ports)) i;
  delegated = (none ∙ sym no_delegated) i;
  assigned = (nothing ∙ sym (ap (λ (pairs : Held). published_in pairs.assigned) no_held)) i;
  addresses = (without ∙ sym no_address) i;
}

-- where it reaches itself alone, there is its own part alone
pub part_at_first : (id : NodeId) (entries : List HeldNode) (hash own_hash : List ℕ) (reach : List NodeId) → reach ≡ id ∷ [] → hash ≡ own_hash
    → record { number = 1; hash = hash } ∷ [] ≡ filter_map (λ (n : NodeId). known_of entries (record { id = id; number = 1; hash = own_hash }) n.0) reach
part_at_first id entries hash own_hash reach alone same = rw (alone, same, eq-eqb id.0 id.0 refl) refl
