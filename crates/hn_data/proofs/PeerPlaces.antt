-- Where the peers of nodes stand.
use Rattle.hn_base.proofs.Names.{◌≡◌, ℕ, List, Some, Ok, Err, Result, MatchResult, sym, ◌∙◌, ap, subst, slice_get, Option, IfSome, IsStrictlySortedBy, nat_cmp, same_Some}
use Rattle.hn_data.proofs.Names.{part_is, ids_of, Entry}
use Rattle.std.proofs.Common.{IfNone}
use Rattle.std.specs.Result.{result_ok}
use Rattle.hn_base.proofs.PartsAtPlaces.{part_stands, one_place_of}
use Rattle.hn_data.specs.Links.{IsPeerAt}
use Rattle.hn_data.specs.Peers.{IsLinked}
use Rattle.hn_data.specs.declared.said.PeerLink.{PeerLink}

-- what the `Ok` of a search says
pub said_of_ok : (r : Result ℕ ℕ) (o : Option ℕ) (P : ℕ → Type 0) (Q : Type 0) → o ≡ result_ok r → MatchResult r P (λ _. Q) → IfSome o P × IfNone o Q
said_of_ok (Ok i) o P Q is holds = rw is (holds, tt)
said_of_ok (Err i) o P Q is holds = rw is (tt, holds)

pub peer_at : (nodes : List Entry) (x : Entry) (link : PeerLink) (place : ℕ) → IsPeerAt nodes x link place → slice_get (ids_of nodes) place ≡ Some link.peer.0
peer_at nodes x link place leads = part_stands (λ n. n.id.0) nodes place leads.y leads.at ∙ ap Some leads.is_peer

-- a link leads to the one node that is the peer
pub leads_to_peer : (nodes : List Entry) → IsStrictlySortedBy nat_cmp (ids_of nodes) → (x : Entry) (link : PeerLink) (place other : ℕ) (y : Entry)
    → slice_get nodes place ≡ Some y → slice_get (ids_of nodes) place ≡ Some link.peer.0 → IsPeerAt nodes x link other
    → IsLinked x.body x.id.0 link.endpoint.0 y.body y.id.0 link.peer_endpoint.0
leads_to_peer nodes up x link place other y at is leads =
    let same : other ≡ place = one_place_of (λ n. n.id.0) nodes up other place leads.y y leads.at at (leads.is_peer ∙ sym (part_is (λ n. n.id.0) nodes place link.peer.0 y at is)) in
    let one : leads.y ≡ y = same_Some leads.y y (sym leads.at ∙ ap (slice_get nodes) same ∙ at) in
    subst (λ (z : Entry). IsLinked x.body x.id.0 link.endpoint.0 z.body z.id.0 link.peer_endpoint.0) one leads.linked
