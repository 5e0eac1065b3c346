-- What holds of a router's private post and own addresses, and that it holds after a part of the router is changed.
use Rattle.hn_base.proofs.Names.{◌≡◌, ◌∙◌, ◌<◌, ℕ, Bool, true, false, cond, not, List, [], ◌∷◌, filter, get_or, Option, Some, inl, inr, refl, sym, ap, subst, arith, All, ◌==◌, ◌||◌, cases_lt}
use Rattle.hn_base.proofs.Names.{cond_both, eqb-true, lt-ltb, eq-eqb, All-filter, All-weaker, filter_passes, Contains-append_left, Contains-append_right}
use Rattle.hn_rules.proofs.Names.{Contains, IsTrue, is_some, nat_lt, EpId, Contains-head, Contains-tail, Contains-map, Contains-from_map, in_filter, same_id, PeerLink, Port, Assigned, OwnAddress}
use Rattle.hn_rules.proofs.Names.{may_address, AddressesStay, AddressesMayBe, is_port, port_at, put_port, attached, detached, endpoints_of}
use Rattle.hn_base.proofs.Keys.{id_is_found, found_is_id}
use Rattle.hn_own.specs.Addresses.{AreAddresses, addresses_without}
use Rattle.hn_own.specs.Ports.{is_attached}

-- the facts of the private post and of own addresses
pub record ArePostsWell (private : Option ℕ) (ports : List Port) (addresses : List OwnAddress) (assigned : List Assigned) (links : List PeerLink) : Type 0 where
  pub are : AreAddresses addresses
  pub addressed : All (λ a. IsTrue (is_attached a.0 ports)) addresses
  pub of_length : All (λ c. c.endpoint.0 ≡ 0 → Some c.prefix.len ≡ private) assigned
  pub linked : All (λ link. 0 < link.endpoint.0) links

abbrev IsAddressed : List Port → OwnAddress → Type 0
IsAddressed ports a = IsTrue (is_attached a.0 ports)

-- ---- endpoints that are attached

found_some : (b : Bool) (p : Port) (rest : Option Port) → is_some (cond b (Some p) rest) ≡ (b || is_some rest)
found_some true p rest = refl
found_some false p rest = refl

-- one in place of another of its number
pub attached_put : (port : Port) (ports : List Port) (at : EpId) → is_attached at (put_port port ports) ≡ is_attached at ports
attached_put port [] at = refl
attached_put port (p ∷ ports) at =
    let q : Port = cond (is_port port.id p) port p in
    let number : q.id.0 ≡ p.id.0 = cond_both (is_port port.id p) port p (λ (x : Port). x.id.0 ≡ p.id.0) (λ is. sym (eqb-true _ _ is)) (λ _. refl) in
    found_some (q.id.0 == at.0) q (port_at at (put_port port ports))
    ∙ ap (λ (n : ℕ). (n == at.0) || is_attached at (put_port port ports)) number
    ∙ ap (λ (rest : Bool). (p.id.0 == at.0) || rest) (attached_put port ports at)
    ∙ sym (found_some (p.id.0 == at.0) p (port_at at ports))

-- an endpoint that is attached is one of the list
there_is : (at : EpId) (ports : List Port) → IsTrue (is_attached at ports) → (port : Port) × Contains ports port × (port.id ≡ at)
there_is at ports is = Contains-from_map (λ (p : Port). p.id) ports at (found_is_id (λ (p : Port). p.id) ports at is)

one_there : (at : EpId) (ports : List Port) (port : Port) → Contains ports port → port.id ≡ at → IsTrue (is_attached at ports)
one_there at ports port there is =
    id_is_found (λ (p : Port). p.id) ports at (subst (Contains (endpoints_of ports)) is (Contains-map (λ (p : Port). p.id) ports port there))

-- one more
pub attached_more : (port : Port) (ports : List Port) (at : EpId) → IsTrue (is_attached at ports) → IsTrue (is_attached at (attached port ports))
attached_more port ports at is =
    let (p, there, here) = there_is at ports is in
    let lower : List Port = filter (λ p. nat_lt p.id.0 port.id.0) ports in
    let greater : List Port = filter (λ p. nat_lt port.id.0 p.id.0) ports in
    elim (cases_lt p.id.0 port.id.0) [
      | inl less ↦
          one_there at (attached port ports) p (Contains-append_left lower (port ∷ greater) p (in_filter (λ p. nat_lt p.id.0 port.id.0) ports p there (lt-ltb p.id.0 port.id.0 less))) here
      | inr past ↦ elim (cases_lt port.id.0 p.id.0) [
        | inl more ↦
            one_there at (attached port ports) p
            (Contains-append_right lower (port ∷ greater) p (Contains-tail port greater p (in_filter (λ p. nat_lt port.id.0 p.id.0) ports p there (lt-ltb port.id.0 p.id.0 more)))) here
        | inr also ↦
            let same : port.id ≡ p.id = same_id port.id p.id (omega arith) in
            one_there at (attached port ports) port (Contains-append_right lower (port ∷ greater) port (Contains-head port greater)) (same ∙ here)
      ]
    ]

-- one less
pub attached_still : (gone : EpId) (ports : List Port) (at : EpId) → not (at.0 == gone.0) ≡ true → IsTrue (is_attached at ports) → IsTrue (is_attached at (detached gone ports))
attached_still gone ports at other is =
    let (p, there, here) = there_is at ports is in
    let stays : not (is_port gone p) ≡ true = subst (λ (e : EpId). not (e.0 == gone.0) ≡ true) (sym here) other in
    one_there at (detached gone ports) p (in_filter (λ p. not (is_port gone p)) ports p there stays) here

-- ---- the facts, after a part is changed

module _ (private : Option ℕ) (ports : List Port) (addresses : List OwnAddress) (assigned : List Assigned) (links : List PeerLink) (well : ArePostsWell private ports addresses assigned links) where
  pub posts-put : (port : Port) → ArePostsWell private (put_port port ports) addresses assigned links
  posts-put port = record {
    are = well.are;
    addressed = All-weaker (IsAddressed ports) (IsAddressed (put_port port ports)) (λ a is. attached_put port ports a.0 ∙ is) addresses well.addressed;
    of_length = well.of_length;
    linked = well.linked;
  }

  pub posts-attached : (port : Port) → ArePostsWell private (attached port ports) addresses assigned links
  posts-attached port = record {
    are = well.are;
    addressed = All-weaker (IsAddressed ports) (IsAddressed (attached port ports)) (λ a is. attached_more port ports a.0 is) addresses well.addressed;
    of_length = well.of_length;
    linked = well.linked;
  }

  pub posts-detached : AddressesStay → (at : EpId) → ArePostsWell private (detached at ports) (addresses_without at addresses) assigned links
  posts-detached stay at =
      let stays : OwnAddress → Bool = λ a. not (a.0.0 == at.0) in
      record {
        are = stay at addresses well.are;
        addressed = λ k d within.
            attached_still at ports (get_or (filter stays addresses) k d).0 (filter_passes stays addresses k d within) (All-filter stays (IsAddressed ports) addresses well.addressed k d within);
        of_length = well.of_length;
        linked = well.linked;
      }

  pub posts-addressed : AddressesMayBe → (list : List OwnAddress) → may_address list ports ≡ true → ArePostsWell private ports list assigned links
  posts-addressed may_be list may =
      let is = may_be list ports may in
      record { are = is.0; addressed = is.1; of_length = well.of_length; linked = well.linked }

  pub posts-assigned : (kept : List Assigned) → All (λ c. c.endpoint.0 ≡ 0 → Some c.prefix.len ≡ private) kept → ArePostsWell private ports addresses kept links
  posts-assigned kept of_length = record { are = well.are; addressed = well.addressed; of_length = of_length; linked = well.linked }

  -- the private link is set or ended, without what was held for it
  pub posts-private : (other : Option ℕ) → ArePostsWell other ports addresses (filter (λ c. not (c.endpoint.0 == 0)) assigned) links
  posts-private other =
      let stays : Assigned → Bool = λ c. not (c.endpoint.0 == 0) in
      record {
        are = well.are;
        addressed = well.addressed;
        of_length = All-weaker (λ c. stays c ≡ true) (λ c. c.endpoint.0 ≡ 0 → Some c.prefix.len ≡ other)
            (λ c is at. let same : (c.endpoint.0 == 0) ≡ true = eq-eqb c.endpoint.0 0 at in absurd (cc)) (filter stays assigned) (filter_passes stays assigned);
        linked = well.linked;
      }

  pub posts-published : (said : List PeerLink) → All (λ link. 0 < link.endpoint.0) said → ArePostsWell private ports addresses assigned said
  posts-published said linked = record { are = well.are; addressed = well.addressed; of_length = well.of_length; linked = linked }
