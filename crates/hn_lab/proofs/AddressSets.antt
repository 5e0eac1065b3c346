-- In the set of a settled router whose routers are still no address is published twice.
use Rattle.hn_base.proofs.Names.{◌≡◌, ◌≢◌, ◌<◌, Contains, sym, ap, subst, inl, inr, arith, cases_lt}
use Rattle.hn_lab.proofs.Names.{StillAddressesStay, same_node, NodeId, HasVersion, OwnVersionIsSaid, OwnAddressesAreSaid, seen_by, Member, Parts, IsReached, AreAddressesStill}
use Rattle.hn_addr.specs.Addresses.{IsAddressOfOther}
use Rattle.hn_data.specs.Said.{HasAddress}
use Rattle.hn_lab.specs.AddressReports.{AreAlone}
use Rattle.hn_lab.proofs.Sets.{IsKnown, router_of, seen_of}
use Rattle.hn_own.specs.Addresses.{OwnAddress}

module _ (version : OwnVersionIsSaid) (said : OwnAddressesAreSaid) (stays : StillAddressesStay) (w : Parts) (r : Member) (known : IsKnown w r) (still : AreAddressesStill w r) where
  -- what one of the set publishes is, to another of it, an address of another node
  taken : (s u : Member) (a b : OwnAddress) → IsReached w r s → IsReached w r u → HasAddress u.router.own.body b → a.1 ≡ b.1
      → u.router.id.0 ≢ s.router.id.0 → IsAddressOfOther (seen_by s.router) u.router.id.0 a.1
  taken s u a b s_in u_in b_said same apart =
      let seen = (seen_of w r known s s_in).each_member u u_in in
      record {
        entry = seen.0;
        reachable = seen.1;
        is_it = ap (λ (id : NodeId). id.0) seen.2;
        other = apart;
        version = subst HasVersion (sym seen.3) (version u.router (router_of w r known u u_in));
        said = b;
        says = subst (λ body. HasAddress body b) (sym seen.3) b_said;
        of_address = sym same;
      }

  -- so it is none of a router with a greater identifier
  not_above : (s u : Member) (a b : OwnAddress) → IsReached w r s → IsReached w r u → HasAddress s.router.own.body a → HasAddress u.router.own.body b → a.1 ≡ b.1 → ¬ (s.router.id.0 < u.router.id.0)
  not_above s u a b s_in u_in a_said b_said same above =
      let own : Contains s.router.addresses a = (said s.router a (router_of w r known s s_in)).0 a_said in
      (stays s.router a (still.1 s s_in) own).0 u.router.id.0 (taken s u a b s_in u_in b_said same (λ is. omega (arith, is, above))) above

  -- nor does one router publish it twice
  once : (s : Member) (a b : OwnAddress) → IsReached w r s → HasAddress s.router.own.body a → HasAddress s.router.own.body b → a.1 ≡ b.1 → a ≡ b
  once s a b s_in a_said b_said same =
      let router = router_of w r known s s_in in
      sym ((stays s.router a (still.1 s s_in) ((said s.router a router).0 a_said)).1 b ((said s.router b router).0 b_said) (sym same))

  of_one : (s u : Member) (a b : OwnAddress) → IsReached w r s → IsReached w r u → HasAddress s.router.own.body a → HasAddress u.router.own.body b
      → a.1 ≡ b.1 → s.router.id.0 ≡ u.router.id.0 → (s ≡ u) × (a ≡ b)
  of_one s u a b s_in u_in a_said b_said same ids =
      let one : s ≡ u = (seen_of w r known s s_in).one_of_an_id s u s_in u_in (same_node s.router.id u.router.id ids) in
      (one, once s a b s_in a_said (subst (λ (m : Member). HasAddress m.router.own.body b) (sym one) b_said) same)

  pub are_alone : AreAlone w r
  are_alone s u a b s_in u_in a_said b_said same =
      elim (cases_lt s.router.id.0 u.router.id.0) [
        | inl above ↦ absurd (not_above s u a b s_in u_in a_said b_said same above)
        | inr not_above_s ↦ elim (cases_lt u.router.id.0 s.router.id.0) [
          | inl above ↦ absurd (not_above u s b a u_in s_in b_said a_said (sym same) above)
          | inr not_above_u ↦ of_one s u a b s_in u_in a_said b_said same (omega (arith, not_above_s, not_above_u))
        ]
      ]
