-- What a part of the advertised prefixes tells of all: those that start inside a prefix, and the short ones.
use Rattle.hn_base.proofs.Names.{◌≡◌, ◌∙◌, ℕ, ◌/◌, ◌-◌, ◌^◌, ◌<◌, ◌≤◌, ◌⊎◌, inl, inr, List, [], Contains, Option, Some, None, nat_lt, refl, sym, subst, ⊎_elim, arith, cases_lt, HaveSame, PlainPrefix}
use Rattle.hn_base.proofs.Names.{IsInside, Overlaps}
use Rattle.hn_assign.proofs.Names.{nothing_in, PlainView, Advertised, Assigned, LinkEndpoints, IsCandidatePrefix, IsBestIfAny, IsValid, AreAdvertised, short_of}
use Rattle.std.proofs.Common.{lt-ltb}
use Rattle.hn_base.proofs.Elements.{in_filter, from_filter}
use Rattle.hn_base.proofs.AscendingMade.{sorted_none}
use Rattle.std.specs.Ordering.{nat_cmp}
use Rattle.hn_data.specs.declared.view.Entry.{Entry}
use Rattle.hn_assign.specs.Renewed.{IsKept}
use Rattle.hn_base.proofs.LeadingBits.{alike_in_shorter}

-- the same in another order are as advertised
pub advertised_same : (view : PlainView) (assigned : List Assigned) (a b : List Advertised) → HaveSame a b → AreAdvertised view assigned b → AreAdvertised view assigned a
advertised_same view assigned a b same are x = let both = same x in let here = are x in (λ h. here.0 (both.0 h), λ h. both.1 (here.1 h))

-- with no nodes and no assignments nothing is advertised
nothing_advertised : (own : ℕ) → AreAdvertised (record { own = own; now = 0; nodes = [] }) [] []
nothing_advertised own a =
    (λ h. absurd (nothing_in a h), λ h. ⊎_elim (λ e. absurd (nothing_in e.0 e.1)) (λ c. absurd (nothing_in c.0 c.1)) h)

-- so an empty index is kept of nothing
pub nothing_kept : (own : ℕ) (nodes : List Entry) (assigned : List Assigned) (index : List Advertised) → nodes ≡ [] → assigned ≡ [] → HaveSame index []
    → IsKept own nodes assigned index
nothing_kept own nodes assigned index no_nodes no_assigned none =
    subst (λ (xs : List Entry). IsKept own xs assigned index) (sym no_nodes)
    (subst (λ (ys : List Assigned). IsKept own [] ys index) (sym no_assigned) (record {
      ascending = sorted_none nat_cmp;
      advertised = advertised_same (record { own = own; now = 0; nodes = [] }) [] index [] none (nothing_advertised own);
    }))

-- the part is of the list, and has at least what starts inside the prefix
pub record IsStarting (adv : List Advertised) (outer : PlainPrefix) (part : List Advertised) : Type 0 where
  pub of_all : (a : Advertised) → Contains part a → Contains adv a
  pub starting : (a : Advertised) → Contains adv a → IsInside a.prefix.bits outer → Contains part a

module _ (adv part : List Advertised) (own : ℕ) (common : LinkEndpoints) (d : PlainPrefix) (is : IsStarting adv d part) where
  candidate_here : (a : Advertised) → IsCandidatePrefix adv own common d a → IsCandidatePrefix part own common d a
  candidate_here a h = record { advertised = is.starting a h.advertised (h.inside a.prefix.bits refl); of_another = h.of_another; on_link = h.on_link; inside = h.inside }

  candidate_there : (a : Advertised) → IsCandidatePrefix part own common d a → IsCandidatePrefix adv own common d a
  candidate_there a h = record { advertised = is.of_all a h.advertised; of_another = h.of_another; on_link = h.on_link; inside = h.inside }

  -- the best of those that start inside the delegated prefix is the best of all
  pub best_of_part : (best : Option Advertised) → IsBestIfAny part own common d best → IsBestIfAny adv own common d best
  best_of_part None none = λ a h. none a (candidate_here a h)
  best_of_part (Some best) found = record { candidate = candidate_there best found.candidate; greatest = λ a h. found.greatest a (candidate_here a h) }

-- what overlaps a prefix of at most 64 bits is shorter than 64 bits or starts inside
pub short_or_inside : (a p : PlainPrefix) → p.len ≤ 64 → Overlaps a p → (a.len < 64) ⊎ IsInside a.bits p
short_or_inside a p len (x, in_a, in_p) =
    ⊎_elim (λ (short : a.len < 64). inl short)
    (λ (long : 64 ≤ a.len).
    let alike : x / 2 ^ (128 - p.len) ≡ a.bits / 2 ^ (128 - p.len) = alike_in_shorter x a.bits p.len a.len (omega arith) in_a in
    inr (sym alike ∙ in_p))
    (cases_lt a.len 64)

pub in_short : (adv : List Advertised) (a : Advertised) → Contains adv a → a.prefix.len < 64 → Contains (short_of adv) a
in_short adv a h short = in_filter (λ x. nat_lt x.prefix.len 64) adv a h (lt-ltb _ _ short)

pub of_short : (adv : List Advertised) (a : Advertised) → Contains (short_of adv) a → Contains adv a
of_short adv a h = let both = from_filter (λ x. nat_lt x.prefix.len 64) adv a h in both.0

-- what is valid among all is so among the short ones
module _ (adv short : List Advertised) (own : ℕ) (common : LinkEndpoints) (c : Assigned) (is_short : short ≡ short_of adv) where
  pub valid_of_short : IsValid adv own common c → IsValid short own common c
  valid_of_short valid a h = valid a (of_short adv a (subst (λ (xs : List Advertised). Contains xs a) is_short h))

-- an assignment of at most 64 bits is valid among all where it is among the short ones and those that start inside
module _ (adv short part : List Advertised) (own : ℕ) (common : LinkEndpoints) (c : Assigned) (is_short : short ≡ short_of adv) (is : IsStarting adv c.prefix part) where
  pub valid_of_parts : c.prefix.len ≤ 64 → IsValid short own common c → IsValid part own common c → IsValid adv own common c
  valid_of_parts len among_short among_part a h off overlaps =
      ⊎_elim
      (λ (less : a.prefix.len < 64). among_short a (subst (λ (xs : List Advertised). Contains xs a) (sym is_short) (in_short adv a h less)) off overlaps)
      (λ (inside : IsInside a.prefix.bits c.prefix). among_part a (is.starting a h inside) off overlaps)
      (short_or_inside a.prefix c.prefix len overlaps)

  pub valid_of_part : IsValid adv own common c → IsValid part own common c
  valid_of_part valid a h = valid a (is.of_all a h)
