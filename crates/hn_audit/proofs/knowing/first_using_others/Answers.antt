use Rattle.hn_base.proofs.Names.{◌≡◌, ◌<◌, List, Option, Some, None, length, get_or, arith, Bor, All-contains, All-nil, IfOk-weaker}
use Rattle.hn_audit.proofs.Names.{All, all_of, UsableIsUnique, Member, Unsettled, IsFirstFound, FindsUsed, members_of, UseSame}
use Rattle.hn_audit.proofs.EqualInPlace.{use_same_too}
use Rattle.hn_audit.proofs.Searching.{member_found}
use Rattle.hn_audit.proofs.knowing.first_using_others.Goals as goal

-- if all use the same as the first, each two do; and the first two that do not are the first and one that it does not do as
by_the_first : UsableIsUnique → (set : List (Bor Member)) (r : Bor Member) → 0 < length set → r ≡ get_or set 0 r → (found : Option Unsettled)
    → IsFirstFound (FindsUsed r.now) (members_of set) found → IsFirstFound (λ s. IsFirstFound (FindsUsed s) (members_of set)) (members_of set) found
by_the_first once set r within is None all =
    all_of (λ s. All (λ o. UseSame s.router o.router) (members_of set)) (members_of set) (λ s one.
    all_of (λ o. UseSame s.router o.router) (members_of set) (λ o other.
    use_same_too once r.now.router s.router o.router (All-contains as_r (members_of set) s all one) (All-contains as_r (members_of set) o all other)))
  where
    as_r : Member → Type 0
    as_r s = UseSame r.now.router s.router
by_the_first once set r within is (Some u) found =
    let finds : Member → Option Unsettled → Type 0 = λ s. IsFirstFound (FindsUsed s) (members_of set) in
    member_found finds set 0 (All-nil (λ (s : Bor Member). finds s.now None)) r u within is found

pub returns-in-len1-up : goal.returns-in-len1-up
returns-in-len1-up c =
    let set = c.args.set.now in
    let within : 0 < length set = omega (arith, c.in-len1-up.len_at_least) in
    let P : Option Unsettled → Type 0 = IsFirstFound (FindsUsed c.first-item.result.now) (members_of set) in
    let Q : Option Unsettled → Type 0 = IsFirstFound (λ s. IsFirstFound (FindsUsed s) (members_of set)) (members_of set) in
    IfOk-weaker c.first_with_others.result P Q (by_the_first c.usable_is_unique.ensures set c.first-item.result within c.first-item.is) c.first_with_others.ensures
