-- A list without repetition whose elements are all in another list is no longer than that.
use Rattle.hn_base.proofs.Names.{◌≡◌, ◌≤◌, Bool, List, length, Contains, Decides, Ordering, IsEquivalence, IsTotalOrder, IsDistinct, IsStrictlySortedBy, IsDistinct-from_sorted, IsExact}
use Rattle.std.specs.Cmp.{eq_by_cmp_equiv}
use Rattle.std.proofs.lemmas.Map.Made.{length-le_from_is_member, is_member-Decides}
use Rattle.hn_base.proofs.DecidingTests.{order_decides}

pub length-le_from_Contains : {K : Type 0} {eq : K → K → Bool} → IsEquivalence eq → ((a b : K) → Decides (eq a b) (a ≡ b)) → (xs ys : List K) → IsDistinct eq xs
    → ((x : K) → Contains xs x → Contains ys x) → length xs ≤ length ys
length-le_from_Contains {K} {eq} laws same xs ys once each =
    length-le_from_is_member laws xs ys once (λ q is. (is_member-Decides same ys q).1 (each q ((is_member-Decides same xs q).0 is)))

-- so it is with a list in ascending order
pub no_longer : {K : Type 0} (R : K → K → Ordering) → IsTotalOrder R → IsExact R → (xs ys : List K) → IsStrictlySortedBy R xs → ((x : K) → Contains xs x → Contains ys x) → length xs ≤ length ys
no_longer R total exact xs ys up each =
    length-le_from_Contains (eq_by_cmp_equiv total) (order_decides R total exact) xs ys (IsDistinct-from_sorted R xs up) each
