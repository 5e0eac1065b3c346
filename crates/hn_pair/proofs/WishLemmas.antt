-- Wishes, and one more.
use Rattle.hn_base.proofs.Names.{◌≡◌, ◌↔◌, ◌⊎◌, List, [], Contains, Option, None, Some, subst, inl, inr, ⊎_elim, arith, HasAt, get_or, All-contains, Contains-get_or}
use Rattle.hn_pair.proofs.Names.{Wish, IsFitting, wish_pair, pair_cmp, Updates}
use Rattle.hn_pair.specs.Facts.{AreWishes}
use Rattle.hn_pair.proofs.AroundPair.{ascending_nil}
use Rattle.hn_base.proofs.AtKey.{has_one}
use Rattle.hn_base.proofs.DecidingTests.{cases_by}
use Rattle.hn_pair.proofs.Orders.{pair_total, pair_exact}

pub no_wishes : AreWishes []
no_wishes = record { ascending = ascending_nil wish_pair; fitting = λ k d within. absurd (omega (arith, within)) }

-- what is there after a wish for a new pair was added
pub one_wish_more : (xs ys : List Wish) (wish w : Wish) → HasAt wish_pair (wish_pair wish) None xs → Updates wish_pair (wish_pair wish) (Some wish) xs ys → Contains ys w ↔ (Contains xs w ⊎ (wish ≡ w))
one_wish_more xs ys wish w none u = (there, back)
  where
    some_same : (x y : Wish) → ◌≡◌ {A = Option Wish} (Some x) (Some y) → x ≡ y
    some_same x y same = cc

    there : Contains ys w → Contains xs w ⊎ (wish ≡ w)
    there h =
        ⊎_elim (λ (same : wish_pair w ≡ wish_pair wish). inr (some_same wish w (has_one wish_pair pair_cmp pair_total (wish_pair wish) ys (Some wish) (Some w) u.ascending u.here (h, same))))
        (λ (not : ¬ (wish_pair w ≡ wish_pair wish)). inl ((u.others w not).0 h)) (cases_by pair_cmp pair_total pair_exact (wish_pair w) (wish_pair wish))

    back : Contains xs w ⊎ (wish ≡ w) → Contains ys w
    back (inl h) = (u.others w (none w h)).1 h
    back (inr same) = subst (Contains ys) same u.here.0

pub wishes_more : (xs ys : List Wish) (wish : Wish) → HasAt wish_pair (wish_pair wish) None xs → Updates wish_pair (wish_pair wish) (Some wish) xs ys → AreWishes xs → IsFitting wish → AreWishes ys
wishes_more xs ys wish none u are fits = record {
  ascending = u.ascending;
  fitting = λ k d within. let w = get_or ys k d in
      ⊎_elim (λ (old : Contains xs w). All-contains IsFitting xs w are.fitting old) (λ (same : wish ≡ w). subst IsFitting same fits)
      ((one_wish_more xs ys wish w none u).0 (Contains-get_or ys k d within));
}
