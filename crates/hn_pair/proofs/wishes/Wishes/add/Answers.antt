use Rattle.hn_base.proofs.Names.{List, Some, Ok, Err, subst, refl}
use Rattle.hn_pair.proofs.Names.{Wish, Pair, wish_pair, IsPlaceOfPair}
use Rattle.hn_pair.proofs.AroundPair.{put_between, none_between, found_where}
use Rattle.hn_pair.proofs.WishLemmas.{one_wish_more, wishes_more}
use Rattle.hn_pair.proofs.wishes.Wishes.add.Goals as goal

pub invariant_of-self-in-Err : goal.invariant_of-self-in-Err
invariant_of-self-in-Err c =
    let xs = c.self.inside.items.items in
    let pair = wish_pair c.args.wish in
    let place : IsPlaceOfPair wish_pair pair xs (Err c.in-Err.place) =
    subst (λ (p : Pair). IsPlaceOfPair wish_pair p xs (Err c.in-Err.place)) c.pair.ensures
    (subst (λ (ws : List Wish). IsPlaceOfPair wish_pair c.pair.result ws (Err c.in-Err.place)) c.deref.ensures.value c.in-Err.ensures) in
    wishes_more xs c.insert.new.self.items c.args.wish
    (none_between wish_pair pair xs c.in-Err.place place.0 place.1.0 place.1.1 c.self.invariant.ascending)
    (put_between wish_pair pair xs xs c.insert.new.self.items c.in-Err.place (Some c.args.wish) refl place c.self.invariant.ascending refl c.in_ok-insert-in-Err.ensures.items)
    c.self.invariant c.requires

pub returns-in-Ok-clause-known : goal.returns-in-Ok-clause-known
returns-in-Ok-clause-known c same =
    let xs = c.self.inside.items.items in
    let pair = wish_pair c.args.wish in
    let place : IsPlaceOfPair wish_pair pair xs (Ok c.in-Ok.field-0) = rw (← c.pair.ensures, ← c.deref.ensures.value) c.in-Ok.ensures in
    rw (← c.self.view_is) ((found_where wish_pair pair xs (Ok c.in-Ok.field-0) place c.self.invariant.ascending).0 refl)

pub returns-in_ok-insert-in-Err-clause-added : goal.returns-in_ok-insert-in-Err-clause-added
returns-in_ok-insert-in-Err-clause-added c same w =
    let xs = c.self.inside.items.items in
    let pair = wish_pair c.args.wish in
    let place : IsPlaceOfPair wish_pair pair xs (Err c.in-Err.place) =
    subst (λ (p : Pair). IsPlaceOfPair wish_pair p xs (Err c.in-Err.place)) c.pair.ensures
    (subst (λ (ws : List Wish). IsPlaceOfPair wish_pair c.pair.result ws (Err c.in-Err.place)) c.deref.ensures.value c.in-Err.ensures) in
    rw (← c.self.view_is)
    (one_wish_more xs c.insert.new.self.items c.args.wish w
    (none_between wish_pair pair xs c.in-Err.place place.0 place.1.0 place.1.1 c.self.invariant.ascending)
    (put_between wish_pair pair xs xs c.insert.new.self.items c.in-Err.place (Some c.args.wish) refl place c.self.invariant.ascending refl c.in_ok-insert-in-Err.ensures.items))
