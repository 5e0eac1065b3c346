use Rattle.hn_base.proofs.Names.{Option, inl, inr}
use Rattle.hn_audit.proofs.Names.{Unsettled, IsFirstFound, OrElse, FindsOfPeers, FindsStranger, FindsUnseen, members_of, plain_spots}
use Rattle.hn_audit.proofs.Searching.{or_else}
use Rattle.hn_audit.proofs.spots.first_on_links.Goals as goal

pub returns-in-Some : goal.returns-in-Some
returns-in-Some c = inl c.in-Some.ensures

pub returns-in-Some-first_unseen : goal.returns-in-Some-first_unseen
returns-in-Some-first_unseen c = inr (c.in_default.ensures, inl c.in-Some-first_unseen.ensures)

pub returns : goal.returns
returns c =
    let set = members_of c.args.set.now in
    let spots = plain_spots c.args.spots.now in
    let strangers : Option Unsettled → Type 0 = IsFirstFound (FindsStranger c.args.reach.now spots) c.args.world.now.parts.members in
    let unseen : Option Unsettled → Type 0 = IsFirstFound (λ a. IsFirstFound (FindsUnseen a) spots) spots in
    let untrue : Option Unsettled → Type 0 = IsFirstFound (FindsOfPeers set) set in
    or_else strangers (OrElse unseen untrue) c.in_default.ensures c.first_untrue.result (or_else unseen untrue c.in_default-first_unseen.ensures c.first_untrue.result c.first_untrue.ensures)
