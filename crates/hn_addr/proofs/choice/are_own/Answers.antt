use Rattle.hn_base.proofs.Names.{◌≡◌, List, subst, slice_eq-Decides}
use Rattle.hn_addr.proofs.Names.{OwnAddress}
use Rattle.std.specs.Bool.{Decides}
use Rattle.hn_base.proofs.DecidingTests.{numbers_decide}
use Rattle.hn_addr.proofs.OneChoosing.{address_told}
use Rattle.hn_addr.proofs.choice.are_own.Goals as goal

pub returns : goal.returns
returns c =
    let list = c.args.list.now in
    let decided = slice_eq-Decides (numbers_decide (λ (a : OwnAddress). a.0.0) (λ (a : OwnAddress). a.1) address_told) list c.addresses.result.now c.eq.result c.eq.ensures in
    subst (λ (own : List OwnAddress). Decides c.eq.result (list ≡ own)) c.addresses.ensures decided
