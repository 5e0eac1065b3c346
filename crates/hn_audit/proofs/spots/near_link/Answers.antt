use Rattle.hn_base.proofs.Names.{◌≡◌, ◌∙◌, sym, subst, false≢true, same_Some}
use Rattle.hn_audit.proofs.Names.{plain_spots}
use Rattle.hn_audit.specs.Set.{HasOn}
use Rattle.hn_audit.proofs.spots.near_link.Goals as goal

pub returns-else-is_one_on : goal.returns-else-is_one_on
returns-else-is_one_on c near =
    let same : near.0 ≡ c.in_ok-link.link = same_Some near.0 c.in_ok-link.link (sym near.1 ∙ sym c.in_ok-link.ensures) in
    false≢true (sym c.if-is_one_on.false ∙ c.is_one_on.ensures.1 (subst (HasOn (plain_spots c.args.spots.now)) same near.2))
