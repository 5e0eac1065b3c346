use Rattle.hn_router.proofs.OneAdverts.{one_bytes}
use Rattle.hn_router.proofs.laws.router_has_one_advert.Goals as goal

pub returns : goal.returns
returns c s e a b f g = one_bytes c.usable_is_unique.ensures c.common_link_is_unique.ensures c.elected_is_unique.ensures.answer s e a b f g
