-- The router of a name.
use Rattle.hn_base.proofs.Names.{◌≡◌, Option, None, Some, refl, option_map}
use Rattle.hn_play.proofs.Names.{Member}
use Rattle.hn_router.specs.declared.router.Router.{Router}

-- the router of a name
pub member_of : (found : Option Member) (router : Router) → Some router ≡ option_map (λ m. m.router) found → (m : Member) × (found ≡ Some m) × (router ≡ m.router)
member_of None router is = absurd cc
member_of (Some m) router is = (m, refl, cc)
