-- What a router asks prefixes for: its posts. They are its attached endpoints and, where it has a private link, endpoint 0.
use Rattle.std.specs.Prelude.{ℕ, ◌==◌, if◌then◌else◌, List, [], ◌∷◌, ◌++◌, Option, None, Some}
use Rattle.hn_base.specs.declared.ids.EpId.{EpId}
use Rattle.hn_dncp.specs.declared.port.Port.{Port}
use Rattle.hn_own.specs.Ports.{endpoints_of}

-- the post of a private link
abbrev pub private_post : EpId
private_post = record { 0 = 0 }

abbrev pub private_posts : Option ℕ → List EpId
private_posts None = []
private_posts (Some length) = private_post ∷ []

-- the posts of a router with this private link, or none, and these endpoints
abbrev pub posts_of : Option ℕ → List Port → List EpId
posts_of private ports = private_posts private ++ endpoints_of ports

-- the length of the prefixes that a post gets
abbrev pub length_at : Option ℕ → EpId → ℕ
length_at None e = 64
length_at (Some length) e = if e.0 == 0 then length else 64
