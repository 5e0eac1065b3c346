-- The attached endpoints, each with its Common Link.
use Rattle.std.specs.Prelude.{List, map}
use Rattle.hn_base.specs.declared.ids.EpId.{EpId}
use Rattle.hn_data.specs.View.{PlainView}
use Rattle.hn_link.specs.CommonLink.{IsCommonLink}
use Rattle.hn_rules.specs.declared.assigning.Post.{Post}

-- the endpoint is beside its Common Link
abbrev pub HasCommonLink : PlainView → Post → Type 0
HasCommonLink view post = IsCommonLink view post.endpoint.0 post.common

-- the endpoints alone
abbrev pub endpoints_at : List Post → List EpId
endpoints_at posts = map (λ post. post.endpoint) posts
