use Rattle.hn_kept.proofs.PlaceOfPrefix.{place_is_published}
use Rattle.hn_kept.proofs.laws.place_is_published.Goals as goal

pub returns : goal.returns
returns c = place_is_published c.place_is_first.ensures c.inside_are_sub_prefixes.ensures
