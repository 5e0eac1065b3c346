-- Who is elected, as a router sees the network.
use Rattle.hn_base.proofs.Names.{◌≡◌, List, Option, Some, None, refl, subst, IfNone, MatchOption}
use Rattle.hn_router.proofs.Names.{IfSome, EpId, NodeId, Letter, PlainView, IsElected, HasNoCandidate, State, seen_by, IsElectedAt}
use Rattle.std.proofs.Common.{Any}
use Rattle.hn_base.specs.declared.letter.Letter.TheVariants.{H}
use Rattle.hn_data.specs.View.{IsNetwork}
use Rattle.hn_link.specs.CommonLink.{IsCommonLink}
use Rattle.hn_link.specs.Laws.{CommonLinkExists}
use Rattle.hn_router.specs.Advertising.{GivesAddresses}
use Rattle.hn_rules.specs.Nodes.{view_of}

who_is : (view : PlainView) (common : List (NodeId × EpId)) (letter : Letter) (who : Option NodeId)
    → IfSome who (IsElected view common letter) → IfNone who (HasNoCandidate view common letter) → MatchOption who (HasNoCandidate view common letter) (IsElected view common letter)
who_is view common letter None found none = none
who_is view common letter (Some node) found none = found

pub elected_at : (s : State) (e : EpId) (letter : Letter) (view : PlainView) (common : List (NodeId × EpId)) (who : Option NodeId)
    → view ≡ seen_by s → IsCommonLink view e.0 common → IfSome who (IsElected view common letter) → IfNone who (HasNoCandidate view common letter) → IsElectedAt s e letter who
elected_at s e letter view common who sees is_common found none = record {
  common = common;
  is_common = subst (λ (v : PlainView). IsCommonLink v e.0 common) sees is_common;
  is_elected = subst (λ (v : PlainView). MatchOption who (HasNoCandidate v common letter) (IsElected v common letter)) sees (who_is view common letter who found none);
}

-- where no node gives addresses nobody is elected for it
pub nobody_gives : (s : State) (e : EpId) (view : PlainView) → CommonLinkExists → view ≡ seen_by s → IsNetwork s.id.0 (view_of s)
    → (¬ (Any GivesAddresses view.nodes)) → IsElectedAt s e H None
nobody_gives s e view exists sees network nobody =
    let common = exists (seen_by s) e.0 network in
    elected_at s e H (seen_by s) common.0 None refl common.1 tt (λ id caps candidate.
    let serves = candidate.serves in
    subst (λ (v : PlainView). ¬ (Any GivesAddresses v.nodes)) sees nobody
    (serves.there.0, serves.node, serves.there.1, serves.there.2, (caps, serves.version, serves.offers)))
