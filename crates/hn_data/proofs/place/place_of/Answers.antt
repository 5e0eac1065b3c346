use Rattle.hn_base.proofs.Names.{rules, slice_get, length, ◌<◌, ◌≡◌, Some, nat_cmp, nat_cmp_total, answers_always, IfSome_then}
use Rattle.hn_data.proofs.Names.{ids_of, exact_nat}
use Rattle.std.specs.List.{Contains}
use Rattle.hn_base.proofs.PartsAtPlaces.{found_by}
use Rattle.hn_data.proofs.PeerPlaces.{said_of_ok}
use Rattle.hn_data.proofs.place.place_of.Goals as goal

pub returns : goal.returns
returns c =
    let said = c.binary_search_by_key.ensures in
    let nodes = c.args.nodes.now in
    let id = c.args.id.0 in
    let by_id = said.position (λ n. n.id.0) (answers_always _ _ _ (λ f a r g called. search rules)) in
    let is = found_by (λ n. n.id.0) nat_cmp nat_cmp_total exact_nat nodes id c.binary_search_by_key.result c.requires said.bound by_id in
    let either =
    said_of_ok c.binary_search_by_key.result c.ok.result (λ place. (place < length nodes) × (slice_get (ids_of nodes) place ≡ Some id))
    (¬ (Contains (ids_of nodes) id)) c.ok.ensures.value is in
    record {
      within = IfSome_then c.ok.result either.0 (λ place p. p.0);
      found = IfSome_then c.ok.result either.0 (λ place p. p.1);
      absent = either.1;
    }
