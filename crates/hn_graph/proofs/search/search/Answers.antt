use Rattle.hn_base.proofs.Names.{rules, slice_get, length, ◌<◌, ◌≡◌, Some, Ok, Err, Result, MatchResult, ℕ, nat_cmp, nat_cmp_total, answers_always}
use Rattle.hn_graph.proofs.Names.{ids_of}
use Rattle.std.proofs.Common.{IfOk}
use Rattle.std.specs.Result.{IfErr}
use Rattle.std.specs.List.{Contains}
use Rattle.hn_base.proofs.AscendingLists.{exact_nat}
use Rattle.hn_base.proofs.PartsAtPlaces.{found_by}
use Rattle.hn_graph.proofs.search.search.Goals as goal

both : (r : Result ℕ ℕ) (P : ℕ → Type 0) (Q : Type 0) → MatchResult r P (λ _. Q) → IfOk r P × IfErr r (λ _. Q)
both (Ok i) P Q holds = (holds, tt)
both (Err i) P Q holds = (tt, holds)

pub returns : goal.returns
returns c =
    let said = c.binary_search_by_key.ensures in
    let nodes = c.args.nodes.now in
    let id = c.args.id.0 in
    let by_id = said.position (λ n. n.id.0) (answers_always _ _ _ (λ f a r g called. search rules)) in
    let is = found_by (λ n. n.id.0) nat_cmp nat_cmp_total exact_nat nodes id c.binary_search_by_key.result c.requires said.bound by_id in
    let either = both c.binary_search_by_key.result (λ place. (place < length nodes) × (slice_get (ids_of nodes) place ≡ Some id)) (¬ (Contains (ids_of nodes) id)) is in
    record { found = either.0; absent = either.1 }
