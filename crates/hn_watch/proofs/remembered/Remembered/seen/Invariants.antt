use Rattle.hn_base.proofs.Names.{◌≡◌, map, Contains, IsOrdered, filter_map, deref_pair}
use Rattle.hn_watch.proofs.Names.{Seen, number_cmp}
use Rattle.hn_watch.proofs.SeenLemmas.{seen_at}
use Rattle.hn_watch.proofs.remembered.Remembered.seen.Given as goal

abbrev pub invariant-loop-kept : goal.invariant-loop-kept
invariant-loop-kept l = record {
  so_far : l.seen ≡ filter_map (seen_at l.self.claims.entries) (map deref_pair l.yielded);
  ordered : (seen : Seen) → Contains l.seen seen → IsOrdered number_cmp l.self.claims;
}
