use Rattle.hn_base.proofs.Names.{◌≡◌, ◌++◌, List, [], AllByRecursion}
use Rattle.hn_lab.proofs.Names.{Version, IsLimited, IsOfVersion, stage_of, Told}
use Rattle.hn_lab.proofs.PlayLines.{SoFar}
use Rattle.hn_lab.proofs.play_lines.play_lines.Given as goal

-- the lines so far are done, and their text is written
abbrev pub invariant-loop-number : goal.invariant-loop-number
invariant-loop-number g l =
    let sink = g.K.Sink in
    let carrier = g.C.Carrier in
    record {
      can : (goal.iterator-loop-number g).can_next l.number-iterator;
      finite : (goal.iterator-loop-number g).is_finite l.number-iterator;
      all : l.fn.lines.items ≡ l.yielded ++ l.number-iterator.rest.items;
      limited : AllByRecursion (λ line. IsLimited line.1) l.number-iterator.rest.items;
      of_version : (version : Version) × AllByRecursion (λ line. IsOfVersion version line.1) l.number-iterator.rest.items;
      so_far : (text : List Told) × SoFar l.yielded (stage_of l.fn.playing (carrier.route l.fn.carrier l.fn.outside) [])
          (stage_of l.playing (carrier.route l.carrier l.outside) text) (sink.held l.fn.out) (sink.held l.out);
      no_fault : sink.faults l.out ≡ sink.faults l.fn.out;
      reliable : sink.never_fails l.fn.out → sink.never_fails l.out;
      no_wire_fault : carrier.faults l.outside ≡ carrier.faults l.fn.outside;
      wire_reliable : carrier.never_fails l.fn.outside → carrier.never_fails l.outside;
    }
