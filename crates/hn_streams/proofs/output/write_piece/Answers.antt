use Rattle.hn_base.proofs.Names.{◌≡◌, ◌∙◌, ◌-◌, ◌++◌, length, take, drop, ap, sym, append_assoc, take-append-drop, take_rest}
use Rattle.std.proofs.KnownBytes.{Appends-trans}
use Rattle.hn_streams.proofs.output.write_piece.Goals as goal

pub loop-rest-preserved : goal.loop-rest-preserved
loop-rest-preserved g c =
    let before = c.loop-rest.invariant in
    let rest = c.loop-rest.rest.now in
    let count = c.in_ok-count.count in
    let parts : before.written.0 ++ rest ≡ (before.written.0 ++ take count rest) ++ take (length rest - count) (drop count rest) =
    ap (λ xs. before.written.0 ++ xs) (sym (take-append-drop count rest) ∙ ap (λ xs. take count rest ++ xs) (sym (take_rest rest count))) ∙ sym (append_assoc before.written.0 (take count rest) _)
    in
    record {
      written = (before.written.0 ++ take count rest, before.written.1 ∙ parts, Appends-trans _ _ _ before.written.0 (take count rest) before.written.2 c.in_ok-count.ensures.bytes);
      no_fault = c.in_ok-count.ensures.caused.counts.stays (λ failed. cc) ∙ before.no_fault;
      reliable = λ never. (c.in_ok-count.ensures.caused.reliable (before.reliable never)).0;
    }
