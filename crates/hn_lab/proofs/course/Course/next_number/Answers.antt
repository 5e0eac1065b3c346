use Rattle.hn_base.proofs.Names.{◌≡◌, ◌<◌, ap, arith, length}
use Rattle.hn_lab.specs.Course.{script_of}
use Rattle.hn_lab.proofs.course.Course.next_number.Goals as goal

pub overflow_cast-result : goal.overflow_cast-result
overflow_cast-result c =
    let s = c.args.self.now in
    let few : length s.lines.items < length s.source.items = c.lines_are_added.ensures.few (script_of s) s.source.items c.requires.0 in
    let same : length c.as_slice-lines.result.now ≡ length s.lines.items = ap length c.as_slice-lines.ensures.value in
    omega (arith, few, c.requires.1, same)

pub overflow_add-result : goal.overflow_add-result
overflow_add-result c =
    let s = c.args.self.now in
    let few : length s.lines.items < length s.source.items = c.lines_are_added.ensures.few (script_of s) s.source.items c.requires.0 in
    let same : length c.as_slice-lines.result.now ≡ length s.lines.items = ap length c.as_slice-lines.ensures.value in
    omega (arith, few, c.requires.1, same)
