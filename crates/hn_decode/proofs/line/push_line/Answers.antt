use Rattle.hn_base.proofs.Names.{string_bytes}
use Rattle.hn_decode.proofs.Names.{plain}
use Rattle.hn_typed.specs.View.{plain_item}
use Rattle.hn_decode.proofs.LineLemmas.{bad_alone, answer_alone, answer_above}
use Rattle.hn_decode.proofs.line.push_line.Goals as goal

pub returns-in-Ok-clause-alone : goal.returns-in-Ok-clause-alone
returns-in-Ok-clause-alone c =
    answer_alone c.args.below c.args.place (plain c.args.tlv.now) (plain_item c.in-Ok.item)
    (string_bytes c.args.out.now) (string_bytes c.push_line_start.new.out) (string_bytes c.push_item_line.new.out)
    c.in_ok-push_line_start.ensures c.in-Ok.ensures.item c.push_item_line.result c.push_item_line.ensures.alone

pub returns-in-Ok-clause-above : goal.returns-in-Ok-clause-above
returns-in-Ok-clause-above c =
    answer_above c.args.below c.args.place (plain c.args.tlv.now) (plain_item c.in-Ok.item)
    (string_bytes c.args.out.now) (string_bytes c.push_line_start.new.out) (string_bytes c.push_item_line.new.out)
    c.in_ok-push_line_start.ensures c.in-Ok.ensures.item c.push_item_line.result c.push_item_line.ensures.above

pub returns-in_ok-push_str-in-Err-clause-alone : goal.returns-in_ok-push_str-in-Err-clause-alone
returns-in_ok-push_str-in-Err-clause-alone c =
    bad_alone c.args.below c.args.place (plain c.args.tlv.now) c.in-Err.fault.why
    (string_bytes c.args.out.now) (string_bytes c.push_line_start.new.out) (string_bytes c.push_bad.new.out) (string_bytes c.push_str.new.self)
    c.in_ok-push_line_start.ensures c.in-Err.ensures.fault c.in_ok-push_bad-in-Err.ensures c.in_ok-push_str-in-Err.ensures.bytes
