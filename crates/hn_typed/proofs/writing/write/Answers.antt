use Rattle.hn_base.proofs.Names.{◌^◌, ◌<◌, subst, ◌∙◌, arith, IsByte}
use Rattle.hn_typed.proofs.Names.{All, PlainItem, IsWritable, fixed_of, tail_of, plain_item}
use Rattle.hn_typed.specs.Written.{kind_of}
use Rattle.hn_typed.proofs.WrittenIsRead.{written_is_item, value_bytes}
use Rattle.hn_typed.proofs.writing.write.Goals as goal

pub returns-clause-valid : goal.returns-clause-valid
returns-clause-valid c =
    let item : PlainItem = plain_item c.args.item.now in
    let kind : kind_of item < 2 ^ 16 = omega (arith, c.parts_of-parts.ensures.kind, c.parts_of-parts.type_inv) in
    let fixed : All IsByte (fixed_of item) = subst (All IsByte) (c.as_slice-fixed.ensures ∙ c.parts_of-parts.ensures.fixed) c.put-2.ensures.bytes in
    let after : All IsByte (tail_of item) = subst (All IsByte) c.parts_of-parts.ensures.after c.put-3.ensures.bytes in
    record { kind_fits = kind; length_fits = omega (arith, c.requires.short); bytes = value_bytes item fixed after }

pub returns-clause-read_back : goal.returns-clause-read_back
returns-clause-read_back c =
    let item : PlainItem = plain_item c.args.item.now in
    let writable : IsWritable item = record {
      in_range = c.parts_of-parts.ensures.in_range c.requires.priority;
      text = c.parts_of-parts.ensures.text;
      other_kind = c.requires.other_kind;
      tlvs_after = c.requires.subs;
      short = c.requires.short;
    } in
    written_is_item item writable
