-- The digits of a front, and of what follows it, are those of both.
use Rattle.hn_base.proofs.Names.{◌≡◌, [], ◌++◌, refl, sym, ap, ◌∙◌, append_assoc}
use Rattle.hn_base.proofs.Names.{take-append-drop}
use Rattle.hn_base.proofs.HexLemmas.{digits_none, digits_more}
use Rattle.hn_base.proofs.hex_text.write_digits.Goals as goal

pub loop-rest-init : goal.loop-rest-init
loop-rest-init g c = ([], refl, λ plain. digits_none g.W.Write.write_str_gives c.args.f.now plain)

pub loop-rest-preserved : goal.loop-rest-preserved
loop-rest-preserved g c =
    let so_far = c.loop-rest.invariant in
    let front = c.split_at.result.0.now in
    let back = c.split_at.result.1.now in
    let split : c.loop-rest.rest.now ≡ front ++ back = sym (take-append-drop 32 c.loop-rest.rest.now) ∙ rw (← c.split_at.ensures.front, ← c.split_at.ensures.back) refl in (
      so_far.0 ++ front,
      so_far.1 ∙ ap (λ z. so_far.0 ++ z) split ∙ sym (append_assoc so_far.0 front back),
      λ plain. digits_more g.W.Write.write_str_gives c.args.f.now c.loop-rest.f c.write_chunk.new.f so_far.0 front (so_far.0 ++ front) refl
          (so_far.2 plain) (c.in_ok-write_chunk.ensures (so_far.2 plain).plain refl),
    )

pub returns : goal.returns
returns g c = λ plain ok.
    let so_far = c.loop-rest.invariant in
    digits_more g.W.Write.write_str_gives c.args.f.now c.loop-rest.f c.write_chunk-2.new.f so_far.0 c.loop-rest.rest.now c.args.bytes.now so_far.1
    (so_far.2 plain) (c.write_chunk-2.ensures (so_far.2 plain).plain ok)
