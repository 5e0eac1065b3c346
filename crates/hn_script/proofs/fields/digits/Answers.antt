-- What decodes, and `-`, are the words that write bytes.
use Rattle.hn_base.proofs.Names.{◌≡◌, true, refl, [], sym, ◌∙◌, Decides-eqb, slice_eq-Decides}
use Rattle.hn_script.proofs.HexWords.{some_hex_word, no_hex_word}
use Rattle.hn_script.proofs.fields.digits.Goals as goal

pub returns-then-eq-clause-found : goal.returns-then-eq-clause-found
returns-then-eq-clause-found c =
    let same = slice_eq-Decides Decides-eqb c.args.word.now c.as_slice.result.now c.eq.result c.eq.ensures in
    (refl, [], same.0 c.if-eq.true ∙ c.as_slice.ensures)

pub returns-then-is_hex-clause-found : goal.returns-then-is_hex-clause-found
returns-then-is_hex-clause-found c =
    let found = c.if-is_hex.ensures in
    (refl, found.0, some_hex_word found.0 c.args.word.now c.requires found.1)

pub returns-clause-refused : goal.returns-clause-refused
returns-clause-refused c =
    let same = slice_eq-Decides Decides-eqb c.args.word.now c.as_slice.result.now c.eq.result c.eq.ensures in (
      refl,
      λ bytes. no_hex_word bytes c.args.word.now
          (λ dash. let equal : c.eq.result ≡ true = same.1 (dash ∙ sym c.as_slice.ensures) in absurd (cc)) c.if-is_hex.ensures,
    )
