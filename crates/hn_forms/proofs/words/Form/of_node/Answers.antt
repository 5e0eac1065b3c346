use Rattle.hn_base.proofs.Names.{◌≡◌, ◌-◌, [], ◌∷◌, ◌∙◌, length, take, drop, get_or, map, codes, arith}
use Rattle.hn_forms.proofs.Names.{string_bytes}
use Rattle.hn_forms.proofs.Forms.{word_at, six_first, same_word}
use Rattle.hn_forms.proofs.words.Form.of_node.Goals as goal

pub returns-clause-found : goal.returns-clause-found
returns-clause-found c =
    let words = c.args.words.now in
    let texts = map string_bytes words in
    let many = c.in-len6-up.len_at_least in
    let after = map string_bytes (take (length words - 6) (drop 6 words)) in
    let form : get_or texts 1 [] ≡ codes "node" = word_at string_bytes words 1 _ _ (omega arith) c.form-item.is c.as_str.ensures.value ∙ same_word _ _ c.if-ne.ensures in
    let id = word_at string_bytes words 2 _ c.as_str-2.result.now (omega arith) c.id-item.is c.as_str-2.ensures.value in
    let port = word_at string_bytes words 3 _ c.as_str-3.result.now (omega arith) c.port-item.is c.as_str-3.ensures.value in
    let turns = word_at string_bytes words 4 _ c.as_str-4.result.now (omega arith) c.turns-item.is c.as_str-4.ensures.value in
    let seed = word_at string_bytes words 5 _ c.as_str-5.result.now (omega arith) c.seed-item.is c.as_str-5.ensures.value in (
      get_or texts 0 [],
      c.as_str-2.result.now,
      c.as_str-3.result.now,
      c.as_str-4.result.now,
      c.as_str-5.result.now,
      after,
      six_first string_bytes words many ∙ (λ i. get_or texts 0 [] ∷ form i ∷ id i ∷ port i ∷ turns i ∷ seed i ∷ after),
      c.in_ok-call.ensures.found,
    )
