use Rattle.hn_base.proofs.Names.{◌≡◌, ◌∙◌, ℕ, Bool, Option, None, Some, length, get_or, is_some, refl, ap, unwrap_or, if◌then◌else◌}
use Rattle.std.specs.Option.{option_to_list}
use Rattle.hn_radv.specs.Sender.{sent}
use Rattle.hn_radv.proofs.sender.Sender.due.Goals as goal

-- a word as a list of words
how_many : (word : Option ℕ) → length (option_to_list word) ≡ (if is_some word then 1 else 0)
how_many None = refl
how_many (Some word) = refl

the_first : (word : Option ℕ) → unwrap_or word 0 ≡ get_or (option_to_list word) 0 0
the_first None = refl
the_first (Some word) = refl

pub returns-clause-sent : goal.returns-clause-sent
returns-clause-sent g c = λ _.
    let word = c.word-word.result in (
      option_to_list word,
      how_many word ∙ ap (λ (b : Bool). if b then 1 else 0) c.word-word.ensures.some,
      c.send.ensures ∙ ap (λ (w : ℕ). sent c.args.now w c.args.self.now) (the_first word),
      c.word-word.ensures.drew,
    )
