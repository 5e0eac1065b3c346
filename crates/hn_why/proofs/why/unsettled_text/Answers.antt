use Rattle.hn_base.proofs.Names.{◌∙◌, ℕ, List, ◌∷◌, ◌++◌, ap, append_assoc, name_text}
use Rattle.hn_why.specs.Unsettled.{unsettled_words, unsettled_sentence}
use Rattle.hn_why.proofs.why.unsettled_text.Goals as goal

pub returns : goal.returns
returns c =
    let w = c.args.world.now.parts in
    let why = c.args.why.now in
    let said : List ℕ = unsettled_words w why ++ 10 ∷ unsettled_sentence (name_text c.args.name.now) w why in
    let wrote = c.in_ok-push_said.ensures ∙ ap (λ (xs : List ℕ). xs ++ said) c.in_ok-text.ensures.ok in
    simp append_assoc (simp append_assoc at wrote)
