use Rattle.hn_base.proofs.Names.{◌∙◌, ℕ, List, ◌∷◌, ◌++◌, ap, append_assoc}
use Rattle.hn_why.specs.Unquiet.{unquiet_words, unquiet_sentence}
use Rattle.hn_why.proofs.why.unquiet_text.Goals as goal

pub returns : goal.returns
returns c =
    let why = c.args.why.now in
    let said : List ℕ = unquiet_words why ++ 10 ∷ unquiet_sentence why in
    let wrote = c.in_ok-push_said.ensures ∙ ap (λ (xs : List ℕ). xs ++ said) c.in_ok-text.ensures.ok in
    simp append_assoc (simp append_assoc at wrote)
