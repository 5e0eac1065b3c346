use Rattle.hn_base.proofs.Names.{◌≡◌, ◌∙◌, [], ap, sym, inl, inr, arith, common_steps}
use Rattle.hn_store.proofs.Names.{hash_of}
use Rattle.hn_store.proofs.acceptance.carries_data.Goals as goal

pub returns-else-not-is_empty : goal.returns-else-not-is_empty
returns-else-not-is_empty c =
    let same = c.same_hash.ensures.same in
    let empty : c.args.state.now.body.now ≡ [] = grind (arith, common_steps) in
    let none : c.args.hash ≡ hash_of [] = c.requires ∙ ap hash_of empty in
    (λ yes. inr (same.0 yes ∙ none), λ carries. elim carries [ inl bytes ↦ absurd (bytes empty) | inr is ↦ same.1 (is ∙ sym none) ])
