use Rattle.hn_base.proofs.Names.{◌≡◌, ◌∙◌, ℕ, ap, subst, sym}
use Rattle.hn_own.proofs.Names.{IsAscendingSet, hash_of, OwnItems, pieces_of}
use Rattle.hn_own.proofs.laws.own_data_is_unique.Goals as goal

pub returns : goal.returns
returns c a b is_a is_b items born =
    let moved = subst (λ (own : OwnItems). IsAscendingSet (pieces_of a.born own) a.body) items is_a.encoded in
    let set = subst (λ (n : ℕ). IsAscendingSet (pieces_of n b.items) a.body) born moved in
    let body : a.body ≡ b.body = c.ascending_set_is_unique.ensures (pieces_of b.born b.items) a.body b.body set is_b.encoded in
    let hash : a.hash ≡ b.hash = is_a.hashed ∙ ap hash_of body ∙ sym is_b.hashed in
    λ i. record { items = items i; born = born i; body = body i; hash = hash i }
