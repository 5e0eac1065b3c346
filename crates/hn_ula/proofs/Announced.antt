-- The prefix that a router announces is one.
use Rattle.hn_base.proofs.Names.{◌<◌, ◌^◌, ℕ, List, [], ◌∷◌, Contains, sym, ap, subst, inl, inr, arith, All, All-contains, PlainPrefix, IsPrefix}
use Rattle.hn_ula.proofs.Names.{Contains-head, State, Announces, Withdraws, made_of, Ula, Announce}
use Rattle.hn_ula.specs.Laws.{AnnouncedIsPrefix}

made_is_prefix : (first second : ℕ) → first < 2 ^ 32 → IsPrefix (made_of first second)
made_is_prefix first second small = record {
  len_in_range = omega arith;
  bits_in_range = omega (arith, small);
  no_bit_past_len = omega (arith, small);
}

-- what is announced, if anything is
abbrev prefix_in : PlainPrefix → Ula → PlainPrefix
prefix_in p (Announce q) = q
prefix_in p _ = p

not_withdrawn : (s : State) (p : PlainPrefix) (words : List ℕ) → ¬ (Withdraws s (Announce p) words)
not_withdrawn s p words (q, greatest, is, none) = absurd cc

made : (p : PlainPrefix) (words : List ℕ) → Announces (Announce p) words → All (λ word. word < 2 ^ 32) words → IsPrefix p
made p words (first, second, are, is) fit =
    let small : first < 2 ^ 32 = All-contains (λ (word : ℕ). word < 2 ^ 32) words first fit (subst (λ (ws : List ℕ). Contains ws first) (sym are) (Contains-head first (second ∷ []))) in
    subst IsPrefix (sym (ap (prefix_in p) is)) (made_is_prefix first second small)

pub announced : AnnouncedIsPrefix
announced s p words (inl (must, withdraws)) fit = absurd (not_withdrawn s p words withdraws)
announced s p words (inr (_, inl (two, withdraws))) fit = absurd (not_withdrawn s p words withdraws)
announced s p words (inr (_, inr (_, inl (to, announces)))) fit = made p words announces fit
announced s p words (inr (_, inr (_, inr (is, none)))) fit = absurd cc
