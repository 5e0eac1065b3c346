-- Where the first `::` stands.
use Rattle.hn_base.proofs.Names.{◌≡◌, ◌≢◌, ℕ, ◌+◌, ◌-◌, ◌<◌, List, [], ◌∷◌, ◌++◌, length, get_or, take, drop, sym, ap, subst, ◌∙◌, append_assoc, arith, take_more}
use Rattle.hn_prefix.proofs.Names.{HasNoGap, SplitsAtGap}
use Rattle.hn_base.proofs.SplitLemmas.{around}

HasNoGap-push : (xs : List ℕ) (c d : ℕ) → (c ≡ 58 → d ≢ 58) → HasNoGap (xs ++ c ∷ []) → HasNoGap (xs ++ c ∷ d ∷ [])
HasNoGap-push [] c d ne h = (ne, tt)
HasNoGap-push (x ∷ []) c d ne h = (h.0, (ne, tt))
HasNoGap-push (x ∷ y ∷ xs) c d ne h = (h.0, HasNoGap-push (y ∷ xs) c d ne h.1)

-- the element before i, and the one at i
take_two_more : (text : List ℕ) (i : ℕ) → 0 < i → i < length text → take (i + 1) text ≡ take (i - 1) text ++ get_or text (i - 1) 0 ∷ get_or text i 0 ∷ []
take_two_more text i some lt =
    let before : take i text ≡ take (i - 1) text ++ get_or text (i - 1) 0 ∷ [] =
    subst (λ k. take k text ≡ take (i - 1) text ++ get_or text (i - 1) 0 ∷ []) (omega arith) (take_more text (i - 1) 0 (omega arith)) in
    take_more text i 0 lt ∙ ap (λ t. t ++ get_or text i 0 ∷ []) before ∙ append_assoc (take (i - 1) text) (get_or text (i - 1) 0 ∷ []) (get_or text i 0 ∷ [])

take_one_more : (text : List ℕ) (i : ℕ) → 0 < i → i < length text → take i text ≡ take (i - 1) text ++ get_or text (i - 1) 0 ∷ []
take_one_more text i some lt = subst (λ k. take k text ≡ take (i - 1) text ++ get_or text (i - 1) 0 ∷ []) (omega arith) (take_more text (i - 1) 0 (omega arith))

pub HasNoGap-take_more : (text : List ℕ) (i : ℕ) → 0 < i → i < length text → (get_or text (i - 1) 0 ≡ 58 → get_or text i 0 ≢ 58) → HasNoGap (take i text) → HasNoGap (take (i + 1) text)
HasNoGap-take_more text i some lt ne h =
    rw (take_two_more text i some lt) (HasNoGap-push (take (i - 1) text) (get_or text (i - 1) 0) (get_or text i 0) ne (subst HasNoGap (take_one_more text i some lt) h))

pub HasNoGap-take_one : (text : List ℕ) → HasNoGap (take 1 text)
HasNoGap-take_one [] = tt
HasNoGap-take_one (c ∷ text) = tt

pub SplitsAtGap_here : (text : List ℕ) (i : ℕ) → 0 < i → i < length text → get_or text (i - 1) 0 ≡ 58 → get_or text i 0 ≡ 58 → HasNoGap (take i text)
    → SplitsAtGap text (take (i - 1) text) (drop (i + 1) text)
SplitsAtGap_here text i some lt first second before =
    record {
      parts = around text i 58 lt second ∙ ap (λ t. t ++ 58 ∷ drop (i + 1) text) (take_one_more text i some lt ∙ ap (λ c. take (i - 1) text ++ c ∷ []) first)
          ∙ append_assoc (take (i - 1) text) (58 ∷ []) (58 ∷ drop (i + 1) text) ∙ sym (append_assoc (take (i - 1) text) (58 ∷ 58 ∷ []) (drop (i + 1) text));
      first = subst HasNoGap (take_one_more text i some lt ∙ ap (λ c. take (i - 1) text ++ c ∷ []) first) before;
    }
