-- Where no address is chosen anew, each own address stays.
use Rattle.hn_base.proofs.Names.{◌≡◌, ◌∙◌, ℕ, ◌<◌, List, [], ◌∷◌, ◌++◌, Contains, filter, sym, ap, subst, inl, inr, ⊎_elim, append-nil, Contains-push_cases, Each}
use Rattle.hn_addr.proofs.Names.{Assigned, nothing_in, PlainView, OwnAddress, seen_by, IsAddressOfOther, HasCome, Stays, IsChosenFor, counts, none_chosen, Choosing}
use Rattle.hn_addr.specs.Laws.{StillAddressesStay}

-- a list with one word more is not empty
one_there : (words : List ℕ) (word : ℕ) → words ++ word ∷ [] ≡ [] → ⊥
one_there [] word same = absurd cc
one_there (w ∷ ws) word same = absurd cc

module _ (view : PlainView) (own : List OwnAddress) where
  -- no greater node has an address of the list, and no address is there twice
  record IsCalm (list : List OwnAddress) : Type 0 where
    pub kept : (a : OwnAddress) → Contains list a → (node : ℕ) → IsAddressOfOther view node a.1 → ¬ (view.own < node)
    pub apart : (a b : OwnAddress) → Contains list a → Contains list b → a.1 ≡ b.1 → a ≡ b

  calm_none : IsCalm []
  calm_none = record { kept = λ a there. absurd (nothing_in a there); apart = λ a b there. absurd (nothing_in a there) }

  came_before : (list : List OwnAddress) (a : OwnAddress) (x : ℕ) → Contains list a → a.1 ≡ x → HasCome list x
  came_before list a x there is = record { one = a; among = there; address_is = is }

  calm_more : (c : Assigned) (list : List OwnAddress) (x : ℕ) → Stays view own c list x → IsCalm list → IsCalm (list ++ (c.endpoint, x) ∷ [])
  calm_more c list x stays calm = record { kept = kept; apart = apart }
    where
      this : OwnAddress
      this = (c.endpoint, x)

      kept : (a : OwnAddress) → Contains (list ++ this ∷ []) a → (node : ℕ) → IsAddressOfOther view node a.1 → ¬ (view.own < node)
      kept a there node taken greater =
          ⊎_elim (λ (before : Contains list a). calm.kept a before node taken greater)
          (λ (last : this ≡ a). stays.not_yielded node (subst (λ (b : OwnAddress). IsAddressOfOther view node b.1) (sym last) taken) greater)
          (Contains-push_cases list this a there)

      apart : (a b : OwnAddress) → Contains (list ++ this ∷ []) a → Contains (list ++ this ∷ []) b → a.1 ≡ b.1 → a ≡ b
      apart a b a_there b_there same =
          ⊎_elim (λ (a_before : Contains list a).
          ⊎_elim (λ (b_before : Contains list b). calm.apart a b a_before b_before same)
          (λ (b_last : this ≡ b). absurd (stays.new (came_before list a x a_before (same ∙ sym (ap (λ (e : OwnAddress). e.1) b_last)))))
          (Contains-push_cases list this b b_there))
          (λ (a_last : this ≡ a).
          ⊎_elim (λ (b_before : Contains list b). absurd (stays.new (came_before list b x b_before (sym same ∙ sym (ap (λ (e : OwnAddress). e.1) a_last)))))
          (λ (b_last : this ≡ b). sym a_last ∙ b_last)
          (Contains-push_cases list this b b_there))
          (Contains-push_cases list this a a_there)

  -- where no word was taken after an assignment, none was before it
  step_empty : (c : Assigned) (before after : Choosing) → IsChosenFor view own c before after → after.words ≡ [] → before.words ≡ []
  step_empty c before after (inl (x, stays, is)) none = sym (append-nil before.words) ∙ sym (ap (λ (p : Choosing). p.words) is) ∙ none
  step_empty c before after (inr (_, inl (word, k, first, is))) none = absurd (one_there before.words word (sym (ap (λ (p : Choosing). p.words) is) ∙ none))
  step_empty c before after (inr (_, inr (nobody, is))) none = sym (ap (λ (p : Choosing). p.words) is) ∙ none

  each_empty : (cs : List Assigned) (before after : Choosing) → Each (IsChosenFor view own) cs before after → after.words ≡ [] → before.words ≡ []
  each_empty [] before after is none = sym (ap (λ (p : Choosing). p.words) is) ∙ none
  each_empty (c ∷ cs) before after (between, first, rest) none = step_empty c before between first (each_empty cs between after rest none)

  -- so each assignment keeps the list calm
  step_calm : (c : Assigned) (before after : Choosing) → IsChosenFor view own c before after → after.words ≡ [] → IsCalm before.list → IsCalm after.list
  step_calm c before after (inl (x, stays, is)) none calm = subst (λ (p : Choosing). IsCalm p.list) (sym is) (calm_more c before.list x stays calm)
  step_calm c before after (inr (_, inl (word, k, first, is))) none calm = absurd (one_there before.words word (sym (ap (λ (p : Choosing). p.words) is) ∙ none))
  step_calm c before after (inr (_, inr (nobody, is))) none calm = subst (λ (p : Choosing). IsCalm p.list) (sym is) calm

  each_calm : (cs : List Assigned) (before after : Choosing) → Each (IsChosenFor view own) cs before after → after.words ≡ [] → IsCalm before.list → IsCalm after.list
  each_calm [] before after is none calm = subst (λ (p : Choosing). IsCalm p.list) (sym is) calm
  each_calm (c ∷ cs) before after (between, first, rest) none calm =
      each_calm cs between after rest none (step_calm c before between first (each_empty cs between after rest none) calm)

pub still_stay : StillAddressesStay
still_stay s a still there =
    let calm = each_calm (seen_by s) s.addresses (filter (counts s) s.held.assigned) none_chosen still.end still.chosen (sym still.words_are) (calm_none (seen_by s) s.addresses) in (
      calm.kept a ((still.same a).0 there),
      λ b b_there same. calm.apart b a ((still.same b).0 b_there) ((still.same a).0 there) same,
    )
