-- Rules of which each has at most one result over one stream of words, and how they compose.
use Rattle.hn_base.proofs.Names.{◌≡◌, ◌∙◌, ◌⊎◌, ℕ, List, [], ◌∷◌, ◌++◌, Option, Some, None, length, get_or, ap, refl, sym, subst, inl, inr, append-nil, RuleOf, Then, Each, OnSome, IsSoleBy, Begins}
use Rattle.hn_base.proofs.FirstWords.{begins_front, begins_along, same_taken}

-- The words that were taken so far are known.
module _ {S : Type 0} (words : S → List ℕ) where
  -- ---- rules with at most one result

  -- a rule that takes words, of which it says how many, and what it then gives
  pub sole_drawn : (rule : RuleOf S) (drawn : (r a : S) → rule r a → List ℕ)
      → ((r a : S) (h : rule r a) → words a ≡ words r ++ drawn r a h)
      → ((r a b : S) (h : rule r a) (k : rule r b) → length (drawn r a h) ≡ length (drawn r b k))
      → ((r a b : S) (h : rule r a) (k : rule r b) → drawn r a h ≡ drawn r b k → a ≡ b) → IsSoleBy words rule
  sole_drawn rule drawn takes as_many gives = record {
    grows = λ stream r a h begins. begins_front (words r) (drawn r a h) stream (begins_along (words a) (words r ++ drawn r a h) stream (takes r a h) begins);
    one = λ stream r a b h k at_a at_b.
        gives r a b h k (same_taken (words r) (drawn r a h) (drawn r b k) stream (as_many r a b h k)
        (begins_along (words a) (words r ++ drawn r a h) stream (takes r a h) at_a)
        (begins_along (words b) (words r ++ drawn r b k) stream (takes r b k) at_b));
  }

  -- a rule that takes no words
  pub sole_given : (rule : RuleOf S) → ((r a : S) → rule r a → words a ≡ words r) → ((r a b : S) → rule r a → rule r b → a ≡ b) → IsSoleBy words rule
  sole_given rule same one =
      sole_drawn rule (λ r a h. []) (λ r a h. same r a h ∙ sym (append-nil (words r))) (λ r a b h k. refl) (λ r a b h k _. one r a b h k)

  pub sole_plain : (rule : S → S) → ((r : S) → words (rule r) ≡ words r) → IsSoleBy words (λ r a. a ≡ rule r)
  sole_plain rule same =
      sole_given (λ r a. a ≡ rule r) (λ r a h. ap words h ∙ same r) (λ r a b h k. h ∙ sym k)

  -- a rule that takes one word
  pub sole_word : (rule : ℕ → S → S) → ((word : ℕ) (r : S) → words (rule word r) ≡ words r ++ word ∷ []) → IsSoleBy words (λ r a. (word : ℕ) × (a ≡ rule word r))
  sole_word rule takes =
      sole_drawn (λ r a. (word : ℕ) × (a ≡ rule word r)) (λ r a h. h.0 ∷ []) (λ r a h. ap words h.1 ∙ takes h.0 r) (λ r a b h k. refl)
      (λ r a b h k same. h.1 ∙ ap (λ (ws : List ℕ). rule (get_or ws 0 0) r) same ∙ sym k.1)

  -- a rule of which another holds wherever it does
  pub sole_from : (rule other : RuleOf S) → ((r a : S) → rule r a → other r a) → IsSoleBy words other → IsSoleBy words rule
  sole_from rule other along a = record {
    grows = λ stream r x h. a.grows stream r x (along r x h);
    one = λ stream r x y h k. a.one stream r x y (along r x h) (along r y k);
  }

  -- ---- how they compose

  pub sole_both : (first second : RuleOf S) → IsSoleBy words first → IsSoleBy words second → IsSoleBy words (Then first second)
  sole_both first second a b = record {
    grows = λ stream r x h begins. a.grows stream r h.0 h.1 (b.grows stream h.0 x h.2 begins);
    one = λ stream r x y h k at_x at_y.
        let same = a.one stream r h.0 k.0 h.1 k.1 (b.grows stream h.0 x h.2 at_x) (b.grows stream k.0 y k.2 at_y) in
        b.one stream k.0 x y (subst (λ (m : S). second m x) same h.2) k.2 at_x at_y;
  }

  pub sole_each : {A : Type 0} (rule : A → RuleOf S) → ((x : A) → IsSoleBy words (rule x)) → (xs : List A) → IsSoleBy words (Each rule xs)
  sole_each rule all [] = sole_plain (λ r. r) (λ r. refl)
  sole_each rule all (x ∷ xs) = sole_both (rule x) (Each rule xs) (all x) (sole_each rule all xs)

  -- a rule that reads where it begins
  pub sole_start : (rule : S → RuleOf S) → ((s : S) → IsSoleBy words (rule s)) → IsSoleBy words (λ r a. rule r r a)
  sole_start rule all = record {
    grows = λ stream r. (all r).grows stream r;
    one = λ stream r. (all r).one stream r;
  }

  -- a rule after a change
  pub sole_after : (first : S → S) (rule : RuleOf S) → ((r : S) → words (first r) ≡ words r) → IsSoleBy words rule → IsSoleBy words (λ r a. rule (first r) a)
  sole_after first rule same a = record {
    grows = λ stream r x h begins. begins_along (words (first r)) (words r) stream (same r) (a.grows stream (first r) x h begins);
    one = λ stream r. a.one stream (first r);
  }

  -- a rule of the element that is found, if one is
  pub sole_on : {A : Type 0} (find : S → Option A) (rule : A → RuleOf S) → ((x : A) → IsSoleBy words (rule x)) → IsSoleBy words (λ r a. OnSome rule (find r) r a)
  sole_on {A} find rule all = sole_start (λ s. OnSome rule (find s)) (λ s. on_some (find s))
    where
      on_some : (found : Option A) → IsSoleBy words (OnSome rule found)
      on_some None = sole_plain (λ r. r) (λ r. refl)
      on_some (Some x) = all x

  -- one of two rules that exclude each other
  pub sole_or : (first second : RuleOf S) → IsSoleBy words first → IsSoleBy words second → ((r a b : S) → first r a → second r b → ⊥) → IsSoleBy words (λ r a. first r a ⊎ second r a)
  sole_or first second one other apart = record {
    grows = λ stream r a h begins. elim h [ inl x ↦ one.grows stream r a x begins | inr x ↦ other.grows stream r a x begins ];
    one = same;
  }
    where
      same : (stream : ℕ → ℕ) (r a b : S) → first r a ⊎ second r a → first r b ⊎ second r b → Begins (words a) stream → Begins (words b) stream → a ≡ b
      same stream r a b (inl h) (inl k) at_a at_b = one.one stream r a b h k at_a at_b
      same stream r a b (inl h) (inr k) at_a at_b = absurd (apart r a b h k)
      same stream r a b (inr h) (inl k) at_a at_b = absurd (apart r b a k h)
      same stream r a b (inr h) (inr k) at_a at_b = other.one stream r a b h k at_a at_b

  -- a rule where a fact holds
  pub sole_where : (P : S → Type 0) (rule : RuleOf S) → IsSoleBy words rule → IsSoleBy words (λ r a. P r × rule r a)
  sole_where P rule a = record {
    grows = λ stream r x h. a.grows stream r x h.1;
    one = λ stream r x y h k. a.one stream r x y h.1 k.1;
  }

  -- the rule of some value, where there is at most one such value
  pub sole_some : {A : Type 0} (P : A → Type 0) (rule : A → RuleOf S) → ((x y : A) → P x → P y → x ≡ y) → ((x : A) → IsSoleBy words (rule x)) → IsSoleBy words (λ r a. (x : A) × P x × rule x r a)
  sole_some {A} P rule unique all = record {
    grows = λ stream r a h. (all h.0).grows stream r a h.2;
    one = λ stream r a b h k. (all h.0).one stream r a b h.2 (subst (λ (x : A). rule x r b) (unique k.0 h.0 k.1 h.1) k.2);
  }
