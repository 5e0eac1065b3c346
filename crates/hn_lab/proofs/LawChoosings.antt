-- What a router chooses for itself ends in one way.
use Rattle.hn_base.proofs.Names.{◌≡◌, ◌∙◌, ℕ, List, Option, None, Some, sym, ap, subst, same_Some, Begins}
use Rattle.hn_lab.proofs.Names.{Name, State, WEvent, Member, StepIsUnique, unless_runs, Stop, TakesWords, MayHappen, MakesChoice, Chooses, IsKnownRoute, Unless, ThenProcess, Stage}
use Rattle.hn_lab.proofs.Names.{TellsLines}
use Rattle.hn_lab.proofs.LawAlike.{Grows, grows_from, Agree, IsSole, sole_at, sole_nothing, sole_unless, sole_then}
use Rattle.hn_lab.proofs.LawEvents.{sole_event}
use Rattle.hn_lab.proofs.LawTells.{sole_tells}

-- ---- choices

-- over one stream of words a router makes one choice, and takes the same words for it
abbrev pub IsOneChoice : {A : Type 0} → (State → A → List ℕ → Type 0) → Type 0
IsOneChoice {A} IsMadeBy =
    (s : State) (a b : A) (v w : List ℕ) (stream : ℕ → ℕ)
    → IsMadeBy s a v → IsMadeBy s b w → Begins v stream → Begins w stream → (a ≡ b) × (v ≡ w)

sole_may_happen : StepIsUnique → (event : Option WEvent) → IsSole (MayHappen event)
sole_may_happen steps None = sole_nothing
sole_may_happen steps (Some event) = sole_event steps event

module _ {A : Type 0} (steps : StepIsUnique) (name : Name) (IsMadeBy : State → A → List ℕ → Type 0) (event_for : A → Option WEvent) (told_of : A → List (List ℕ)) (unique : IsOneChoice IsMadeBy) where
  -- what follows from a choice
  sole_made : (made : A) → IsSole (ThenProcess (MayHappen (event_for made)) (TellsLines (told_of made)))
  sole_made made = sole_then (MayHappen (event_for made)) (TellsLines (told_of made)) (sole_may_happen steps (event_for made)) (sole_tells (told_of made))

  -- words are taken: the route and the text stay
  told_between : (words : List ℕ) (p q : Stage) → TakesWords words p q → IsKnownRoute p.route → IsKnownRoute q.route
  told_between words p q takes told = subst (λ (s : Stage). IsKnownRoute s.route) (sym takes.gives) told

  -- the other choice is the same, and so it comes to its end from there
  same_choice : (c d : Option Stop) (p a b : Stage) → (h : MakesChoice name IsMadeBy event_for told_of c p a) (k : MakesChoice name IsMadeBy event_for told_of d p b)
      → ThenProcess (MayHappen (event_for h.made)) (TellsLines (told_of h.made)) d h.between b
  same_choice c d p a b h k =
      let member : k.member ≡ h.member = same_Some k.member h.member (sym k.is_member ∙ h.is_member) in
      let is_made : IsMadeBy h.member.router k.made k.words = subst (λ (m : Member). IsMadeBy m.router k.made k.words) member k.is_made in
      let one = unique h.member.router k.made h.made k.words h.words p.words is_made h.is_made k.takes.begins h.takes.begins in
      let takes : TakesWords h.words p k.between = subst (λ (ws : List ℕ). TakesWords ws p k.between) one.1 k.takes in
      let between : k.between ≡ h.between = takes.gives ∙ sym h.takes.gives in
      subst (λ (s : Stage). ThenProcess (MayHappen (event_for h.made)) (TellsLines (told_of h.made)) d s b) between
      (subst (λ (x : A). ThenProcess (MayHappen (event_for x)) (TellsLines (told_of x)) d k.between b) one.0 k.ends)

  sole_makes : IsSole (MakesChoice name IsMadeBy event_for told_of)
  sole_makes = record { one = one; keeps = keeps; grows = grows }
    where
      one : (c d : Option Stop) (p a b : Stage) → IsKnownRoute p.route → MakesChoice name IsMadeBy event_for told_of c p a → MakesChoice name IsMadeBy event_for told_of d p b → Agree c d a b
      one c d p a b told h k =
          (sole_made h.made).one c d h.between a b (told_between h.words p h.between h.takes told) h.ends (same_choice c d p a b h k)

      keeps : (p a : Stage) → IsKnownRoute p.route → MakesChoice name IsMadeBy event_for told_of None p a → IsKnownRoute a.route
      keeps p a told h = (sole_made h.made).keeps h.between a (told_between h.words p h.between h.takes told) h.ends

      grows : (c : Option Stop) (p a : Stage) → MakesChoice name IsMadeBy event_for told_of c p a → Grows p a
      grows c p a h = grows_from h.between p a (sym (ap (λ (s : Stage). s.text) h.takes.gives)) ((sole_made h.made).grows c h.between a h.ends)

  pub sole_choice : IsSole (Chooses name IsMadeBy event_for told_of)
  sole_choice = sole_at (λ p. ThenProcess (Unless (unless_runs name p.world)) (MakesChoice name IsMadeBy event_for told_of))
      (λ p. sole_then (Unless (unless_runs name p.world)) (MakesChoice name IsMadeBy event_for told_of) (sole_unless (unless_runs name p.world)) sole_makes)
