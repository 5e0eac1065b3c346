-- A router that chooses for itself: how the two words for it end.
use Rattle.hn_base.proofs.Names.{◌≡◌, ◌∙◌, ℕ, List, Option, None, Some, inl, refl, ap, subst, name_text, Took}
use Rattle.hn_lab.proofs.Names.{Name, State, WEvent, Member, member_named, unless_runs, Stop, Refused, TakesWords, MayHappen, MakesChoice, Chooses, Leaves, Unless, ThenProcess, Stage}
use Rattle.hn_lab.proofs.Names.{TellsLines}
use Rattle.hn_play.proofs.RunStops.{then_on}
use Rattle.hn_play.proofs.FirstWords.{taken}

takes : (words : List ℕ) (p q : Stage) → Took (Some p.words) words (Some q.words) → q ≡ record p { words = q.words } → TakesWords words p q
takes words p q took same =
    let both = taken words p.words q.words took in
    record { begins = both.0; gives = same ∙ ap (λ (ws : ℕ → ℕ). record p { words = ws }) both.1 }

module _ {A : Type 0} (name : Name) (IsMadeBy : State → A → List ℕ → Type 0) (event_for : A → Option WEvent) (told_of : A → List (List ℕ)) where
  -- A running router chose, by these words. The rest is up to what it chose.
  pub record HasChosen (made : A) (p q : Stage) : Type 0 where
    pub runs : unless_runs name p.world ≡ None
    pub member : Member
    pub is_member : member_named (name_text name) p.world ≡ Some member
    pub words : List ℕ
    pub is_made : IsMadeBy member.router made words
    pub takes_words : TakesWords words p q

  pub has_chosen : (made : A) (router : State) (p q : Stage) → unless_runs name p.world ≡ None
      → (m : Member) × (member_named (name_text name) p.world ≡ Some m) × (router ≡ m.router)
      → (words : List ℕ) × IsMadeBy router made words × Took (Some p.words) words (Some q.words) → q ≡ record p { words = q.words } → HasChosen made p q
  has_chosen made router p q runs (m, is_member, router_is) (words, is_made, took) same = record {
    runs = runs;
    member = m;
    is_member = is_member;
    words = words;
    is_made = subst (λ (s : State). IsMadeBy s made words) router_is is_made;
    takes_words = takes words p q took same;
  }

  choice_ends : (made : A) (stop : Option Stop) (p q a : Stage) → HasChosen made p q
      → ThenProcess (MayHappen (event_for made)) (TellsLines (told_of made)) stop q a → Chooses name IsMadeBy event_for told_of stop p a
  choice_ends made stop p q a chosen ends =
      then_on (Unless (unless_runs name p.world)) (MakesChoice name IsMadeBy event_for told_of) stop p p a (chosen.runs, refl) (record {
        member = chosen.member;
        is_member = chosen.is_member;
        made = made;
        words = chosen.words;
        is_made = chosen.is_made;
        between = q;
        takes = chosen.takes_words;
        ends = ends;
      })

  -- what it chose is refused
  pub choice_refused : (made : A) (p q a : Stage) → HasChosen made p q → (code : ℕ) → MayHappen (event_for made) (Some (Refused code)) q a
      → Chooses name IsMadeBy event_for told_of (Some (Refused code)) p a
  choice_refused made p q a chosen code refused = choice_ends made (Some (Refused code)) p q a chosen (inl refused)

  -- what it chose happened, and lines are left to tell
  pub choice_left : (made : A) (lines : List (List ℕ)) (p q a : Stage) → HasChosen made p q → MayHappen (event_for made) None q a
      → lines ≡ told_of made → Leaves (Chooses name IsMadeBy event_for told_of) lines p a
  choice_left made lines p q a chosen happened are stop end tells =
      choice_ends made stop p q end chosen
      (then_on (MayHappen (event_for made)) (TellsLines (told_of made)) stop q a end happened (subst (λ (ls : List (List ℕ)). TellsLines ls stop a end) are tells))
