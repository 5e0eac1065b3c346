-- What holds of each assignment through the subroutine.
use Rattle.hn_base.proofs.Names.{◌≡◌, ◌∙◌, ◌⊎◌, ℕ, ◌-◌, Bool, true, false, cond, leb, arith, List, [], ◌∷◌, Contains, map, Option, None, Some, IfSome, refl, sym, ap, subst, inl, inr, ⊎_elim, All}
use Rattle.hn_base.proofs.Names.{All-contains, Contains-get_or, same_Some, none-some, PlainPrefix, IsPrefix, IsWithin, HasAt}
use Rattle.hn_assign.proofs.Names.{PlainItem, assigned_prefix_of, HasAssigned, PlainView, AssignedPrefix, EpId, Contains-cases, Contains-from_map, Contains-head, Contains-tail, nothing_in, Advertised}
use Rattle.hn_assign.proofs.Names.{Assigned, Wish, Held, Ran, Slot, IsAdvertised, AreAdvertised, IfValid, IsLine, IsPairTurn, marked_applied, assigned_pair, wish_pair, PlainScene, IsBestFor}
use Rattle.hn_assign.proofs.Names.{IsFreeFor, new_assigned, scene_of, IsPairStep, AreSteps, IsSubroutine}
use Rattle.hn_tlv.specs.Grammar.{PlainTlv}
use Rattle.hn_typed.specs.Item.{Assigned as AssignedItem}
use Rattle.hn_typed.specs.Table.{InRange}
use Rattle.hn_data.specs.Items.{IsReading}
use Rattle.hn_base.proofs.Elements.{from_filter_map}
use Rattle.hn_pair.specs.Facts.{IsInDelegated, IsAssignedPast, HasOwnPriority, IsOfLengthAt, IsAloneAt}
use Rattle.hn_assign.proofs.AtPair.{pair_cases, is_had}

-- of each element
abbrev pub Each : {A : Type 0} → (A → Type 0) → List A → Type 0
Each {A} P xs = (x : A) → Contains xs x → P x

pub each_all : {A : Type 0} (P : A → Type 0) (xs : List A) → Each P xs → All P xs
each_all P xs each k d within = each _ (Contains-get_or xs k d within)

pub all_each : {A : Type 0} (P : A → Type 0) (xs : List A) → All P xs → Each P xs
all_each P xs all x h = All-contains P xs x all h

-- a prefix that a turn gives: the best one, unpublished, or a free one, published with priority 2
abbrev pub IsGiven : PlainScene → PlainPrefix → Option ℕ → Type 0
IsGiven at prefix published =
    ((best : Advertised) × IsBestFor at (Some best) × (prefix ≡ best.prefix) × (published ≡ None))
    ⊎ (IsFreeFor at prefix × (published ≡ Some 2))

given_inside : (at : PlainScene) (prefix : PlainPrefix) (published : Option ℕ) → IsGiven at prefix published → IsWithin prefix at.wish.delegated
given_inside at prefix published (inl (best, is, same, none)) = subst (λ (p : PlainPrefix). IsWithin p at.wish.delegated) (sym same) is.candidate.inside
given_inside at prefix published (inr (free, two)) = free.inside.within

-- a fact that the rules keep: it holds of what they make beside assignments of which it holds, and stays when an assignment is published, or no longer, or marked
pub record IsStable (view : PlainView) (wishes : List Wish) (P : Assigned → Type 0) : Type 0 where
  pub made : (wish : Wish) (adv : List Advertised) (prefix : PlainPrefix) (published : Option ℕ) (others : List Assigned)
      → Contains wishes wish → Each P others → AreAdvertised view others adv → IsGiven (scene_of view wish adv) prefix published
      → P (new_assigned (scene_of view wish adv) prefix published)
  pub unpublished : (c : Assigned) → P c → P (record c { published = None })
  pub published : (c : Assigned) → P c → P (record c { published = Some 2 })
  pub applied : (c : Assigned) → P c → P (record c { applied = true })

module _ (view : PlainView) (wishes : List Wish) (P : Assigned → Type 0) (stable : IsStable view wishes P) where
  -- by which an assignment is kept or destroyed
  valid_keeps : (at : PlainScene) (c : Assigned) (valid before after : Slot) → IfValid at c valid before after → IfSome valid.assigned P → IfSome after.assigned P
  valid_keeps at c valid before after (inl h) holds = subst (λ (s : Slot). IfSome s.assigned P) (sym h.1) holds
  valid_keeps at c valid before after (inr h) holds = subst (λ (s : Slot). IfSome s.assigned P) (sym h.1) tt

  module _ (wish : Wish) (adv : List Advertised) (others : List Assigned) (wished : Contains wishes wish) (each : Each P others) (are : AreAdvertised view others adv) where
    abbrev at : PlainScene
    at = scene_of view wish adv

    line_keeps : (best : Option Advertised) (c : Option Assigned) (before after : Slot) (words : List ℕ)
        → IsBestFor at best → IsLine at best c before words after → before.assigned ≡ c → IfSome c P → IfSome after.assigned P
    line_keeps None None before after words best (inl left) is holds = subst (λ (o : Option Assigned). IfSome o P) (sym (ap (λ (s : Slot). s.assigned) left.gives ∙ is)) tt
    line_keeps None None before after words best (inr (inl postponed)) is holds = subst (λ (o : Option Assigned). IfSome o P) (sym (ap (λ (s : Slot). s.assigned) postponed.gives ∙ is)) tt
    line_keeps None None before after words best (inr (inr (inl waiting))) is holds = subst (λ (o : Option Assigned). IfSome o P) (sym (ap (λ (s : Slot). s.assigned) waiting.gives ∙ is)) tt
    line_keeps None None before after words best (inr (inr (inr made))) is holds =
        subst (λ (s : Slot). IfSome s.assigned P) (sym made.gives) (stable.made wish adv made.prefix (Some 2) others wished each are (inr (made.free, refl)))
    line_keeps (Some b) None before after words best line is holds =
        subst (λ (s : Slot). IfSome s.assigned P) (sym line.0.gives) (stable.made wish adv b.prefix None others wished each are (inl (b, best, refl, refl)))
    line_keeps None (Some c) before after words best (inl kept, _) is holds = valid_keeps at c before before after kept.gives (subst (λ (o : Option Assigned). IfSome o P) (sym is) holds)
    line_keeps None (Some c) before after words best (inr adopted, _) is holds = valid_keeps at c
        (record before { assigned = Some (record c { published = Some 2 }) }) before after adopted.gives (stable.published c holds)
    line_keeps (Some b) (Some c) before after words best (inl ahead, _) is holds = valid_keeps at c before before after ahead.gives (subst (λ (o : Option Assigned). IfSome o P) (sym is) holds)
    line_keeps (Some b) (Some c) before after words best (inr (inl yielded), _) is holds = subst (λ (s : Slot). IfSome s.assigned P) (sym yielded.gives) (stable.unpublished c holds)
    line_keeps (Some b) (Some c) before after words best (inr (inr replaced), _) is holds = subst (λ (s : Slot). IfSome s.assigned P) (sym replaced.gives)
        (stable.made wish adv b.prefix None others wished each are (inl (b, best, refl, refl)))

    turn_keeps : (before after : Slot) (words : List ℕ) → IsPairTurn at before words after → IfSome before.assigned P → IfSome after.assigned P
    turn_keeps before after words turn holds = line_keeps turn.best before.assigned before after words turn.is_best turn.line refl holds

  had_holds : (wish : Wish) (xs : List Assigned) (has : Option Assigned) → HasAt assigned_pair (wish_pair wish) has xs → Each P xs → IfSome has P
  had_holds wish xs None has each = tt
  had_holds wish xs (Some c) has each = each c has.0

  some_holds : (o : Option Assigned) (c : Assigned) → o ≡ Some c → IfSome o P → P c
  some_holds None c is holds = absurd (cc)
  some_holds (Some d) c is holds = let same : d ≡ c = cc in subst P same holds

  step_keeps : (wish : Wish) (words : List ℕ) (before after : Ran) → Contains wishes wish → IsPairStep view wish words before after → Each P before.held.assigned → Each P after.held.assigned
  step_keeps wish words before after wished step each c h =
      let had = had_holds wish before.held.assigned step.old.assigned step.had.assigned each in
      let new : IfSome step.new.assigned P =
      turn_keeps wish step.advertised before.held.assigned wished each step.are_advertised step.old step.new words step.turn had in
      ⊎_elim
      (λ (here : assigned_pair c ≡ wish_pair wish). some_holds step.new.assigned c
      (is_had assigned_pair (wish_pair wish) after.held.assigned step.new.assigned c step.assigned.ascending step.assigned.here h here) new)
      (λ (other : ¬ (assigned_pair c ≡ wish_pair wish)). each c ((step.assigned.others c other).0 h))
      (pair_cases (assigned_pair c) (wish_pair wish))

  steps_keep : (some : List Wish) (before after : Ran)
      → ((wish : Wish) → Contains some wish → Contains wishes wish) → AreSteps view some before after → Each P before.held.assigned → Each P after.held.assigned
  steps_keep [] before after wished is each = subst (λ (r : Ran). Each P r.held.assigned) (sym is) each
  steps_keep (wish ∷ some) before after wished steps each =
      steps_keep some steps.0 after (λ w h. wished w (Contains-tail wish some w h)) steps.3
      (step_keeps wish steps.1 before steps.0 (wished wish (Contains-head wish some)) steps.2 each)

  marks_keep : (moment : ℕ) (xs : List Assigned) → Each P xs → Each P (map (marked_applied moment) xs)
  marks_keep moment xs each c h =
      let was = Contains-from_map (marked_applied moment) xs c h in
      subst P was.2 (by_test (leb 10000 (moment - was.0.since)) was.0 (each was.0 was.1))
    where
      by_test : (b : Bool) (c : Assigned) → P c → P (cond b (record c { applied = true }) c)
      by_test true c holds = stable.applied c holds
      by_test false c holds = holds

  pub subroutine_keeps : (held : Held) (ran : Ran) → IsSubroutine view wishes held ran → All P held.assigned → All P ran.held.assigned
  subroutine_keeps held ran run all =
      let begun : Each P run.begun.held.assigned = λ c h. all_each P held.assigned all c ((run.is_begun.assigned.those c).0 h).0 in
      let last = steps_keep wishes run.begun run.last (λ w h. h) run.steps begun in
      subst (λ (r : Ran). All P r.held.assigned) (sym run.marks) (each_all P (map (marked_applied view.now) run.last.held.assigned) (marks_keep view.now run.last.held.assigned last))

-- ---- the facts

pub inside_stable : (view : PlainView) (wishes : List Wish) → IsStable view wishes IsInDelegated
inside_stable view wishes = record {
  made = λ wish adv prefix published others wished each are given. given_inside (scene_of view wish adv) prefix published given;
  unpublished = λ c h. h;
  published = λ c h. h;
  applied = λ c h. h;
}

pub past_stable : (view : PlainView) (wishes : List Wish) → IsStable view wishes (IsAssignedPast view.now)
past_stable view wishes = record {
  made = λ wish adv prefix published others wished each are given. omega arith;
  unpublished = λ c h. h;
  published = λ c h. h;
  applied = λ c h. h;
}

pub priority_stable : (view : PlainView) (wishes : List Wish) → IsStable view wishes HasOwnPriority
priority_stable view wishes = record {
  made = λ wish adv prefix published others wished each are given p is.
      elim given [ inl (best, is_best, same, none) ↦ absurd (none-some p (sym none ∙ is)) | inr (free, two) ↦ same_Some p 2 (sym is ∙ two) ];
  unpublished = λ c h p is. absurd (cc);
  published = λ c h p is. cc;
  applied = λ c h. h;
}

-- where the own node is alone on the Common Link there is no best prefix, and a free one is of the length of the wish
pub length_stable : (view : PlainView) (wishes : List Wish) (e : EpId) (length : ℕ)
    → ((wish : Wish) → Contains wishes wish → IsAloneAt view.own e length wish) → IsStable view wishes (IsOfLengthAt e length)
length_stable view wishes e length alone = record {
  made = λ wish adv prefix published others wished each are given here.
      let of_wish = alone wish wished here in
      elim given [
        | inl (best, is, same, none) ↦ absurd (is.candidate.of_another (of_wish.1 (best.key.node, best.key.endpoint) is.candidate.on_link))
        | inr (free, two) ↦ free.inside.of_len ∙ of_wish.0
      ];
  unpublished = λ c h. h;
  published = λ c h. h;
  applied = λ c h. h;
}

-- ---- prefixes are prefixes

-- what is read of TLVs has numbers that fit
read_fits : (tlvs : List PlainTlv) (items : List PlainItem) (i : PlainItem) → IsReading tlvs items → Contains items i → InRange i
read_fits [] items i is there = absurd (nothing_in i (subst (λ (xs : List PlainItem). Contains xs i) is there))
read_fits (tlv ∷ tlvs) items i (inl (first, rest, is, same, read)) there =
    ⊎_elim (λ (here : first ≡ i). subst InRange here is.in_range) (λ (later : Contains rest i). read_fits tlvs rest i read later)
    (Contains-cases first rest i (subst (λ (xs : List PlainItem). Contains xs i) same there))
read_fits (tlv ∷ tlvs) items i (inr (none, read)) there = read_fits tlvs items i read there

item_prefix : (i : PlainItem) (a : AssignedPrefix) → InRange i → assigned_prefix_of i ≡ Some a → IsPrefix a.prefix
item_prefix (AssignedItem endpoint priority prefix subs) a fits is =
    let said : AssignedPrefix = record { endpoint = record { 0 = endpoint }; priority = priority; prefix = prefix } in
    subst (λ (x : AssignedPrefix). IsPrefix x.prefix) (same_Some said a is) fits.1.1
item_prefix _ a fits is = absurd (none-some a is)

-- so is the prefix of each Assigned-Prefix
said_prefix : (bytes : List ℕ) (a : AssignedPrefix) → HasAssigned bytes a → IsPrefix a.prefix
said_prefix bytes a (items, are, there) =
    let from = from_filter_map assigned_prefix_of items a there in
    item_prefix from.0 a (read_fits are.tlvs items from.0 are.read from.1) from.2

-- and what is advertised, where the assignments are of prefixes
advertised_prefix : (view : PlainView) (others : List Assigned) (a : Advertised) → Each (λ c. IsPrefix c.prefix) others → IsAdvertised view others a → IsPrefix a.prefix
advertised_prefix view others a each (inl (entry, there, of_other)) =
    said_prefix entry.body (record { endpoint = a.key.endpoint; priority = a.key.priority; prefix = a.prefix }) of_other.says.assigned
advertised_prefix view others a each (inr (c, there, own)) = subst IsPrefix (sym (ap (λ (x : Advertised). x.prefix) own.is)) (each c there)

pub prefix_stable : (view : PlainView) (wishes : List Wish) → IsStable view wishes (λ c. IsPrefix c.prefix)
prefix_stable view wishes = record {
  made = λ wish adv prefix published others wished each are given.
      elim given [
        | inl (best, is, same, none) ↦ subst IsPrefix (sym same) (advertised_prefix view others best each ((are best).0 is.candidate.advertised))
        | inr (free, two) ↦ free.inside.prefix
      ];
  unpublished = λ c h. h;
  published = λ c h. h;
  applied = λ c h. h;
}
