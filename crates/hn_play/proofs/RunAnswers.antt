-- How a process that a world answers ends within another.
use Rattle.hn_base.proofs.Names.{◌≡◌, ℕ, List, None, Some, Result, Ok, Err, sym, subst, IsErrAnd}
use Rattle.hn_play.proofs.Names.{NoMemory, WorldFault, Stop, Refused, Cut, IsStopped, EndsWith, Leaves, EndsLeaving, IsAnsweredWith, stopping, Process, Stage}
use Rattle.hn_world.specs.declared.event.WorldFault.TheVariants as fault
use Rattle.hn_play.specs.Carrying.{IsLeftAt}
use Rattle.hn_play.specs.Ended.{stop_of, IsAnsweredLeaving}
use Rattle.hn_play.proofs.RunStops.{starved, stopped_last}

-- where memory ended nothing is said
pub no_memory : {A : Type 0} (done : A → Stage → Stage → Type 0) (process : Process) (r : Result A WorldFault) (p a : Stage)
    → IsErrAnd r (λ e. e ≡ fault.NoMemory) → IsAnsweredWith done process r p a
no_memory done process (Ok x) p a is = absurd is
no_memory done process (Err e) p a is = subst (λ (w : WorldFault). IsAnsweredWith done process (Err w) p a) (sym is) tt

module _ (inner outer : Process) (p b a : Stage) (refused : (code : ℕ) → inner (Some (Refused code)) b a → outer (Some (Refused code)) p a) where
  -- where an inner process is answered with an error, so is the outer
  answered_error : {A B : Type 0} (done : A → Stage → Stage → Type 0) (done' : B → Stage → Stage → Type 0) (why : WorldFault)
      → IsAnsweredWith done inner (Err why) b a → IsAnsweredWith done' outer (Err why) p a
  answered_error done done' (fault.Refused code) is = refused code is
  answered_error done done' fault.NoMemory is = tt

  -- and so where an answer is handed on
  pub answered_as : {A : Type 0} (done done' : A → Stage → Stage → Type 0) (r : Result A WorldFault) → ((x : A) → done x b a → done' x p a)
      → IsAnsweredWith done inner r b a → IsAnsweredWith done' outer r p a
  answered_as done done' (Ok x) so is = so x is
  answered_as done done' (Err why) so is = answered_error done done' why is

  pub answer_on : {A B : Type 0} (done : A → Stage → Stage → Type 0) (done' : B → Stage → Stage → Type 0) (why : WorldFault) (r : Result B WorldFault)
      → IsErrAnd r (λ e. e ≡ why) → IsAnsweredWith done inner (Err why) b a → IsAnsweredWith done' outer r p a
  answer_on done done' why (Ok x) handed is = absurd handed
  answer_on done done' why (Err e) handed is =
      subst (λ (w : WorldFault). IsAnsweredWith done' outer (Err w) p a) (sym handed) (answered_error done done' why is)

  -- and the outer may be cut where it begins
  stopped_by : {A : Type 0} (done : A → Stage → Stage → Type 0) (why : WorldFault) → a.text ≡ p.text → outer (Some (Cut NoMemory)) p p → IsLeftAt p a.route
      → IsAnsweredWith done inner (Err why) b a → IsStopped outer (stop_of why) p a
  stopped_by done (fault.Refused code) told cut wire is = stopped_last outer (Refused code) p a (refused code is) told (λ e. absurd cc)
  stopped_by done fault.NoMemory told cut wire is = starved outer p a cut wire

  -- an answer of a world, as that of a play
  pub ends_so : {A : Type 0} (done : A → Stage → Stage → Type 0) (done' : A → Process) (answer : Result A WorldFault) (r : Result A Stop) → r ≡ stopping answer
      → a.text ≡ p.text → outer (Some (Cut NoMemory)) p p → IsLeftAt p a.route → ((x : A) → done x b a → done' x None p a)
      → IsAnsweredWith done inner answer b a → EndsWith done' outer r p a
  ends_so done done' (Ok x) r same told cut wire so is = subst (λ (s : Result _ Stop). EndsWith done' outer s p a) (sym same) (so x is)
  ends_so done done' (Err why) r same told cut wire so is = subst (λ (s : Result _ Stop). EndsWith done' outer s p a) (sym same) (stopped_by done why told cut wire is)

  pub leaves_so : (answer : Result (List (List ℕ)) WorldFault) (r : Result (List (List ℕ)) Stop) → r ≡ stopping answer → a.text ≡ p.text
      → outer (Some (Cut NoMemory)) p p → IsLeftAt p a.route → ((lines : List (List ℕ)) → Leaves inner lines b a → Leaves outer lines p a)
      → IsAnsweredLeaving inner answer b a → EndsLeaving outer r p a
  leaves_so (Ok lines) r same told cut wire so is = subst (λ (s : Result (List (List ℕ)) Stop). EndsLeaving outer s p a) (sym same) (so lines is)
  leaves_so (Err why) r same told cut wire so is =
      subst (λ (s : Result (List (List ℕ)) Stop). EndsLeaving outer s p a) (sym same) (stopped_by (Leaves inner) why told cut wire is)
