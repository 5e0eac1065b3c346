-- What goes on for each element of a list, one after another.
use Rattle.hn_base.proofs.Names.{◌≡◌, ◌∙◌, ◌<◌, ◌≤◌, ◌+◌, ℕ, suc, List, [], ◌∷◌, ◌++◌, length, get_or, take, drop, Option, Some, None, inl, refl, sym, ap, subst, take_all, take_more, take-append-drop}
use Rattle.hn_base.proofs.Names.{drop-cons}
use Rattle.hn_play.proofs.Names.{NoMemory, Stop, Cut, Process, EachProcess, Stage, EndsAt}
use Rattle.hn_play.proofs.RunStops.{then_on}
use Rattle.hn_play.proofs.RunWrites.{goes_on, still_done}

module _ {A : Type 0} (each : A → Process) where
  -- elements that are done, and further ones
  each-append : (xs more : List A) (stop : Option Stop) (before between after : Stage) → EachProcess each xs None before between
      → EachProcess each more stop between after → EachProcess each (xs ++ more) stop before after
  each-append [] more stop before between after done rest = subst (λ (s : Stage). EachProcess each more stop s after) done rest
  each-append (x ∷ xs) more stop before between after done rest =
      then_on (each x) (EachProcess each (xs ++ more)) stop before done.0 after done.1 (each-append xs more stop done.0 between after done.2 rest)

  -- memory ended before them
  pub each_starved : ((x : A) (p : Stage) → each x (Some (Cut NoMemory)) p p) → (xs : List A) (p : Stage) → EachProcess each xs (Some (Cut NoMemory)) p p
  each_starved cut [] p = refl
  each_starved cut (x ∷ xs) p = inl (cut x p)

  module _ (xs : List A) (p b : Stage) (h j : Option (List ℕ)) where
    -- after the last
    pub each_done : (i : ℕ) → length xs ≤ i → EndsAt (EachProcess each (take i xs)) None p b h j → EndsAt (EachProcess each xs) None p b h j
    each_done i past done = subst (λ (ys : List A). EndsAt (EachProcess each ys) None p b h j) (take_all i xs past) done

    -- before the first
    pub each_begins : EndsAt (EachProcess each []) None p p h h
    each_begins = still_done (EachProcess each []) p p h refl refl

    module _ (i : ℕ) (d : A) (lt : i < length xs) (done : EndsAt (EachProcess each (take i xs)) None p b h j) (a : Stage) (k : Option (List ℕ)) where
      -- one more
      pub each_further : EndsAt (each (get_or xs i d)) None (record b { text = done.at.text }) (record a { text = done.at.text }) j k → EndsAt (EachProcess each (take (i + 1) xs)) None p a h k
      each_further = goes_on (EachProcess each (take i xs)) (each (get_or xs i d)) (EachProcess each (take (i + 1) xs)) None p b a h j k done
          (λ at ends. rw (take_more xs i d lt) (each-append (take i xs) (get_or xs i d ∷ []) None p done.at at done.ended (at, ends, refl)))

      -- one that is stopped
      pub each_stopped : (stop : Stop) → EndsAt (each (get_or xs i d)) (Some stop) (record b { text = done.at.text }) (record a { text = done.at.text }) j k
          → EndsAt (EachProcess each xs) (Some stop) p a h k
      each_stopped stop =
          let split : take i xs ++ (get_or xs i d ∷ drop (suc i) xs) ≡ xs = ap (λ ys. take i xs ++ ys) (sym (drop-cons xs i d lt)) ∙ take-append-drop i xs in
          goes_on (EachProcess each (take i xs)) (each (get_or xs i d)) (EachProcess each xs) (Some stop) p b a h j k done
          (λ at ends. subst (λ (ys : List A). EachProcess each ys (Some stop) p at) split
          (each-append (take i xs) (get_or xs i d ∷ drop (suc i) xs) (Some stop) p done.at at done.ended (inl ends)))
