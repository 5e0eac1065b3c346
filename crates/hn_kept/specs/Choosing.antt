-- Which words a router takes for an event where prefixes are preferred.
use Rattle.std.specs.Prelude.{◌≡◌, ℕ, ◌⊎◌, true, List, [], ◌∷◌, ◌++◌, length, take, slice_index, EachIndex, Contains}
use Rattle.std.specs.declared.cmp.Ordering.TheVariants.{Less}
use Rattle.std.specs.List.{filter}
use Rattle.std.specs.Ordering.{is_lt, is_le}
use Rattle.rand_chacha.specs.ChaCha.{ChaCha}
use Rattle.hn_base.specs.Words.{Begins}
use Rattle.hn_pair.specs.declared.assigned.Assigned.{Assigned}
use Rattle.hn_pair.specs.declared.pair.Pair.{Pair}
use Rattle.hn_pair.specs.Pair.{assigned_pair, pair_cmp}
use Rattle.hn_rules.specs.declared.state.State.{State}
use Rattle.hn_rules.specs.declared.done.Done.{Done}
use Rattle.hn_router.specs.Act.{PlainEvent, plain_event, Happened}
use Rattle.hn_kept.specs.declared.choosing.Asked.{Asked}
use Rattle.hn_kept.specs.declared.preferred.Preferred.{Preferred}
use Rattle.hn_kept.specs.Preferred.{preferred_pair, word_of, is_kept, is_missed}
use Rattle.hn_kept.specs.Words.{chacha_word, listed_word, AreDrawn}

-- an event of a router at a moment, the generator of its next words, and what is preferred
pub record PlainAsked : Type 0 where
  pub moment : ℕ
  pub event : PlainEvent
  pub router : State
  pub words : ChaCha
  pub preferred : List Preferred

abbrev pub plain_asked : Asked → PlainAsked
plain_asked a = record { moment = a.moment; event = plain_event a.event.now; router = a.router.now; words = a.words.now; preferred = a.preferred.now }

-- over a stream the event takes these words, and leaves this of the router
pub record EventComesTo (ask : PlainAsked) (stream : ℕ → ℕ) (words : List ℕ) (next : State) : Type 0 where
  pub done : Done
  pub happened : Happened ask.moment ask.event ask.router next done
  pub words_are : done.words ≡ words
  pub begins : Begins words stream

-- it leaves this over listed words, and the generator's own behind them
pub record LeavesOver (ask : PlainAsked) (listed : List ℕ) (next : State) : Type 0 where
  pub words : List ℕ
  pub comes : EventComesTo ask (listed_word listed ask.words) words next

-- with a word behind some words, and the generator's own behind it, the event takes these words, and leaves this of the router
abbrev pub ComesWith : PlainAsked → List ℕ → ℕ → List ℕ → State → Type 0
ComesWith ask front word words next = EventComesTo ask (listed_word (front ++ word ∷ []) ask.words) words next

-- the assignments of the pairs that come before a pair, in the order of pairs, and those with its own
abbrev pub earlier_ones : Pair → List Assigned → List Assigned
earlier_ones pair assigned = filter (λ c. is_lt (pair_cmp (assigned_pair c) pair)) assigned

abbrev pub first_ones : Pair → List Assigned → List Assigned
first_ones pair assigned = filter (λ c. is_le (pair_cmp (assigned_pair c) pair)) assigned

-- Behind some words, the word of the place of a preferred prefix helps its pair. With the generator's own words there, the router
-- would publish another prefix for the pair from this moment on. With this word there, the pair has the preferred one, and each
-- pair that comes before it has the same assignment.
pub record Helps (ask : PlainAsked) (front : List ℕ) (f : Preferred) : Type 0 where
  pub own : State
  pub is_own : LeavesOver ask front own
  pub missed : is_missed ask.moment own.held.assigned f ≡ true
  pub other : State
  pub is_other : LeavesOver ask (front ++ word_of f ∷ []) other
  pub kept : is_kept other.held.assigned f ≡ true
  pub earlier : earlier_ones (preferred_pair f) other.held.assigned ≡ earlier_ones (preferred_pair f) own.held.assigned

-- The word behind some words is taken by a pair: with some other word there, this is the first pair that has another assignment.
pub record IsTaker (ask : PlainAsked) (front : List ℕ) (pair : Pair) : Type 0 where
  pub own : State
  pub is_own : LeavesOver ask front own
  pub word : ℕ
  pub other : State
  pub is_other : LeavesOver ask (front ++ word ∷ []) other
  pub earlier : earlier_ones pair other.held.assigned ≡ earlier_ones pair own.held.assigned
  pub changed : ¬ (first_ones pair other.held.assigned ≡ first_ones pair own.held.assigned)

-- A preferred prefix may be passed over: the word of its place does not help its pair, or another pair takes the word.
abbrev pub MayBePassed : PlainAsked → List ℕ → Preferred → Type 0
MayBePassed ask front f = Helps ask front f → (pair : Pair) × IsTaker ask front pair × ¬ (pair ≡ preferred_pair f)

-- the word of the place of a preferred prefix helps its pair, and those of all earlier pairs may be passed over
pub record IsFirstHelped (ask : PlainAsked) (front : List ℕ) (f : Preferred) : Type 0 where
  pub preferred : Contains ask.preferred f
  pub helped : Helps ask front f
  pub first : (g : Preferred) → Contains ask.preferred g → pair_cmp (preferred_pair g) (preferred_pair f) ≡ Less → MayBePassed ask front g

-- The word behind some others is the first one that helps so; or the generator's own, where all may be passed over.
abbrev pub IsBestWord : PlainAsked → List ℕ → ℕ → Type 0
IsBestWord ask front word =
    ((f : Preferred) × IsFirstHelped ask front f × (word ≡ word_of f))
    ⊎ (((f : Preferred) → Contains ask.preferred f → MayBePassed ask front f) × (word ≡ chacha_word ask.words (length front)))

-- each word is so behind those before it
abbrev pub AreBest : PlainAsked → List ℕ → Type 0
AreBest ask words = EachIndex words (λ place. IsBestWord ask (take place words) (slice_index words place))

-- the words that are chosen
pub record AreChosen (ask : PlainAsked) (words : List ℕ) : Type 0 where
  pub next : State
  pub comes : EventComesTo ask (listed_word words ask.words) words next
  pub drawn : AreDrawn ask.preferred ask.words words
  pub best : AreBest ask words
