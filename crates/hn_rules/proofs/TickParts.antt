-- The parts of a tick, and the words that they take.
use Rattle.hn_base.proofs.Names.{◌≡◌, ℕ, Option, ap, refl, Then}
use Rattle.hn_rules.proofs.Names.{EpId, endpoints_of, port_at, Running, ending, IsRefresh, AtPort, Ran, words_taken, IsPortExpiry, IsExpiry, forgetting, IsPortsTick, IsLosing, IsSettling, IsTick}
use Rattle.hn_rules.proofs.Names.{ran_plain, ran_both, each_words, on_some_words}
use Rattle.hn_base.proofs.RulesInTurn.{ran_after}

pub ran_losing : (told told_after : Option (ℕ → ℕ)) (before expired ended after : Running)
    → IsExpiry before expired → ended ≡ ending expired → Ran IsRefresh told told_after ended after → Ran IsLosing told told_after before after
ran_losing told told_after before expired ended after expiry ends refresh =
    let first = ran_plain words_taken IsExpiry told before expired expiry (each_words words_taken (λ at. AtPort at IsPortExpiry) (endpoints_of before.state.ports) before expired none expiry) in
    ran_both words_taken IsExpiry (Then (λ b a. a ≡ ending b) IsRefresh) told told told_after before expired after first
    (ran_after words_taken ending IsRefresh told told_after expired ended after ends refl refresh)
  where
    none : (at : EpId) (b a : Running) → AtPort at IsPortExpiry b a → a.done.words ≡ b.done.words
    none at b a = on_some_words words_taken IsPortExpiry (port_at at b.state.ports) b a (λ port b a expiry. ap (λ (r : Running). r.done.words) expiry.gives)

pub ran_tick : (told told_lost told_settled told_after : Option (ℕ → ℕ)) (before lost forgot settled after : Running)
    → Ran IsLosing told told_lost before lost → forgot ≡ forgetting lost → Ran IsSettling told_lost told_settled forgot settled
    → Ran IsPortsTick told_settled told_after settled after → Ran IsTick told told_after before after
ran_tick told told_lost told_settled told_after before lost forgot settled after losing forgets settling ticks =
    let last = ran_both words_taken IsSettling IsPortsTick told_lost told_settled told_after forgot settled after settling ticks in
    let rest = ran_after words_taken forgetting (Then IsSettling IsPortsTick) told_lost told_after lost forgot after forgets refl last in
    ran_both words_taken IsLosing (Then (λ b a. a ≡ forgetting b) (Then IsSettling IsPortsTick)) told told_lost told_after before lost after losing rest
