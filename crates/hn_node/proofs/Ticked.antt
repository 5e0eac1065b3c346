-- A turn has one tick.
use Rattle.hn_base.proofs.Names.{◌≡◌, ◌∙◌, ◌+◌, inl, inr, ℕ, zero, suc, Bool, true, false, cond, List, [], ◌∷◌, ◌++◌, Option, None, Some, ap, arith, count_by, sum_by-append}
use Rattle.hn_node.proofs.Names.{Datagram, Logged, NodeEvent, PlainSite, Serving, TakesTurn, Arrives, IsLoggedTurn, AreTurns, is_tick}
use Rattle.hn_node.specs.Turns.{is_tick_event}

count_both : (xs ys : List Logged) → count_by is_tick (xs ++ ys) ≡ count_by is_tick xs + count_by is_tick ys
count_both xs ys = sum_by-append (λ (l : Logged). cond (is_tick l) 1 0) xs ys

count_one : (l : Logged) (b : Bool) → is_tick l ≡ b → count_by is_tick (l ∷ []) ≡ 0 + cond b 1 0
count_one l b is = ap (λ (c : Bool). 0 + cond c 1 0) is

-- what is taken is no tick
taken_is_no_tick : (at : PlainSite) (event : NodeEvent) (before after : Option (List Datagram)) → TakesTurn at (Some event) before after → is_tick_event event ≡ false
taken_is_no_tick at event before after (inl h) = ap is_tick_event h.1
taken_is_no_tick at event before after (inr h) = ap is_tick_event h.1

first_is_no_tick : (at : PlainSite) (now : ℕ) (taken : Option NodeEvent) (waiting left : Option (List Datagram)) (first : List Logged) (before after : Serving)
    → TakesTurn at taken waiting left → Arrives at now taken first before after → count_by is_tick first ≡ 0
first_is_no_tick at now None waiting left first before after takes h = ap (count_by is_tick) h.0
first_is_no_tick at now (Some event) waiting left first before after takes h =
    ap (count_by is_tick) h.2 ∙ count_one h.0 false (ap is_tick_event h.1.entry.event_is ∙ taken_is_no_tick at event waiting left takes)

turn_ticks : (at : PlainSite) (now : ℕ) (entries : List Logged) (before after : Serving) → IsLoggedTurn at now entries before after → count_by is_tick entries ≡ 1
turn_ticks at now entries before after h =
    let none = first_is_no_tick at now h.taken before.waiting h.begun.waiting h.first h.begun h.between h.begins.takes h.arrives in
    let one = count_one h.tick true (ap is_tick_event h.ticks.entry.event_is) in
    let both = count_both h.first (h.tick ∷ []) in
    ap (count_by is_tick) h.entries_are ∙ omega (arith, none, one, both)

pub turns_tick : (at : PlainSite) (n : ℕ) (log : List Logged) (before after : Serving) (readings rest : Option (List ℕ)) → AreTurns at n log before after readings rest → count_by is_tick log ≡ n
turns_tick at zero log before after readings rest h = ap (count_by is_tick) h.0
turns_tick at (suc n) log before after readings rest h =
    let past = turns_tick at n h.1 before h.0 readings h.4 h.5 in
    let one = turn_ticks at h.3 h.2 h.0 after h.7 in
    let both = count_both h.1 h.2 in
    ap (count_by is_tick) h.8 ∙ omega (arith, past, one, both)
