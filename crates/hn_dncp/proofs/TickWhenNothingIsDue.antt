-- A tick does nothing at an endpoint where nothing is due, and at no other.
use Rattle.hn_base.proofs.Names.{◌≡◌, ◌∙◌, ℕ, ◌+◌, ◌-◌, ◌⊎◌, Bool, true, false, not, cond, [], slice_index, inl, inr, refl, sym, ap, arith, nat_le, ◌==◌, leb-false, lt-leb}
use Rattle.hn_dncp.proofs.Names.{silence_end}
use Rattle.std.proofs.Common.{◌&&◌, ◌||◌}
use Rattle.hn_timers.specs.Interval.{Interval, interval_from, has_to_send, fired, is_interval_over}
use Rattle.hn_timers.specs.Length.{next_length}
use Rattle.hn_timers.specs.KeepAlive.{is_keep_alive_due}
use Rattle.hn_timers.specs.Laws.{UndueIntervalStays}
use Rattle.hn_dncp.specs.Due.{IsPortUndue, IsIdleAt}
use Rattle.hn_dncp.specs.Tick.{after_firing, after_interval, after_keep_alive, interval_words, has_keep_alive, ticked}
use Rattle.hn_dncp.specs.Laws.{UnduePortIsIdle, UnduePortStays}
use Rattle.hn_dncp.specs.declared.port.Port.{Port}

-- ---- tests

none_or : (a b : Bool) → a || b ≡ false → (a ≡ false) × (b ≡ false)
none_or true b h = absurd cc
none_or false b h = (refl, h)

no_word : (b : Bool) (n : ℕ) → cond b 1 0 + n ≡ 0 → b ≡ false
no_word true n h = absurd (omega (arith, h))
no_word false n h = refl

stays_done : (d f : Bool) → (d ≡ true) ⊎ (f ≡ false) → d || f ≡ d
stays_done true f h = refl
stays_done false f (inl h) = absurd cc
stays_done false f (inr h) = h

done_or_not_yet : (d f : Bool) → d || f ≡ d → (d ≡ true) ⊎ (f ≡ false)
done_or_not_yet true f h = inl refl
done_or_not_yet false f h = inr h

module _ (now : ℕ) (p : Port) where
  abbrev i : Interval
  i = p.trickle

  -- ---- the parts of a tick, where nothing is due

  not_sent : (d f z : Bool) → (d ≡ true) ⊎ (f ≡ false) → not d && f && z ≡ false
  not_sent true f z h = refl
  not_sent false f z (inl h) = absurd cc
  not_sent false true z (inr h) = absurd cc
  not_sent false false z (inr h) = refl

  firing_same : i.done || nat_le i.fire now ≡ i.done → has_to_send now i ≡ false → after_firing now p ≡ p
  firing_same done sends =
      ap (λ (b : Bool). let q : Port = record p { trickle = record i { done = b }; sent = cond (has_to_send now i) now p.sent } in q) done
      ∙ ap (λ (b : Bool). let q : Port = record p { sent = cond b now p.sent } in q) sends

  interval_same : (word : ℕ) → is_interval_over now i ≡ false → after_interval now word p ≡ p
  interval_same word ended = ap (λ (b : Bool). let q : Port = record p { trickle = cond b (interval_from now (next_length i.len) word) i } in q) ended

  keep_alive_same : (word : ℕ) → is_keep_alive_due p.sent now ≡ false → after_keep_alive now word p ≡ p
  keep_alive_same word no_keep_alive =
      ap (λ (b : Bool). let q : Port = record p { trickle = cond b (interval_from now i.len word) i; sent = cond b now p.sent } in q) no_keep_alive

  pub idle : IsPortUndue now p → IsIdleAt now p
  idle still =
      let waits : (i.done ≡ true) ⊎ (nat_le i.fire now ≡ false) = elim still.interval.waits [ inl done ↦ inl done | inr before ↦ inr (lt-leb i.fire now before) ] in
      let sends : has_to_send now i ≡ false = not_sent i.done (nat_le i.fire now) (i.heard == 0) waits in
      let firing = firing_same (stays_done i.done (nat_le i.fire now) waits) sends in
      let ended : is_interval_over now i ≡ false = lt-leb (i.begin + i.len) now still.interval.lasts in
      let no_keep_alive : is_keep_alive_due p.sent now ≡ false = (let recent = still.recent in lt-leb 20000 (now - p.sent) (omega (arith, recent))) in
      let keep : has_keep_alive now p ≡ false = ap (λ (q : Port). is_keep_alive_due q.sent now) firing ∙ no_keep_alive in
      record {
        untaken = ap (λ (b : Bool). cond b 1 0 + cond (has_keep_alive now p) 1 0) ended ∙ ap (λ (b : Bool). 0 + cond b 1 0) keep;
        unsent = ap (λ (b : Bool). b || has_keep_alive now p) sends ∙ keep;
        same = ap (λ (q : Port). after_keep_alive now (slice_index [] (interval_words now p)) (after_interval now (slice_index [] 0) q)) firing
            ∙ ap (λ (q : Port). after_keep_alive now (slice_index [] (interval_words now p)) q) (interval_same (slice_index [] 0) ended)
            ∙ keep_alive_same (slice_index [] (interval_words now p)) no_keep_alive;
      }

  pub still : IsIdleAt now p → IsPortUndue now p
  still is =
      let none = none_or (has_to_send now i) (has_keep_alive now p) is.unsent in
      let ended : is_interval_over now i ≡ false = no_word (is_interval_over now i) (cond (has_keep_alive now p) 1 0) is.untaken in
      let no_keep_alive : is_keep_alive_due p.sent now ≡ false = sym (ap (λ (b : Bool). is_keep_alive_due (cond b now p.sent) now) none.0) ∙ none.1 in
      let next : Port = after_interval now (slice_index [] 0) (after_firing now p) in
      let before : (ticked now [] p).trickle.done ≡ next.trickle.done =
      ap (λ (b : Bool). (let t : Interval = cond b (interval_from now next.trickle.len (slice_index [] (interval_words now p))) next.trickle in t).done) none.1
      in
      let first : next.trickle.done ≡ i.done || nat_le i.fire now =
      ap (λ (b : Bool). (let t : Interval = cond b (interval_from now (next_length i.len) (slice_index [] 0)) (fired now i) in t).done) ended
      in
      let done : i.done || nat_le i.fire now ≡ i.done = sym first ∙ sym before ∙ ap (λ (q : Port). q.trickle.done) is.same in
      record {
        interval = record {
          waits = elim (done_or_not_yet i.done (nat_le i.fire now) done) [ inl already ↦ inl already | inr before ↦ inr (leb-false i.fire now before) ];
          lasts = leb-false (i.begin + i.len) now ended;
        };
        recent = (let less = leb-false 20000 (now - p.sent) no_keep_alive in omega (arith, less));
      }

pub undue_is_idle : UnduePortIsIdle
undue_is_idle now port = (idle now port, still now port)

pub still_later : UndueIntervalStays → UnduePortStays
still_later interval_stays port now later goes is none = record {
  interval = interval_stays port.trickle now later goes is.interval (λ m due after. none m (inl due) after);
  recent = none (silence_end port.sent) (inr refl) is.recent;
}
