-- An exchange ends in one way.
use Rattle.hn_base.proofs.Names.{◌≡◌, ◌∙◌, ℕ, Option, None, Some, sym, ap, subst}
use Rattle.hn_lab.proofs.Names.{Name, unless_exchange, Stop, Refused, WireFailed, Cut, IsKnownRoute, Unless, ThenProcess, Stage, Syncs, Exchanges, SyncEnds}
use Rattle.hn_sync.specs.Laws.{ExchangeIsUnique}
use Rattle.hn_lab.proofs.LawAlike.{Grows, grows_none, Agree, AreOne, FirstIsShort, SecondIsShort, IsSole, sole_at, sole_unless, sole_then}
use Rattle.hn_lab.proofs.LawEvents.{same_stage}

-- the stop at an event that is refused, if one is
abbrev stop_at : Option ℕ → Option Stop
stop_at None = None
stop_at (Some code) = Some (Refused code)

module _ (exchanges : ExchangeIsUnique) (m n : Name) where
  -- two ends that were not cut short are one
  same_ends : (code other : Option ℕ) (p a b : Stage) → Syncs m n code p a → Syncs m n other p b → Agree (stop_at code) (stop_at other) a b
  same_ends code other p a b h k =
      let one = exchanges m n code other p.words a.words b.words p.world a.world b.world h.ends k.ends in
      AreOne (ap stop_at one.code_is) (same_stage a b one.world_is (h.loss ∙ sym k.loss) one.rest_is (h.route ∙ sym k.route) (h.senders ∙ sym k.senders) (h.text ∙ sym k.text))

  -- the text stays
  still_text : (c : Option Stop) (p a : Stage) → Exchanges m n c p a → a.text ≡ p.text
  still_text None p a h = h.0.text
  still_text (Some (Refused code)) p a h = h.text
  still_text (Some WireFailed) p a h = absurd h
  still_text (Some (Cut fault)) p a h = ap (λ (s : Stage). s.text) h

  grows_like : (c d : Option Stop) (p a b : Stage) → Exchanges m n c p a → Exchanges m n d p b → Grows a b
  grows_like c d p a b h k = grows_none a b (still_text d p b k ∙ sym (still_text c p a h))

  one_end : (c d : Option Stop) (p a b : Stage) → IsKnownRoute p.route → Exchanges m n c p a → Exchanges m n d p b → Agree c d a b
  one_end None None p a b told h k = same_ends None None p a b h.0 k.0
  one_end None (Some (Refused f)) p a b told h k = same_ends None (Some f) p a b h.0 k
  one_end (Some (Refused e)) None p a b told h k = same_ends (Some e) None p a b h k.0
  one_end (Some (Refused e)) (Some (Refused f)) p a b told h k = same_ends (Some e) (Some f) p a b h k
  one_end (Some WireFailed) d p a b told h k = absurd h
  one_end (Some (Cut fault)) d p a b told h k = FirstIsShort tt (grows_like (Some (Cut fault)) d p a b h k)
  one_end None (Some WireFailed) p a b told h k = absurd k
  one_end (Some (Refused e)) (Some WireFailed) p a b told h k = absurd k
  one_end None (Some (Cut fault)) p a b told h k = SecondIsShort tt (grows_like (Some (Cut fault)) None p b a k h)
  one_end (Some (Refused e)) (Some (Cut fault)) p a b told h k = SecondIsShort tt (grows_like (Some (Cut fault)) (Some (Refused e)) p b a k h)

  sole_exchange : IsSole (Exchanges m n)
  sole_exchange = record {
    one = one_end;
    keeps = λ p a told h. subst IsKnownRoute (sym h.0.route) told;
    grows = λ c p a h. grows_none p a (still_text c p a h);
  }

  pub sole_sync : IsSole (SyncEnds m n)
  sole_sync = sole_at (λ p. ThenProcess (Unless (unless_exchange m n p.world)) (Exchanges m n))
      (λ p. sole_then (Unless (unless_exchange m n p.world)) (Exchanges m n) (sole_unless (unless_exchange m n p.world)) sole_exchange)
