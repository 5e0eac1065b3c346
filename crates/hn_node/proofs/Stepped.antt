-- An event that was entered in the log, and what came of it that was sent.
use Rattle.hn_base.proofs.Names.{◌≡◌, ◌∙◌, ℕ, false, List, [], ◌∷◌, ◌++◌, Option, length, get_or, Result, Ok, Err, refl, sym, ap, subst, get_or_push, All, OnOk, OnErr, Took}
use Rattle.hn_node.proofs.Names.{Datagram, Done, Outgoing, State, Happened, Logged, NodeEvent, Node, PlainSite, serving, handed_of, plain_of, IsLoggedEvent, Steps, CutSteps, HandsAll, HandsPart, AddsEntry}
use Rattle.std.specs.Prelude.{◌≤◌}
use Rattle.std.specs.Result.{is_err}
use Rattle.hn_router.specs.Act.{PlainEvent}
use Rattle.hn_node.specs.Turns.{IsShort}

-- what holds after an answer that is no error, and after one that is
pub of_ok : {T E : Type 0} (r : Result T E) (P : Type 0) → OnOk r P → false ≡ is_err r → P
of_ok (Ok x) P holds same = holds
of_ok (Err e) P holds same = absurd cc

pub of_err : {T E : Type 0} (r : Result T E) (e : E) (P : Type 0) → OnErr r P → r ≡ Err e → P
of_err (Ok x) e P holds is = absurd cc
of_err (Err f) e P holds is = holds

-- the last element, at its place
last_is : {A : Type 0} (xs ys : List A) (x d : A) (at : ℕ) → ys ≡ xs ++ x ∷ [] → at ≡ length xs → get_or ys at d ≡ x
last_is {A} xs ys x d at are is = ap (λ (zs : List A). get_or zs at d) are ∙ get_or_push xs x d at (sym is)

-- what is entered of an event and of what came of it
abbrev pub entry_of : ℕ → NodeEvent → Done → Logged
entry_of now event done = record { moment = now; event = event; words = done.words; sends = done.sends }

-- its datagrams, as they are found in the log
pub entered_sends : (now : ℕ) (event : NodeEvent) (done : Done) (log longer read : List Logged) (d : Logged) (at : ℕ) (sends : List Outgoing)
    → longer ≡ log ++ entry_of now event done ∷ [] → read ≡ longer → at ≡ length log → sends ≡ (get_or read at d).sends → sends ≡ done.sends
entered_sends now event done log longer read d at sends pushed same is are =
    are ∙ ap (λ (l : Logged). l.sends) (last_is log read (entry_of now event done) d at (same ∙ pushed) is)

module _ (at : PlainSite) (now : ℕ) (event : NodeEvent) (of : PlainEvent) (done : Done) (told told_after : Option (ℕ → ℕ)) (waiting after : Option (List Datagram))
    (before : Node) (router : State) (log : List Logged) (sent : ℕ) (sends : List Outgoing)
    (is : of ≡ plain_of event) (happened : Happened now of before.router router done) (drew : Took told done.words told_after)
    (arrived : IsShort event) (short : All (λ (o : Outgoing). length o.bytes ≤ 65507) done.sends) (limit : router.table.limit ≡ before.router.table.limit)
    (pushed : log ≡ before.log ++ entry_of now event done ∷ []) (are : sends ≡ done.sends) where
  entered : IsLoggedEvent now event (entry_of now event done) before.router router
  entered = record {
    moment_is = refl;
    event_is = refl;
    done = done;
    happened = subst (λ (e : PlainEvent). Happened now e before.router router done) is happened;
    words_are = refl;
    sends_are = refl;
  }

  pub stepped : HandsAll (handed_of at sends) waiting after before.sent sent
      → (l : Logged) × Steps at now event l (serving before.router waiting) (serving router after)
      × AddsEntry l (handed_of at l.sends) told told_after before (record { router = router; log = log; sent = sent })
  stepped h =
      let all = subst (λ (os : List Outgoing). HandsAll (handed_of at os) waiting after before.sent sent) are h in (
        entry_of now event done,
        record { entry = entered; sends = all.sends },
        record { log = pushed; words = drew; sent = all.counts; bounded = record { arrived = arrived; sent = short }; limit = limit },
      )

  pub cut_step : HandsPart (handed_of at sends) waiting after before.sent sent
      → (l : Logged) × (front : List Datagram) × CutSteps at now event l front (serving before.router waiting) (serving router after)
      × AddsEntry l front told told_after before (record { router = router; log = log; sent = sent })
  cut_step h =
      let part = subst (λ (os : List Outgoing). HandsPart (handed_of at os) waiting after before.sent sent) are h in (
        entry_of now event done,
        part.front,
        record { entry = entered; sends = part.sends },
        record { log = pushed; words = drew; sent = part.counts; bounded = record { arrived = arrived; sent = short }; limit = limit },
      )
