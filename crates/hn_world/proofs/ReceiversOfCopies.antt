-- Each copy goes to a router that is there.
use Rattle.hn_base.proofs.Names.{◌≡◌, ◌<◌, ◌≤◌, ◌+◌, ◌-◌, ◌∙◌, ℕ, suc, true, false, List, [], ◌∷◌, ◌++◌, Option, Some, None, length, filter, slice_set, sym, subst, ap, arith, length-set, All-nil}
use Rattle.hn_base.proofs.Names.{All-append, All-map, All-set, All-weaker, All-filter}
use Rattle.hn_world.proofs.Names.{All, EpId, Name, endpoints_of, PlainEvent, Arrive, Note, Outgoing, MailCopy, Target, WEvent, Traced, Member, Parts, copies_of, copies_of_send, copies_on, copy_for}
use Rattle.hn_world.proofs.Names.{gets, on_link_at, on_link, is_on, link_of, copy_at, IsReplayed, routed, ActsAt, DoesElse, DoesAt, beside, stopped, taken}
use Rattle.std.proofs.lemmas.List.{length-append}
use Rattle.hn_world.specs.declared.event.WEvent.TheVariants as event
use Rattle.hn_world.proofs.DoneAsPlanned.{copy_there}
use Rattle.hn_world.proofs.OneStep.{Any}
use Rattle.hn_world.proofs.SoundRouters.{all_at, replay_keeps}

-- ---- what is sent

-- the endpoints on a link are of routers that are there
targets_within : (link place : ℕ) (xs : List Member) → All (λ t. t.place < place + length xs) (on_link link place xs)
targets_within link place [] = All-nil (λ (t : Target). t.place < place + 0)
targets_within link place (m ∷ xs) =
    let n = place + length (m ∷ xs) in
    let more : suc place + length xs ≡ place + length (m ∷ xs) = omega arith in
    All-append (λ (t : Target). t.place < n) (on_link_at link place m) (on_link link (suc place) xs)
    (All-map (λ (t : Target). t.place < n) (λ (e : EpId). record { place = place; endpoint = e }) (filter (is_on link m) (endpoints_of m.router.ports)) (λ k d within. omega arith))
    (subst (λ (n : ℕ). All (λ (t : Target). t.place < n) (on_link link (suc place) xs)) more (targets_within link (suc place) xs))

-- a copy goes to one of so many routers
abbrev IsFor : ℕ → MailCopy → Type 0
IsFor n c = c.to.place < n

sent_on : (members : List Member) (sender : Target) (send : Outgoing) (link : Option ℕ) → All (IsFor (length members)) (copies_on members sender send link)
sent_on members sender send None = All-nil (IsFor (length members))
sent_on members sender send (Some link) =
    let same : 0 + length members ≡ length members = omega arith in
    let there = subst (λ (n : ℕ). All (λ (t : Target). t.place < n) (on_link link 0 members)) same (targets_within link 0 members) in
    All-map (IsFor (length members)) (copy_for sender send.to send.bytes) (filter (gets sender send.to) (on_link link 0 members))
    (All-filter (gets sender send.to) (λ (t : Target). t.place < length members) (on_link link 0 members) there)

sent : (members : List Member) (place : ℕ) (m : Member) (sends : List Outgoing) → All (IsFor (length members)) (copies_of members place m sends)
sent members place m [] = All-nil (IsFor (length members))
sent members place m (send ∷ sends) =
    All-append (IsFor (length members)) (copies_of_send members place m send) (copies_of members place m sends)
    (sent_on members (record { place = place; endpoint = send.endpoint }) send (link_of send.endpoint m)) (sent members place m sends)

-- ---- each event keeps it

abbrev pub HaveReceivers : Parts → Type 0
HaveReceivers w = All (λ c. c.to.place < length w.members) w.copies

-- where there are as many routers as before, or more
for_more : (n k : ℕ) (copies : List MailCopy) → n ≤ k → All (IsFor n) copies → All (IsFor k) copies
for_more n k copies le all = All-weaker (IsFor n) (IsFor k) (λ (c : MailCopy) (lt : IsFor n c). omega (arith, lt, le)) copies all

still_for : (n copy : ℕ) (mail : MailCopy) (w : Parts) → IsFor n mail → All (IsFor n) w.copies → All (IsFor n) (taken copy mail w).copies
still_for n copy mail w one all = All-set (IsFor n) w.copies (copy - 1) (record mail { waiting = false }) one all

module _ (change : Member → Member) (place : ℕ) (event : PlainEvent) (words : List ℕ) (notes : List Note) (before after : Parts) (h : ActsAt change place event words notes before after) where
  as_many : length after.members ≡ length before.members
  as_many = ap (λ (w : Parts). length w.members) h.gives ∙ length-set before.members place (change (record h.member { router = h.next }))

  received_at : HaveReceivers before → All (IsFor (length before.members)) after.copies
  received_at all =
      subst (λ (w : Parts). All (IsFor (length before.members)) w.copies) (sym h.gives)
      (All-append (IsFor (length before.members)) before.copies (copies_of before.members place h.member h.done.sends) all (sent before.members place h.member h.done.sends))

received_else : (event : WEvent) (words : List ℕ) (notes : List Note) (before after : Parts) → DoesElse event words notes before after → HaveReceivers before → HaveReceivers after
received_else (event.Router name id) words notes before after h all =
    let m : Member = record { name = name; running = true; router = h.router; attachments = [] } in
    let more : length (before.members ++ m ∷ []) ≡ length before.members + 1 = length-append before.members (m ∷ []) in
    subst HaveReceivers (sym h.quietly.gives) (for_more (length before.members) (length (before.members ++ m ∷ [])) before.copies (omega (arith, more)) all)
received_else (event.Link name) words notes before after h all = subst HaveReceivers (sym h.gives) all
received_else (event.Stop name) words notes before after h all =
    let same : length (slice_set before.members h.place (stopped h.member)) ≡ length before.members = length-set before.members h.place (stopped h.member) in
    subst HaveReceivers (sym h.quietly.gives) (for_more (length before.members) (length (slice_set before.members h.place (stopped h.member))) before.copies (omega (arith, same)) all)
received_else (event.Time moment) words notes before after h all = subst HaveReceivers (sym h.gives) all
received_else (event.Deliver copy) words notes before after h all =
    let arrival : PlainEvent = Arrive (record { endpoint = h.mail.to.endpoint; from = h.mail.from; multicast = h.mail.multicast }) h.mail.bytes in
    let n = length before.members in
    let same = as_many (λ m. m) h.mail.to.place arrival words notes before h.between h.acts in
    let one : IsFor n h.mail = all_at (IsFor n) before.copies (copy - 1) h.mail h.is_copy all in
    let between = received_at (λ m. m) h.mail.to.place arrival words notes before h.between h.acts all in
    subst HaveReceivers (sym h.gives) (for_more n (length h.between.members) (taken copy h.mail h.between).copies (omega (arith, same)) (still_for n copy h.mail h.between one between))
received_else (event.Drop copy) words notes before after h all =
    let n = length before.members in
    let one : IsFor n h.mail = all_at (IsFor n) before.copies (copy - 1) h.mail h.is_copy all in
    subst HaveReceivers (sym h.quietly.gives) (still_for n copy h.mail before one all)
received_else _ words notes before after h all = absurd h

received_by : (event : WEvent) (own : Option (Name × PlainEvent)) (words : List ℕ) (notes : List Note) (before after : Parts)
    → DoesAt event own words notes before after → HaveReceivers before → HaveReceivers after
received_by event (Some own) words notes before after h all =
    let same = as_many (beside event before) h.place own.1 words notes before after h.acts in
    for_more (length before.members) (length after.members) after.copies (omega (arith, same)) (received_at (beside event before) h.place own.1 words notes before after h.acts all)
received_by event None words notes before after h all = received_else event words notes before after h all

received_step : (t : Traced) (before after : Parts) → Any t before after → HaveReceivers before → HaveReceivers after
received_step t before after h all = subst HaveReceivers (sym h.1.gives) (received_by t.event (routed t.event) t.words h.0 before h.1.between h.1.does all)

pub received : (w : Parts) → IsReplayed w → HaveReceivers w
received w h = replay_keeps HaveReceivers received_step w.version (All-nil (IsFor 0)) w.trace w h

-- a copy of a number has a router
pub receiver_there : (w : Parts) (copy : ℕ) (c : MailCopy) → HaveReceivers w → copy_at w copy ≡ Some c → c.to.place < length w.members
receiver_there w copy c all at = all_at (λ (c : MailCopy). c.to.place < length w.members) w.copies (copy - 1) c (copy_there copy w c at).1 all
