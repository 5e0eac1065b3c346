-- Each delivery of an exchange keeps what it is as it goes.
use Rattle.hn_base.proofs.Names.{◌≡◌, ◌∙◌, ◌⊎◌, ◌<◌, ◌+◌, ◌-◌, ◌^◌, ℕ, suc, Bool, true, false, List, [], ◌∷◌, ◌++◌, length, map, slice_get, position, Contains, Some, sym, ap, subst, refl, inl, inr}
use Rattle.hn_base.proofs.Names.{arith, All-nil, All-contains, Contains-append_right, Contains-append_cases, same_Some}
use Rattle.hn_sync.proofs.Names.{All, nothing_in, Contains-head, Contains-tail, Contains-cases, all_of, Addr, Entry, Part, Arrive, Happened, Done, Note, State, IsPublished, begun_at, IsStale}
use Rattle.hn_sync.proofs.Names.{MailCopy, Target, Traced, WEvent, Member, Parts, address_of_target, copies_of, is_named, link_of, Goes, IsReplayed, ActsAt, DeliversCopy, Does, acted, entered, taken}
use Rattle.hn_sync.proofs.Names.{AreDeliveries, state_of}
use Rattle.hn_sync.proofs.Between.{replayed_more}
use Rattle.hn_sync.proofs.NodeStatesSaid.{Says, Asks}
use Rattle.hn_sync.proofs.BeforeEachDelivery.{GoingLaws, known_there, IsPair, IsGoing, copies_taken, first_letter, here_then, other_then, ports_of, on_link_of}
use Rattle.hn_sync.proofs.BeforeEachDelivery.{knows_one, knows_two, learns_here, letters_here, is_front, asked_then, taught_then}
use Rattle.hn_sync.proofs.AskerLearns.{InRest, InAsked, own_part, IsGiven, IsOwned}
use Rattle.hn_sync.proofs.WhatCopiesSay.{Letter, copy_of, IsSent, sent}
use Rattle.hn_sync.proofs.CopiesToDeliver.{no_answers, place_set, ToAsker, ToAsked, IsLetterBy, AreLetters, PendingIn, WaitingIn, pending_more, waiting_more, waiting_taken, relearn}
use Rattle.hn_sync.proofs.Sayings.{Saying, in_whole}
use Rattle.hn_sync.proofs.PeersSaid.{signs}
use Rattle.hn_sync.proofs.TurnsOfExchange.{IsReplied, IsTaught}

part_all : (P : Saying → Type 0) (whole part : List Saying) → ((s : Saying) → Contains part s → Contains whole s) → All P whole → All P part
part_all P whole part within all = all_of P part (λ s there. All-contains P whole s all (within s there))

-- what acts at a copy's endpoint acts there
acts_there : (t : Target) (from : Addr) (l mail : MailCopy) (words : List ℕ) (notes : List Note) (w between : Parts) → mail ≡ l → l.to ≡ t → l.from ≡ from → l.multicast ≡ false
    → ActsAt (λ m. m) mail.to.place (Arrive (record { endpoint = mail.to.endpoint; from = mail.from; multicast = mail.multicast }) mail.bytes) words notes w between
    → ActsAt (λ m. m) t.place (Arrive (record { endpoint = t.endpoint; from = from; multicast = false }) l.bytes) words notes w between
acts_there t from l mail words notes w between is to comes unicast h =
    subst (λ (b : Bool). ActsAt (λ m. m) t.place (Arrive (record { endpoint = t.endpoint; from = from; multicast = b }) l.bytes) words notes w between) unicast
    (subst (λ (a : Addr). ActsAt (λ m. m) t.place (Arrive (record { endpoint = t.endpoint; from = a; multicast = l.multicast }) l.bytes) words notes w between) comes
    (subst (λ (x : Target). ActsAt (λ m. m) x.place (Arrive (record { endpoint = x.endpoint; from = l.from; multicast = l.multicast }) l.bytes) words notes w between) to
    (subst (λ (c : MailCopy). ActsAt (λ m. m) c.to.place (Arrive (record { endpoint = c.to.endpoint; from = c.from; multicast = c.multicast }) c.bytes) words notes w between) is h)))

module _ (laws : GoingLaws) (here there : Target) (link : ℕ) (start before : State) (pair : IsPair here there link start before) (name other_name : List ℕ) where
  abbrev Going : ℕ → Parts → Type 0
  Going n w = IsGoing laws here there link start before pair name other_name n w

  module _ (n : ℕ) (w : Parts) (words : List ℕ) (notes : List Note) (between : Parts) (replayed : IsReplayed w) (h : Going n w) (l : Letter) (tail : List Letter) (queue_is : h.queue ≡ l ∷ tail) where
    letters_l : AreLetters here there start before (l ∷ tail)
    letters_l = letters_here laws here there link start before pair name other_name n w replayed h l tail queue_is

    abbrev Taught : State → Done → Type 0
    Taught next done = IsTaught laws.turns start before before.ports (PendingIn here there start before tail)
        (WaitingIn here there start before tail) pair.fit pair.table pair.up (record { endpoint = there.endpoint; from = address_of_target here; multicast = false }) next done

    -- what is hoped for after its answers
    taught_hope : (next : State) (done : Done) (taught : Taught next done) (new : List Letter)
        → ((s : Saying) → Contains taught.learnt.said s → (x : Letter) × Contains new x × Contains x.group s) → ((x : Letter) → Contains new x → x.to_asker ≡ false)
        → (m : Entry) → IsGiven start m → PendingIn here there start before tail m ⊎ (InRest [] m ⊎ InAsked taught.learnt.said m)
        → PendingIn here there start before (tail ++ new) m ⊎ (InRest [] m ⊎ InAsked [] m)
    taught_hope next done taught new each side m given (inl pending) = inl (pending_more here there start before tail new m pending)
    taught_hope next done taught new each side m given (inr (inl (x, there_x, is))) = absurd (nothing_in x there_x)
    taught_hope next done taught new each side m given (inr (inr (x, there_x, about))) =
        let got = each x there_x in
        inl (got.0, Contains-append_right tail new got.0 got.1, inr (side got.0 got.1, (x, got.2, about)))

    taught_owned : (next : State) (done : Done) (taught : Taught next done) (new : List Letter) → taught.last.state.moment ≡ w.moment
        → IsOwned laws.turns.tables.of_entry laws.turns.tables.marks start before before.ports (PendingIn here there start before tail) (WaitingIn here there start before tail) taught.last.state []
        → IsOwned laws.turns.tables.of_entry laws.turns.tables.marks start before before.ports (PendingIn here there start before (tail ++ new))
        (WaitingIn here there start before (tail ++ new)) (record next { moment = w.moment }) []
    taught_owned next done taught new moment (inl safe) = inl (λ m given own.
        let was = safe m given own in
        let part : own_part next ≡ own_part taught.last.state = ap own_part taught.is_next in
        let published : IsPublished (record taught.last.state { moment = w.moment; due = taught.due }) =
        record { same = was.0.same; young = subst (λ (k : ℕ). k - taught.last.state.own.born < 2 ^ 32 - 2 ^ 16) moment was.0.young } in
        (subst (λ (s : State). IsPublished (record s { moment = w.moment })) (sym taught.is_next) published, subst (λ (p : Part). IsStale (Some p) (state_of m)) (sym part) was.1))
    taught_owned next done taught new moment (inr (up, inl own)) = absurd (nothing_in own.3.0 own.3.1)
    taught_owned next done taught new moment (inr (up, inr waits)) = inr (tt, inr (waiting_more here there start before tail new waits))

    abbrev Replied : State → Done → Type 0
    Replied next done = IsReplied start (record { endpoint = here.endpoint; from = address_of_target there; multicast = false }) l.group next done

    replied_hope : l.to_asker ≡ false → (next : State) (done : Done) (replied : Replied next done) (said : List Saying) → said ≡ []
        → (new : List Letter) → ((s : Saying) → Contains replied.said s → (x : Letter) × Contains new x × Contains x.group s)
        → ((x : Letter) → Contains new x → x.to_asker ≡ true)
        → (m : Entry) → IsGiven start m → PendingIn here there start before (l ∷ tail) m ⊎ (InRest [] m ⊎ InAsked said m)
        → PendingIn here there start before (tail ++ new) m ⊎ (InRest [] m ⊎ InAsked [] m)
    replied_hope goes next done replied said none new each side m given (inl (x, there_x, is)) = elim (Contains-cases l tail x there_x) [
      | inl same ↦ elim is [
        | inl state ↦ absurd (let clash : true ≡ false = sym state.0 ∙ (ap (λ (y : Letter). y.to_asker) (sym same) ∙ goes) in cc)
        | inr asked ↦
            let asks = subst (λ (y : Letter). InAsked y.group m) (sym same) asked.1 in
            let got = replied.answered asks.0 m.id m asks.1 asks.2 given.reached given.knows in
            let put = each got.0 got.1 in
            inl (put.0, Contains-append_right tail new put.0 put.1, inl (side put.0 put.1, (got.0, put.2, inr got.2)))
      ]
      | inr later ↦ inl (pending_more here there start before tail new m (x, later, is))
    ]
    replied_hope goes next done replied said none new each side m given (inr (inl (x, there_x, is))) = absurd (nothing_in x there_x)
    replied_hope goes next done replied said none new each side m given (inr (inr (x, there_x, is))) = absurd (nothing_in x (subst (λ (xs : List Saying). Contains xs x) none there_x))

    replied_owned : l.to_asker ≡ false → (s : State) (new : List Letter)
        → IsOwned laws.turns.tables.of_entry laws.turns.tables.marks start before before.ports (PendingIn here there start before (l ∷ tail))
        (WaitingIn here there start before (l ∷ tail)) (record s { moment = w.moment }) []
        → IsOwned laws.turns.tables.of_entry laws.turns.tables.marks start before before.ports (PendingIn here there start before (tail ++ new))
        (WaitingIn here there start before (tail ++ new)) (record s { moment = w.moment }) []
    replied_owned goes s new (inl safe) = inl safe
    replied_owned goes s new (inr (up, inl own)) = absurd (nothing_in own.3.0 own.3.1)
    replied_owned goes s new (inr (up, inr waits)) = absurd (let k = waiting_taken here there start before l tail waits in let clash : true ≡ false = sym k.0 ∙ goes in cc)

    -- it goes to the router that asks
    to_asker : l.to_asker ≡ true
        → (acts : ActsAt (λ m. m) there.place (Arrive (record { endpoint = there.endpoint; from = address_of_target here; multicast = false }) l.copy.bytes) words notes w between)
        → acts.next.id ≡ before.id → Going (suc n) (taken n l.copy (acted (λ m. m) there.place acts.member acts.next acts.done w))
    to_asker goes acts named =
        let letter : ToAsker here there start before l = subst (λ (b : Bool). IsLetterBy here there start before b l) goes (letters_l l (Contains-head l tail)) in
        let member : acts.member ≡ h.two = same_Some acts.member h.two (sym acts.is_member ∙ h.is_two) in
        let happened = subst (λ (m : Member). Happened w.moment
        (Arrive (record { endpoint = there.endpoint; from = address_of_target here; multicast = false }) l.copy.bytes) m.router acts.next acts.done) member acts.happened in
        let taught = taught_then laws here there link start before pair name other_name n w replayed h l tail queue_is letter goes acts.next acts.done named happened in
        let q_there = on_link_of laws here there link start before pair name other_name w here h.one h.is_one
        (known_there here.endpoint before.id there.endpoint h.one.router.ports (knows_one laws here there link start before pair name other_name n w replayed h l tail queue_is)) h.link_one in
        let mail : IsSent w.members there here h.two link false h.link_two q_there
        (ports_of laws here there link start before pair name other_name w replayed) pair.here_fits before.id taught.learnt.said taught.datagrams
        = sent w.members there here h.two link false h.link_two q_there
        (ports_of laws here there link start before pair name other_name w replayed) pair.here_fits before.id taught.learnt.said taught.datagrams taught.are_said in
        let more : copies_of w.members there.place acts.member acts.done.sends ≡ map copy_of mail.letters = (λ i. copies_of w.members there.place (member i) (taught.sends i)) ∙ mail.copies in
        let moment : taught.last.state.moment ≡ w.moment = sym (ap (λ (s : State). s.moment) taught.is_next) ∙ laws.moment w.moment _ h.two.router acts.next acts.done happened in
        record {
          moment = h.moment;
          place_one = place_set name w.members there.place acts.member acts.next acts.is_member ∙ h.place_one;
          place_two = place_set other_name w.members there.place acts.member acts.next acts.is_member ∙ h.place_two;
          one = h.one;
          two = record acts.member { router = acts.next };
          is_one = other_then laws here there link start before pair name other_name w there.place acts.member acts.next acts.is_member here.place h.one pair.apart h.is_one;
          is_two = here_then laws here there link start before pair name other_name w there.place acts.member acts.next acts.is_member;
          link_one = h.link_one;
          link_two = ap (λ (m : Member). link_of there.endpoint m) member ∙ h.link_two;
          front = h.front ++ (record l.copy { waiting = false }) ∷ [];
          size = is_front laws here there link start before pair name other_name n w replayed h l tail queue_is;
          queue = tail ++ mail.letters;
          copies = copies_taken laws here there link start before pair name other_name n h.front l tail mail.letters w.copies _ (record l.copy { waiting = false }) h.size
              (subst (λ (q : List Letter). w.copies ≡ h.front ++ map copy_of q) queue_is h.copies) more;
          letters = λ x there_x. elim (Contains-append_cases tail mail.letters x there_x) [
            | inl old ↦ letters_l x (Contains-tail l tail x old)
            | inr new ↦
                let good = mail.good x new in
                subst (λ (b : Bool). IsLetterBy here there start before b x) (sym good.side) (record {
                  goes = good.goes;
                  comes = good.comes;
                  unicast = good.unicast;
                  says = good.says;
                  all = part_all Asks taught.learnt.said x.group (in_whole x.group taught.learnt.said good.part) taught.learnt.all;
                })
          ];
          still = h.still;
          learns = relearn here there start before laws.turns.tables.of_entry laws.turns.tables.marks tail (tail ++ mail.letters) taught.last
              (begun_at w.moment acts.next) [] [] [] taught.learnt refl (All-nil Asks)
              (ap (λ (s : State). s.id) taught.is_next) (ap (λ (s : State). signs s.ports) taught.is_next)
              (ap (λ (s : State). s.table) taught.is_next)
              (taught_hope acts.next acts.done taught mail.letters mail.each (λ x new. (mail.good x new).side)) (taught_owned acts.next acts.done taught mail.letters moment taught.learnt.owned);
        }

    -- it goes to the router that is asked
    to_asked : l.to_asker ≡ false
        → (acts : ActsAt (λ m. m) here.place (Arrive (record { endpoint = here.endpoint; from = address_of_target there; multicast = false }) l.copy.bytes) words notes w between)
        → Going (suc n) (taken n l.copy (acted (λ m. m) here.place acts.member acts.next acts.done w))
    to_asked goes acts =
        let letter : ToAsked here there start before l = subst (λ (b : Bool). IsLetterBy here there start before b l) goes (letters_l l (Contains-head l tail)) in
        let member : acts.member ≡ h.one = same_Some acts.member h.one (sym acts.is_member ∙ h.is_one) in
        let happened = subst (λ (m : Member). Happened w.moment
        (Arrive (record { endpoint = here.endpoint; from = address_of_target there; multicast = false }) l.copy.bytes) m.router acts.next acts.done) member acts.happened in
        let replied = asked_then laws here there link start before pair name other_name n w replayed h l tail queue_is letter acts.next acts.done happened in
        let q_there = on_link_of laws here there link start before pair name other_name w there h.two h.is_two
        (known_there there.endpoint start.id here.endpoint h.two.router.ports (knows_two laws here there link start before pair name other_name n w replayed h l tail queue_is)) h.link_two in
        let mail : IsSent w.members here there h.one link true h.link_one q_there
        (ports_of laws here there link start before pair name other_name w replayed) pair.there_fits start.id replied.said replied.datagrams
        = sent w.members here there h.one link true h.link_one q_there
        (ports_of laws here there link start before pair name other_name w replayed) pair.there_fits start.id replied.said replied.datagrams replied.are_said in
        let more : copies_of w.members here.place acts.member acts.done.sends ≡ map copy_of mail.letters = (λ i. copies_of w.members here.place (member i) (replied.sends i)) ∙ mail.copies in
        let learns = learns_here laws here there link start before pair name other_name n w replayed h l tail queue_is in
        record {
          moment = h.moment;
          place_one = place_set name w.members here.place acts.member acts.next acts.is_member ∙ h.place_one;
          place_two = place_set other_name w.members here.place acts.member acts.next acts.is_member ∙ h.place_two;
          one = record acts.member { router = acts.next };
          two = h.two;
          is_one = here_then laws here there link start before pair name other_name w here.place acts.member acts.next acts.is_member;
          is_two = other_then laws here there link start before pair name other_name w here.place acts.member acts.next acts.is_member there.place h.two (λ e. pair.apart (sym e)) h.is_two;
          link_one = ap (λ (m : Member). link_of here.endpoint m) member ∙ h.link_one;
          link_two = h.link_two;
          front = h.front ++ (record l.copy { waiting = false }) ∷ [];
          size = is_front laws here there link start before pair name other_name n w replayed h l tail queue_is;
          queue = tail ++ mail.letters;
          copies = copies_taken laws here there link start before pair name other_name n h.front l tail mail.letters w.copies _ (record l.copy { waiting = false }) h.size
              (subst (λ (q : List Letter). w.copies ≡ h.front ++ map copy_of q) queue_is h.copies) more;
          letters = λ x there_x. elim (Contains-append_cases tail mail.letters x there_x) [
            | inl old ↦ letters_l x (Contains-tail l tail x old)
            | inr new ↦
                let good = mail.good x new in
                subst (λ (b : Bool). IsLetterBy here there start before b x) (sym good.side) (record {
                  goes = good.goes;
                  comes = good.comes;
                  unicast = good.unicast;
                  says = good.says;
                  all = part_all (Says start) replied.said x.group (in_whole x.group replied.said good.part) replied.all;
                })
          ];
          still = replied.still;
          learns = relearn here there start before laws.turns.tables.of_entry laws.turns.tables.marks (l ∷ tail) (tail ++ mail.letters)
              (begun_at w.moment h.two.router) (begun_at w.moment h.two.router) [] [] [] learns refl (All-nil Asks)
              refl refl refl (replied_hope goes acts.next acts.done replied learns.said (no_answers learns.said learns.are) mail.letters mail.each (λ x new. (mail.good x new).side))
              (replied_owned goes h.two.router mail.letters learns.owned);
        }

    -- a copy is delivered
    delivered : (after : Parts) (d : DeliversCopy n words notes w after) → d.between ≡ between
        → ((m : Member) → position (is_named other_name) after.members ≡ Some there.place → slice_get after.members there.place ≡ Some m → m.router.id ≡ before.id)
        → d.mail ≡ l.copy → Going (suc n) after
    delivered after d same_between named is = by_side l.to_asker refl
      where
        by_side : (b : Bool) → l.to_asker ≡ b → Going (suc n) after
        by_side true side =
            let letter : ToAsker here there start before l = subst (λ (b : Bool). IsLetterBy here there start before b l) side (letters_l l (Contains-head l tail)) in
            let acts = acts_there there (address_of_target here) l.copy d.mail words notes w between is letter.goes letter.comes letter.unicast
            (subst (λ (x : Parts). ActsAt (λ m. m) d.mail.to.place
            (Arrive (record { endpoint = d.mail.to.endpoint; from = d.mail.from; multicast = d.mail.multicast }) d.mail.bytes) words notes w x) same_between d.acts) in
            let made : after ≡ taken n l.copy (acted (λ m. m) there.place acts.member acts.next acts.done w) =
            d.gives ∙ (λ i. taken n (is i) (same_between i)) ∙ ap (λ (x : Parts). taken n l.copy x) acts.gives in
            let at : slice_get after.members there.place ≡ Some (record acts.member { router = acts.next }) = ap (λ (x : Parts). slice_get x.members there.place) made
            ∙ here_then laws here there link start before pair name other_name w there.place acts.member acts.next acts.is_member in
            let place : position (is_named other_name) after.members ≡ Some there.place =
            ap (λ (x : Parts). position (is_named other_name) x.members) made ∙ (place_set other_name w.members there.place acts.member acts.next acts.is_member ∙ h.place_two) in
            subst (Going (suc n)) (sym made) (to_asker side acts (named (record acts.member { router = acts.next }) place at))
        by_side false side =
            let letter : ToAsked here there start before l = subst (λ (b : Bool). IsLetterBy here there start before b l) side (letters_l l (Contains-head l tail)) in
            let acts = acts_there here (address_of_target there) l.copy d.mail words notes w between is letter.goes letter.comes letter.unicast
            (subst (λ (x : Parts). ActsAt (λ m. m) d.mail.to.place
            (Arrive (record { endpoint = d.mail.to.endpoint; from = d.mail.from; multicast = d.mail.multicast }) d.mail.bytes) words notes w x) same_between d.acts) in
            let made : after ≡ taken n l.copy (acted (λ m. m) here.place acts.member acts.next acts.done w) =
            d.gives ∙ (λ i. taken n (is i) (same_between i)) ∙ ap (λ (x : Parts). taken n l.copy x) acts.gives in
            subst (Going (suc n)) (sym made) (to_asked side acts)

  pub going_entered : (n : ℕ) (t : Traced) (w : Parts) → Going n w → Going n (entered t w)
  going_entered n t w h = record {
    moment = h.moment;
    place_one = h.place_one;
    place_two = h.place_two;
    one = h.one;
    two = h.two;
    is_one = h.is_one;
    is_two = h.is_two;
    link_one = h.link_one;
    link_two = h.link_two;
    front = h.front;
    size = h.size;
    queue = h.queue;
    copies = h.copies;
    letters = h.letters;
    still = h.still;
    learns = h.learns;
  }

  -- deliveries one after another, where the router that asks is named so in each world
  pub along : (ts : List Traced) (n : ℕ) (w after : Parts) → IsReplayed w → Going n w → Goes w ts after → AreDeliveries n ts
      → ((x : Parts) (past rest : List Traced) → Goes w past x → Goes x rest after → IsReplayed x → (m : Member)
      → position (is_named other_name) x.members ≡ Some there.place → slice_get x.members there.place ≡ Some m → m.router.id ≡ before.id) → Going (n + length ts) after
  along [] n w after replayed h goes are named =
      let same : n + 0 ≡ n = omega arith in
      subst (λ (x : Parts). Going (n + 0) x) (sym goes) (subst (λ (k : ℕ). Going k w) (sym same) h)
  along (t ∷ ts) n w after replayed h goes are named =
      let step = goes.1.1 in
      let d : DeliversCopy n t.words goes.1.0 w step.between = subst (λ (e : WEvent). Does e t.words goes.1.0 w step.between) are.0 step.does in
      let first = first_letter laws here there link start before pair name other_name n w h d.mail d.is_copy in
      let then : IsReplayed goes.0 = replayed_more laws.world here there n t w goes.0 replayed goes.1 in
      let is_so = λ (m : Member). λ (place : position (is_named other_name) (step.between).members ≡ Some there.place). λ (at : slice_get (step.between).members there.place ≡ Some m).
      named goes.0 (t ∷ []) ts (goes.0, goes.1, refl) goes.2 then m (ap (λ (x : Parts). position (is_named other_name) x.members) step.gives ∙ place)
      (ap (λ (x : Parts). slice_get x.members there.place) step.gives ∙ at) in
      let going : Going (suc n) step.between = delivered n w t.words goes.1.0 d.between replayed h first.0 first.1.0 first.1.1 step.between d refl is_so first.1.2 in
      let next : Going (suc n) goes.0 = subst (Going (suc n)) (sym step.gives) (going_entered (suc n) t step.between going) in
      let count : suc n + length ts ≡ n + length (t ∷ ts) = omega arith in
      subst (λ (k : ℕ). Going k after) count
      (along ts (suc n) goes.0 after then next goes.2 are.1 (λ x past rest from to rep m place at. named x (t ∷ past) rest (goes.0, goes.1, from) to rep m place at))
