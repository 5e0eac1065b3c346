-- An assignment of prefixes: the words that it takes, and what it leaves.
use Rattle.hn_base.proofs.Names.{◌≡◌, ◌∙◌, ◌++◌, ℕ, List, Option, Decides, sym, ap, subst, ◌==◌, ◌&&◌, Decides-and, Decides-like, Decides-eqb, Drew, Took}
use Rattle.hn_rules.proofs.Names.{Backoff, Contains, EpId, Held, Port, endpoints_of, Running, State, IsWishAt, IsRunAssigned, IsAssigning, seen_by, IsSubroutine}
use Rattle.hn_rules.proofs.Names.{Wish, PlainView, AreUsable, Nodes, Ran, with_words, IsRefreshed}
use Rattle.hn_assign.specs.declared.ran.Ran.{Ran as Left}
use Rattle.hn_own.specs.Posts.{private_posts}
use Rattle.hn_base.proofs.Prefixes.{is_one_prefix, prefix_decided}

-- ---- when backoffs are the same

pub backoff_decided : (a b : Backoff) → Decides (is_one_prefix a.delegated b.delegated && (a.endpoint.0 == b.endpoint.0 && a.due == b.due)) (a ≡ b)
backoff_decided a b =
    Decides-like _
    (λ (same : (a.delegated ≡ b.delegated) × ((a.endpoint.0 ≡ b.endpoint.0) × (a.due ≡ b.due))). λ i. record { delegated = same.0 i; endpoint = record { 0 = same.1.0 i }; due = same.1.1 i })
    (λ (same : a ≡ b). (ap (λ (c : Backoff). c.delegated) same, (ap (λ (c : Backoff). c.endpoint.0) same, ap (λ (c : Backoff). c.due) same)))
    (Decides-and _ _ (prefix_decided a.delegated b.delegated) (Decides-and _ _ (Decides-eqb a.endpoint.0 b.endpoint.0) (Decides-eqb a.due b.due)))

-- ---- an assignment

-- the subroutine does the same where the router sees the same, whatever its table and its network state hash
pub run_seen : (s : State) (table : Nodes) (net : List ℕ) (left : Left) → seen_by (record s { table = table; net = net }) ≡ seen_by s
    → IsRunAssigned (record s { table = table; net = net }) left → IsRunAssigned s left
run_seen s table net left same is =
    let asked_at = λ (view : PlainView) (place : ℕ) (wish : Wish). IsWishAt s.private view is.usable place wish in
    record {
      usable = is.usable;
      are_usable = subst (λ (view : PlainView). AreUsable view is.usable) same is.are_usable;
      wishes = is.wishes;
      are_asked = record {
        ascending = is.are_asked.ascending;
        exact = λ wish. (
          λ there. let w = (is.are_asked.exact wish).0 there in record { place = w.place; asked = subst (λ (view : PlainView). asked_at view w.place wish) same w.asked; post = w.post },
          λ w. (is.are_asked.exact wish).1 (record { place = w.place; asked = subst (λ (view : PlainView). asked_at view w.place wish) (sym same) w.asked; post = w.post }),
        );
      };
      is_subroutine = subst (λ (view : PlainView). IsSubroutine view is.wishes s.held left) same is.is_subroutine;
    }

-- and whatever its endpoints hold beside their numbers
pub run_ports : (s : State) (ports : List Port) (due : ℕ) (left : Left) → endpoints_of ports ≡ endpoints_of s.ports → IsRunAssigned s left
    → IsRunAssigned (record s { ports = ports; due = due }) left
run_ports s ports due left same is =
    let has_post = λ (wish : Wish) (ends : List EpId). Contains (private_posts s.private ++ ends) wish.endpoint in
    record {
      usable = is.usable;
      are_usable = is.are_usable;
      wishes = is.wishes;
      are_asked = record {
        ascending = is.are_asked.ascending;
        exact = λ wish. (
          λ there. let w = (is.are_asked.exact wish).0 there in record { place = w.place; asked = w.asked; post = subst (has_post wish) (sym same) w.post },
          λ w. (is.are_asked.exact wish).1 (record { place = w.place; asked = w.asked; post = subst (has_post wish) same w.post }),
        );
      };
      is_subroutine = is.is_subroutine;
    }

-- what the subroutine left is held, and then the words are taken
pub assigns : (left : Left) (words : List ℕ) (before between after : Running) → words ≡ left.words
    → between ≡ record before { state = record before.state { held = left.held } } → after ≡ with_words words between
    → after ≡ with_words left.words (record before { state = record before.state { held = left.held } })
assigns left words before between after same held gives =
    gives ∙ ap (λ (ws : List ℕ). with_words ws between) same ∙ ap (λ (r : Running). with_words left.words r) held

-- the words that it takes
pub ran_assigning : (left : Left) (told told_after : Option (ℕ → ℕ)) (before after : Running)
    → IsRunAssigned before.state left → Took told left.words told_after
    → after ≡ with_words left.words (record before { state = record before.state { held = left.held } }) → Ran IsAssigning told told_after before after
ran_assigning left told told_after before after assigned drew gives = record {
  holds = record { ran = left; is_assigned = assigned; gives = gives };
  drew = subst (λ (ws : List ℕ). Drew told before.done.words told_after ws) (ap (λ (r : Running). r.done.words) (sym gives)) (drew before.done.words);
}

-- with the same assignments what a refresh makes stays
pub refreshed_with : (s : State) (held : Held) → held.assigned ≡ s.held.assigned → IsRefreshed s → IsRefreshed (record s { held = held })
refreshed_with s held same is = record {
  published = rw same is.published;
  reached = record {
    moment = is.reached.moment;
    past = is.reached.past;
    was = record { ascending = is.reached.was.ascending; exactly = is.reached.was.exactly };
  };
  lost = is.lost;
  hashed = is.hashed;
}

pub untouched_assigning : (left : Left) (before after : Running)
    → after ≡ with_words left.words (record before { state = record before.state { held = left.held } })
    → left.held.assigned ≡ before.state.held.assigned → IsRefreshed before.state → IsRefreshed after.state
untouched_assigning left before after gives same is =
    subst IsRefreshed (ap (λ (r : Running). r.state) (sym gives)) (refreshed_with before.state left.held same is)
