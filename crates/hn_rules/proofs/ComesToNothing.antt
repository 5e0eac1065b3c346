-- Where nothing came of rules in the end, nothing had come of them before.
use Rattle.hn_base.proofs.Names.{◌≡◌, ◌∙◌, ℕ, List, [], ◌∷◌, ◌++◌, refl, sym, ap, subst, inl, inr, append-nil, Each, OnSome, Option, None, Some}
use Rattle.hn_rules.proofs.Names.{EpId, NodeId, Port, port_at, endpoints_of, loss_marked, Done, Running, State, nothing, IsReach, IsPublished, IsPublishing, IsPortReset, IsHashing, IsRefresh}
use Rattle.hn_rules.proofs.Names.{network_state_hash, Rule, AtPort, BeginsWith, GrowsFrom}
use Rattle.hn_rules.proofs.Growing.{only_add}
use Rattle.hn_rules.proofs.Leads.{Walk}

-- nothing came of it
abbrev pub CameToNothing : Running → Type 0
CameToNothing r = r.done ≡ nothing

-- ---- lists

module _ {A : Type 0} where
  pub none_before : (xs ys : List A) → xs ++ ys ≡ [] → xs ≡ []
  none_before [] ys is = refl
  none_before (x ∷ xs) ys is = absurd cc

  pub none_after : (xs ys : List A) → xs ++ ys ≡ [] → ys ≡ []
  none_after [] ys is = is
  none_after (x ∷ xs) ys is = absurd cc

  pub some_after : (xs : List A) (y : A) (ys : List A) → ¬ (xs ++ y ∷ ys ≡ [])
  some_after [] y ys is = absurd cc
  some_after (x ∷ xs) y ys is = absurd cc

-- ---- a change

pub same_done : (a b : Done) → a.sends ≡ b.sends → a.notes ≡ b.notes → a.published ≡ b.published → a.words ≡ b.words → a ≡ b
same_done a b sends notes published words = λ i. record { sends = sends i; notes = notes i; published = published i; words = words i }

-- a list that has grown from one, and has no elements in the end
none_grown : {A : Type 0} (front list : List A) → BeginsWith front list → list ≡ [] → front ≡ []
none_grown front list (more, is) none = none_before front more (sym is ∙ none)

-- a rule of which nothing came in the end
pub nothing_came_walk : (rule : Rule) → Walk [] rule → (before after : Running) → rule before after → CameToNothing after → CameToNothing before
nothing_came_walk rule walk before after holds came_none =
    let done = before.done in
    let same : GrowsFrom done before = record { sends = itself done.sends; notes = itself done.notes; published = itself done.published; words = itself done.words } in
    let grows = walk (GrowsFrom done) (only_add [] done) before after holds same in
    same_done done nothing (none_grown done.sends after.done.sends grows.sends (ap (λ (d : Done). d.sends) came_none))
    (none_grown done.notes after.done.notes grows.notes (ap (λ (d : Done). d.notes) came_none))
    (none_grown done.published after.done.published grows.published (ap (λ (d : Done). d.published) came_none))
    (none_grown done.words after.done.words grows.words (ap (λ (d : Done). d.words) came_none))
  where
    itself : {A : Type 0} (list : List A) → BeginsWith list list
    itself list = ([], sym (append-nil list))

-- ---- a refresh

-- Trickle is reset on no endpoint, as that takes a word
nothing_came_reset : (port : Port) (r a : Running) → IsPortReset port r a → CameToNothing a → a ≡ r
nothing_came_reset port r a (inl (shortest, is)) came_none = is
nothing_came_reset port r a (inr (longer, (word, is))) came_none =
    absurd (some_after r.done.words word [] (sym (ap (λ (x : Running). x.done.words) is) ∙ ap (λ (d : Done). d.words) came_none))

nothing_came_resets : (ats : List EpId) (r a : Running) → Each (λ at. AtPort at IsPortReset) ats r a → CameToNothing a → a ≡ r
nothing_came_resets [] r a is came_none = is
nothing_came_resets (at ∷ ats) r a (between, one, more) came_none =
    let last : a ≡ between = nothing_came_resets ats between a more came_none in
    last ∙ by_port (port_at at r.state.ports) one (subst CameToNothing last came_none)
  where
    by_port : (o : Option Port) → OnSome IsPortReset o r between → CameToNothing between → between ≡ r
    by_port None is quiet = is
    by_port (Some port) is quiet = nothing_came_reset port r between is quiet

-- with another network state hash
abbrev with_net : List ℕ → Running → Running
with_net net r = record r { state = record r.state { net = net } }

nothing_came_hashing : (r a : Running) → IsHashing r a → CameToNothing a → (net : List ℕ) × (a ≡ with_net net r)
nothing_came_hashing r a (inl (same, is)) came_none = (r.state.net, is)
nothing_came_hashing r a (inr (other, resets)) came_none =
    let net = network_state_hash r.state in
    (net, nothing_came_resets (endpoints_of r.state.ports) (with_net net r) a resets came_none)

-- with other reachable nodes and moments of loss, and another network state hash
abbrev pub seen_again : List NodeId → List ℕ → State → State
seen_again reach net s = record s { reach = reach; table = loss_marked reach s.moment s.table; net = net }

-- nothing was published, and no word was taken
pub record IsRefreshOfNothing (r a : Running) : Type 0 where
  pub published : IsPublished r.state
  pub reach : List NodeId
  pub is_reach : IsReach r.state reach
  pub net : List ℕ
  pub gives : a.state ≡ seen_again reach net r.state
  pub done : a.done ≡ r.done

nothing_came_published : (r a : Running) → IsPublishing r a → CameToNothing a → IsPublished r.state × (a ≡ r)
nothing_came_published r a (inl (published, is)) came_none = (published, is)
nothing_came_published r a (inr (other, is)) came_none =
    absurd (some_after r.done.published _ [] (sym (ap (λ (x : Running). x.done.published) is.gives) ∙ ap (λ (d : Done). d.published) came_none))

abbrev reaching_to : List NodeId → Running → Running
reaching_to reach r = record r { state = record r.state { reach = reach; table = loss_marked reach r.state.moment r.state.table } }

pub refresh_of_nothing : (r a : Running) → IsRefresh r a → CameToNothing a → IsRefreshOfNothing r a
refresh_of_nothing r a (published, publishes, (reached, reaches, hashes)) came_none =
    let (net, hashed) = nothing_came_hashing reached a hashes came_none in
    let then : a.done ≡ reached.done = ap (λ (x : Running). x.done) hashed in
    let before : reached.done ≡ published.done = ap (λ (x : Running). x.done) reaches.gives in
    let (was, same) = nothing_came_published r published publishes (sym before ∙ sym then ∙ came_none) in
    let whole : a ≡ with_net net (reaching_to reaches.reach r) = hashed ∙ ap (with_net net) (reaches.gives ∙ ap (reaching_to reaches.reach) same) in
    record {
      published = was;
      reach = reaches.reach;
      is_reach = subst (λ (x : Running). IsReach x.state reaches.reach) same reaches.is_reach;
      net = net;
      gives = ap (λ (x : Running). x.state) whole;
      done = ap (λ (x : Running). x.done) whole;
    }
