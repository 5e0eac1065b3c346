-- A refresh, and the words that its steps take.
use Rattle.hn_base.proofs.Names.{◌≡◌, ◌≢◌, ◌∙◌, ℕ, List, [], ◌∷◌, ◌++◌, Option, Some, ap, refl, sym, subst, inl, inr, Drew}
use Rattle.hn_rules.proofs.Names.{EpId, Interval, interval_from, Port, Running, PlainData, IsOwnData, port_at, AtPort, Ran, with_words, with_port, own_items, IsPortReset, Publishes}
use Rattle.hn_rules.proofs.Names.{IsPublishing, IsReaching, IsHashing, IsRefresh}
use Rattle.hn_rules.proofs.AtPorts.{at_port}

-- what was entered, with the present number and own node data, is a publication
pub publishes : (number : ℕ) (body : List ℕ) (own : PlainData) (before entered : Running)
    → IsOwnData own → own.items ≡ own_items before.state → own.born ≡ before.state.moment → body ≡ own.body
    → entered ≡ record before { done = record before.done { published = before.done.published ++ record { id = before.state.id; number = number; body = body } ∷ [] } }
    → Publishes number before (record entered { state = record entered.state { number = number; own = own } })
publishes number body own before entered is_data items present same is = record {
  own = own;
  data_is = is_data;
  items_are = items;
  born_is = present;
  gives = rw (is, same) refl;
}

-- a publication takes no word
pub publishing_words : (before after : Running) → IsPublishing before after → after.done.words ≡ before.done.words
publishing_words before after (inl (_, same)) = ap (λ (r : Running). r.done.words) same
publishing_words before after (inr (_, published)) = ap (λ (r : Running). r.done.words) published.gives

-- a refresh in three steps
pub ran_refresh : (told told_after : Option (ℕ → ℕ)) (before published reached after : Running) → IsPublishing before published
    → IsReaching published reached → Ran IsHashing told told_after reached after → Ran IsRefresh told told_after before after
ran_refresh told told_after before published reached after publishing reaching hashing =
    let words : reached.done.words ≡ before.done.words = ap (λ (r : Running). r.done.words) reaching.gives ∙ publishing_words before published publishing in
    record {
      holds = (published, publishing, (reached, reaching, hashing.holds));
      drew = subst (λ (ws : List ℕ). Drew told ws told_after after.done.words) words hashing.drew;
    }

-- Trickle of an endpoint is reset
pub reset_one : (at : EpId) (port copy : Port) (trickle : Interval) (word now : ℕ) (told told_after : Option (ℕ → ℕ)) (ports : List Port) (before between after : Running)
    → Some port ≡ port_at at ports → ports ≡ before.state.ports → port.trickle.len ≢ 200 → copy ≡ port → now ≡ before.state.moment → trickle ≡ interval_from now 200 word
    → between ≡ with_words (word ∷ []) before → Drew told before.done.words told_after between.done.words
    → after ≡ with_port (record copy { trickle = trickle }) between
    → Ran (AtPort at IsPortReset) told told_after before after
reset_one at port copy trickle word now told told_after ports before between after here same_ports long same present began took drew gives =
    let whole : after ≡ with_words (word ∷ []) (with_port (record port { trickle = interval_from before.state.moment 200 word }) before) = cc in
    record {
      holds = at_port at port ports IsPortReset before after here same_ports (inr (long, (word, whole)));
      drew = subst (λ (ws : List ℕ). Drew told before.done.words told_after ws) (ap (λ (r : Running). r.done.words) (sym gives)) drew;
    }
