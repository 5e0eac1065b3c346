use Rattle.hn_base.proofs.Names.{◌≡◌, ◌∙◌, ◌<◌, ℕ, List, [], ◌∷◌, ◌++◌, length, get_or, Contains, sym, ap, subst, arith, inl, inr}
use Rattle.std.specs.Prelude.{slice_index}
use Rattle.hn_rules.specs.declared.state.State.{State}
use Rattle.hn_kept.specs.declared.preferred.Preferred.{Preferred}
use Rattle.hn_kept.specs.Choosing.{PlainAsked, plain_asked, EventComesTo, MayBePassed, IsFirstHelped, IsBestWord, AreBest}
use Rattle.hn_kept.specs.Preferred.{word_of}
use Rattle.hn_kept.specs.Words.{listed_word, AreDrawn}
use Rattle.hn_kept.proofs.Choosings.{none_chosen, one_chosen, drawn_one, best_helped, best_own, own_comes, chosen_of, of_some, of_none}
use Rattle.hn_kept.proofs.DrawnWords.{none_drawn}
use Rattle.hn_kept.proofs.choosing.Asked.choose.Goals as goal
use Rattle.hn_kept.proofs.choosing.Asked.choose.Goals.{then-loop-own-test+else-misses, else-loop-own-test}

pub loop-own-init : goal.loop-own-init
loop-own-init c =
    let ask : PlainAsked = plain_asked c.args.self.now in
    record {
      comes = subst (λ (ls : List ℕ). EventComesTo ask (listed_word ls ask.words) c.in_ok-words.words c.come.new.seen) (sym c.new-chosen.ensures) c.in_ok-words.ensures;
      drawn = subst (AreDrawn ask.preferred ask.words) (sym c.new-chosen.ensures) (none_drawn ask.preferred ask.words);
      best = subst (AreBest ask) (sym c.new-chosen.ensures) (none_chosen ask);
    }

pub loop-own-preserved-in-Some : goal.loop-own-preserved-in-Some
loop-own-preserved-in-Some c =
    let ask : PlainAsked = plain_asked c.args.self.now in
    let chosen : List ℕ = c.loop-own.chosen in
    let front : List ℕ = c.as_slice.result.now in
    let word : ℕ = c.in-Some.word in
    let others : List ℕ = c.in-Some.others in
    let push : c.push.new.self ≡ chosen ++ word ∷ [] = c.in_ok-push-in-Some.ensures.ok in
    let first = of_some (λ (next : ℕ × List ℕ). (f : Preferred) × IsFirstHelped ask front f × (next.0 ≡ word_of f)) c.in_ok-word.field-0 (word, others) c.in-Some.is c.in_ok-word.ensures.first in
    let comes = of_some (λ (next : ℕ × List ℕ). EventComesTo ask (listed_word (front ++ next.0 ∷ []) ask.words) next.1 c.first_helped.new.other)
    c.in_ok-word.field-0 (word, others) c.in-Some.is c.in_ok-word.ensures.comes in
    let best : IsBestWord ask chosen word = subst (λ (ws : List ℕ). IsBestWord ask ws word) c.as_slice.ensures (best_helped ask front word first) in
    record {
      comes = subst (λ (ls : List ℕ). EventComesTo ask (listed_word ls ask.words) others c.swap.new.x) (ap (λ (ws : List ℕ). ws ++ word ∷ []) c.as_slice.ensures ∙ sym push)
          (subst (λ (s : State). EventComesTo ask (listed_word (front ++ word ∷ []) ask.words) others s) (sym c.swap.ensures.x_after) comes);
      drawn = subst (AreDrawn ask.preferred ask.words) (sym push) (drawn_one ask chosen word c.loop-own.invariant.drawn best);
      best = subst (AreBest ask) (sym push) (one_chosen ask chosen word c.loop-own.invariant.best best);
    }

pub loop-own-preserved : goal.loop-own-preserved
loop-own-preserved c =
    let ask : PlainAsked = plain_asked c.args.self.now in
    let chosen : List ℕ = c.loop-own.chosen in
    let words : List ℕ = c.loop-own.words in
    let word : ℕ = slice_index c.as_slice-in-None.result.now c.len-in-None.result in
    let push : c.push-in-None.new.self ≡ chosen ++ word ∷ [] = c.in_ok-push-in-None.ensures.ok in
    let at : word ≡ get_or words (length chosen) 0 = λ i. slice_index (c.as_slice-in-None.ensures i) (c.len-in-None.ensures i) in
    let many = c.len.ensures in
    let all = c.len-in-loop-own.ensures in
    let more = c.loop-own-test.true in
    let within : length chosen < length words = omega (arith, many, all, more) in
    let none : (f : Preferred) → Contains ask.preferred f → MayBePassed ask chosen f =
    subst (λ (ws : List ℕ). (f : Preferred) → Contains ask.preferred f → MayBePassed ask ws f) c.as_slice.ensures
    (of_none ((f : Preferred) → Contains ask.preferred f → MayBePassed ask c.as_slice.result.now f) c.in_ok-word.field-0 c.in-None.is c.in_ok-word.ensures.none) in
    let best : IsBestWord ask chosen word = best_own ask chosen words word c.loop-own.invariant.comes.begins within at none in
    record {
      comes = own_comes ask chosen words c.push-in-None.new.self word c.loop-own.own push at within c.loop-own.invariant.comes;
      drawn = subst (AreDrawn ask.preferred ask.words) (sym push) (drawn_one ask chosen word c.loop-own.invariant.drawn best);
      best = subst (AreBest ask) (sym push) (one_chosen ask chosen word c.loop-own.invariant.best best);
    }

pub returns : goal.returns
returns c =
    let ask : PlainAsked = plain_asked c.args.self.now in
    let many = c.len.ensures in
    let all = c.len-in-loop-own.ensures in
    chosen_of c.one_result.ensures ask c.loop-own.chosen c.loop-own.words c.loop-own.own c.loop-own.invariant.comes c.loop-own.invariant.drawn c.loop-own.invariant.best
    (elim c.loop-own-test.branch [
      | then-loop-own-test+else-misses w ↦ inr (sym w.misses.ensures ∙ w.if-misses.false)
      | else-loop-own-test w ↦ let past = w.loop-own-test.false in inl (omega (arith, many, all, past))
    ])
