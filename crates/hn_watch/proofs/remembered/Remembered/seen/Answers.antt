use Rattle.hn_base.proofs.Names.{◌≡◌, ◌∙◌, List, Some, None, map, Contains, sym, ap, subst, rules, filter_map, option_map, deref_pair, append-nil}
use Rattle.hn_watch.proofs.Names.{Seen, AreSeen, seen_of}
use Rattle.std.proofs.lemmas.Map.Iter.{iter_end}
use Rattle.hn_watch.proofs.SeenLemmas.{seen_at, seen_next, are_seen}
use Rattle.hn_watch.proofs.remembered.Remembered.seen.Goals as goal

pub loop-kept-preserved-in-Continue-1 : goal.loop-kept-preserved-in-Continue-1
loop-kept-preserved-in-Continue-1 c =
    let places = c.args.self.now.claims.entries in
    let is = ap (option_map (seen_of places)) c.in-Some-kept.is ∙ ap Some (sym c.seen_of.ensures.seen) in
    record {
      so_far = c.in_ok-push.ensures.ok ∙ seen_next places deref_pair c.loop-kept.yielded (c.in-Some.field-0-0, c.in-Some.kept) c.loop-kept.seen (Some c.seen_of.result) c.loop-kept.invariant.so_far is;
      ordered = λ seen there. c.seen_of.ensures.ordered;
    }

pub loop-kept-preserved : goal.loop-kept-preserved
loop-kept-preserved c =
    let places = c.args.self.now.claims.entries in
    let is = ap (option_map (seen_of places)) c.in_default.is in
    record {
      so_far = sym (append-nil c.loop-kept.seen) ∙ seen_next places deref_pair c.loop-kept.yielded (c.in-Some.field-0-0, c.in-Some.kept) c.loop-kept.seen None c.loop-kept.invariant.so_far is;
      ordered = c.loop-kept.invariant.ordered;
    }

pub returns : goal.returns
returns c = λ shown fits held.
    let whole : map deref_pair c.loop-kept.yielded ≡ c.args.self.now.kept.entries = search (rules, iter_end) in
    let all = c.loop-kept.invariant.so_far ∙ ap (filter_map (seen_at c.args.self.now.claims.entries)) whole in
    let ordered = λ (seen : Seen) (there : Contains (filter_map (seen_at c.args.self.now.claims.entries) c.args.self.now.kept.entries) seen).
    c.loop-kept.invariant.ordered seen (subst (λ (xs : List Seen). Contains xs seen) (sym all) there) in
    subst (AreSeen shown) (sym all) (are_seen shown fits c.args.self.now held c.into_iter-kept-iterator.ensures.into_iter_gives.5 ordered)
