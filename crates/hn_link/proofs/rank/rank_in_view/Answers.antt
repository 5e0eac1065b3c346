use Rattle.hn_base.proofs.Names.{◌≡◌, ℕ, ◌<◌, ◌≤◌, sym, ◌∙◌, ap, subst, get_or, arith, slice_get-get_or, none-some, same_Some}
use Rattle.hn_link.proofs.Names.{PlainCaps, plain_view, contains_at, part_is, rank_of}
use Rattle.hn_typed.specs.View.{plain_caps}
use Rattle.hn_link.specs.Election.{priority_of}
use Rattle.hn_link.proofs.InView.{version_there}
use Rattle.hn_link.proofs.rank.rank_in_view.Goals as goal

pub returns-in_err-caps-clause-absent : goal.returns-in_err-caps-clause-absent
returns-in_err-caps-clause-absent c =
    let view = plain_view c.args.view.now in
    let place = c.in_ok-place.place in
    let x = get_or view.nodes place c.index-view-place.result in
    let at = slice_get-get_or view.nodes place c.index-view-place.result c.in_ok-place.ensures.within in
    rw c.from_residual-in_err-caps.ensures (λ caps serves.
    let v = version_there view c.args.letter c.args.node caps place x c.requires.ascending at c.in_ok-place.ensures.found serves in
    none-some caps (c.in_err-caps.ensures.each v.0 v.1 ∙ v.2))

pub returns-then-rank-gt0-clause-found : goal.returns-then-rank-gt0-clause-found
returns-then-rank-gt0-clause-found c =
    let view = plain_view c.args.view.now in
    let place = c.in_ok-place.place in
    let x = get_or view.nodes place c.index-view-place.result in
    let at = slice_get-get_or view.nodes place c.index-view-place.result c.in_ok-place.ensures.within in
    let same : x.id.0 ≡ c.args.node.0 = part_is (λ n. n.id.0) view.nodes place c.args.node.0 x at c.in_ok-place.ensures.found in
    let said = c.in_ok-caps.ensures.some in
    let is = c.rank_with-rank.ensures in
    record {
      caps = plain_caps c.in_ok-caps.caps;
      serves = record {
        node = x;
        there = contains_at view.nodes place x at;
        is_it = ap (λ n. record { 0 = n }) same;
        version = (said.0, said.1, sym said.2);
        offers = subst (λ (n : ℕ). 0 < n) (ap (λ r. r.priority) is) c.if-rank-gt0.true;
      };
      is_it = is;
    }

pub returns-then-rank-gt0-clause-each : goal.returns-then-rank-gt0-clause-each
returns-then-rank-gt0-clause-each c caps serves =
    let view = plain_view c.args.view.now in
    let place = c.in_ok-place.place in
    let x = get_or view.nodes place c.index-view-place.result in
    let at = slice_get-get_or view.nodes place c.index-view-place.result c.in_ok-place.ensures.within in
    let v = version_there view c.args.letter c.args.node caps place x c.requires.ascending at c.in_ok-place.ensures.found serves in
    let one : plain_caps c.in_ok-caps.caps ≡ caps = same_Some (plain_caps c.in_ok-caps.caps) caps (c.in_ok-caps.ensures.each v.0 v.1 ∙ v.2) in
    c.rank_with-rank.ensures ∙ ap (λ k. rank_of c.args.letter k c.args.node) one

pub returns-else-rank-gt0-clause-absent : goal.returns-else-rank-gt0-clause-absent
returns-else-rank-gt0-clause-absent c caps serves =
    let view = plain_view c.args.view.now in
    let place = c.in_ok-place.place in
    let x = get_or view.nodes place c.index-view-place.result in
    let at = slice_get-get_or view.nodes place c.index-view-place.result c.in_ok-place.ensures.within in
    let v = version_there view c.args.letter c.args.node caps place x c.requires.ascending at c.in_ok-place.ensures.found serves in
    let one : plain_caps c.in_ok-caps.caps ≡ caps = same_Some (plain_caps c.in_ok-caps.caps) caps (c.in_ok-caps.ensures.each v.0 v.1 ∙ v.2) in
    let offers : 0 < priority_of c.args.letter (plain_caps c.in_ok-caps.caps) = subst (λ (k : PlainCaps). 0 < priority_of c.args.letter k) (sym one) serves.offers in
    let none : priority_of c.args.letter (plain_caps c.in_ok-caps.caps) ≤ 0 = subst (λ (n : ℕ). n ≤ 0) (ap (λ r. r.priority) c.rank_with-rank.ensures) c.if-rank-gt0.false in
    absurd (omega (arith, offers, none))
