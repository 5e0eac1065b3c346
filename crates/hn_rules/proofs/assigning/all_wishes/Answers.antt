use Rattle.hn_base.proofs.Names.{◌∙◌, List, ap, subst, sym, All}
use Rattle.hn_rules.proofs.Names.{EpId, Wish, plain_view, HasCommonLink, endpoints_at}
use Rattle.hn_rules.proofs.WishLists.{HasAt, HasBelow, below_none, below_next, below_all, below_are}
use Rattle.hn_rules.proofs.assigning.all_wishes.Goals as goal

pub loop-place-init : goal.loop-place-init
loop-place-init c =
    subst (λ (wishes : List Wish). HasBelow c.args.private.now (plain_view c.args.view.now) c.args.usable.now c.args.endpoints.now 0 wishes) (sym c.new-wishes.ensures)
    (below_none c.args.private.now (plain_view c.args.view.now) c.args.usable.now c.args.endpoints.now)

pub add_wishes-requires : goal.add_wishes-requires
add_wishes-requires c = record {
  there = c.loop-place-test.true;
  usable = c.requires.usable;
  common = subst (All (HasCommonLink (plain_view c.args.view.now))) (sym c.deref.ensures.value) c.in_ok-posts.ensures.common;
  asked = below_are c.args.private.now (plain_view c.args.view.now) c.args.usable.now c.args.endpoints.now c.loop-place.place c.loop-place.wishes c.loop-place.invariant;
}

pub loop-place-preserved : goal.loop-place-preserved
loop-place-preserved c = below_next c.args.private.now (plain_view c.args.view.now) c.args.usable.now c.args.endpoints.now c.loop-place.place
    c.loop-place.wishes c.add_wishes.new.wishes c.loop-place.invariant
    (subst (λ (es : List EpId). HasAt c.args.private.now (plain_view c.args.view.now) c.args.usable.now c.loop-place.place es c.loop-place.wishes c.add_wishes.new.wishes)
    (ap endpoints_at c.deref.ensures.value ∙ c.in_ok-posts.ensures.endpoints) c.in_ok-add_wishes.ensures)

pub returns : goal.returns
returns c = below_all c.args.private.now (plain_view c.args.view.now) c.args.usable.now c.args.endpoints.now c.loop-place.place c.loop-place.wishes c.loop-place-test.false c.loop-place.invariant
