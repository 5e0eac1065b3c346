use Rattle.hn_base.proofs.Names.{None, refl, sym, ◌∙◌}
use Rattle.hn_data.specs.View.{plain_view}
use Rattle.hn_router.proofs.Elections.{nobody_gives}
use Rattle.hn_router.proofs.router.Router.is_managed.Goals as goal

pub returns-then-not-are_addresses_given : goal.returns-then-not-are_addresses_given
returns-then-not-are_addresses_given c = (
  None,
  nobody_gives c.args.self.now c.args.e (plain_view c.args.view.now) c.common_link_exists.ensures c.requires
      (c.view_is_a_network.ensures c.args.self.now c.is_router.ensures)
      (λ some. absurd (let yes = c.are_addresses_given.ensures.1 some in let clash = sym c.if-not-are_addresses_given.true ∙ yes in cc)),
  refl,
)

pub returns : goal.returns
returns c = (c.in_ok-elected_in.field-0, c.in_ok-elected_in.ensures, c.is_some.ensures)
