use Rattle.hn_data.specs.View.{plain_view}
use Rattle.hn_router.proofs.Elections.{elected_at}
use Rattle.hn_router.proofs.router.Router.elected_in.Goals as goal

pub returns : goal.returns
returns c =
    elected_at c.args.self.now c.args.e c.args.letter (plain_view c.args.view.now) c.in_ok-common.common c.elected.result c.requires c.in_ok-common.ensures
    (rw (← c.as_slice.ensures) c.elected.ensures.found) (rw (← c.as_slice.ensures) c.elected.ensures.none)
