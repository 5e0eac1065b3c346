use Rattle.hn_base.proofs.Names.{◌∙◌, ap}
use Rattle.hn_rules.proofs.Names.{Port, plain_view, posts_of}
use Rattle.std.specs.Prelude.{List}
use Rattle.hn_rules.proofs.AssignPairs.{are_asked}
use Rattle.hn_rules.proofs.state.State.wishes_in.Goals as goal

pub returns : goal.returns
returns c =
    let s = c.args.self.now in
    let same = c.as_slice.ensures.value ∙ c.in_ok-posts.ensures ∙ ap (λ (ports : List Port). posts_of s.private ports) c.get.ensures in
    are_asked s (plain_view c.args.view.now) c.args.usable.now c.as_slice.result.now c.in_ok-wishes.wishes c.as_slice-kept.ensures.wishes c.requires.view same c.in_ok-wishes.ensures
