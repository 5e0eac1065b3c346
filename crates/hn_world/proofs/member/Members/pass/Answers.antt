use Rattle.hn_base.proofs.Names.{◌≡◌, ◌∙◌, List, Some, ap, subst, slice_get, slice_set}
use Rattle.hn_world.proofs.Names.{Tick, Happened, nothing, at_moment, State, Member}
use Rattle.hn_world.proofs.ElementAtPlace.{read_at, one_there}
use Rattle.hn_world.proofs.member.Members.pass.Goals as goal

pub pass-requires-clause-not_before : goal.pass-requires-clause-not_before
pass-requires-clause-not_before c =
    let read = c.index_mut.result.now in
    c.requires.past read (read_at c.self.inside.items.items c.args.self.now c.args.place read c.self.view_is c.requires.there c.index_mut.ensures.value)

pub pass-requires-clause-undue : goal.pass-requires-clause-undue
pass-requires-clause-undue c =
    let read = c.index_mut.result.now in
    c.requires.undue read (read_at c.self.inside.items.items c.args.self.now c.args.place read c.self.view_is c.requires.there c.index_mut.ensures.value)

pub returns : goal.returns
returns c =
    let xs = c.self.inside.items.items in
    let ys = c.args.self.now in
    let place = c.args.place in
    let now = c.args.now in
    let read = c.index_mut.result.now in
    let view : xs ≡ ys = c.self.view_is in
    let here : slice_get ys place ≡ Some read = read_at xs ys place read view c.requires.there c.index_mut.ensures.value in
    record {
      members = λ m at.
          ap (λ (zs : List Member). slice_set zs place (record read { router = c.pass.new.self })) view
          ∙ ap (λ (s : State). slice_set ys place (record read { router = s })) c.pass.ensures.router
          ∙ ap (λ (n : Member). slice_set ys place (record n { router = at_moment now n.router })) (one_there ys place read m here at);
      happened = λ m at.
          subst (λ (n : Member). Happened now Tick n.router (at_moment now n.router) nothing) (one_there ys place read m here at)
          (subst (λ (s : State). Happened now Tick read.router s nothing) c.pass.ensures.router c.pass.ensures.happened);
    }
