use Rattle.hn_base.proofs.Names.{◌≡◌, ◌∙◌, List, Some, ap, sym, slice_get, slice_set}
use Rattle.hn_world.proofs.Names.{State, Member, with_beside}
use Rattle.hn_world.specs.declared.routed.Beside.{Beside}
use Rattle.hn_world.specs.declared.routed.Beside.TheVariants.{Nothing, Attachments, Runs}
use Rattle.hn_world.proofs.ElementAtPlace.{read_at, one_there}
use Rattle.hn_world.proofs.member.Members.commit.Goals.{in-Nothing, in-Attachments, in-Runs}
use Rattle.hn_world.proofs.member.Members.commit.Goals as goal

-- what changes beside a router and its next state may come in either order
either_order : (beside : Beside) (m changed : Member) (next state : State) → changed ≡ with_beside beside m → next ≡ state
    → record changed { router = next } ≡ with_beside beside (record m { router = state })
either_order Nothing m changed next state is same = λ i. record (is i) { router = same i }
either_order (Attachments attachments) m changed next state is same = λ i. record (is i) { router = same i }
either_order Runs m changed next state is same = λ i. record (is i) { router = same i }

pub returns-clause-members : goal.returns-clause-members
returns-clause-members c = λ m at.
    let xs = c.self.inside.items.items in
    let ys = c.args.self.now in
    let place = c.args.place in
    let read = c.index_mut-member.result.now in
    let view : xs ≡ ys = c.self.view_is in
    let here : slice_get ys place ≡ Some read = read_at xs ys place read view c.requires c.index_mut-member.ensures.value in
    let changed : c.match-beside.member ≡ with_beside c.args.beside read = elim c.match-beside.branch [
      | in-Nothing w ↦ w.member-is ∙ ap (λ (b : Beside). with_beside b read) (sym w.in-Nothing.is)
      | in-Attachments w ↦ w.member-is ∙ ap (λ (b : Beside). with_beside b read) (sym w.in-Attachments.is)
      | in-Runs w ↦ w.member-is ∙ ap (λ (b : Beside). with_beside b read) (sym w.in-Runs.is)
    ] in
    ap (λ (zs : List Member). slice_set zs place (record c.match-beside.member { router = c.commit.new.self })) view
    ∙ ap (slice_set ys place)
    (either_order c.args.beside m c.match-beside.member c.commit.new.self c.args.plan.state (changed ∙ ap (with_beside c.args.beside) (one_there ys place read m here at)) c.commit.ensures.router)
