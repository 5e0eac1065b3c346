use Rattle.hn_base.proofs.Names.{◌≡◌, List, ℕ, refl, string_bytes}
use Rattle.hn_table.proofs.Names.{Delegation, delegated_line, Unreachable}
use Rattle.hn_table.proofs.Orders.{adds_more, adds_all, adds_said}
use Rattle.hn_table.proofs.delegated_lines.push_unseen.Goals as goal

pub loop-d-preserved : goal.loop-d-preserved
loop-d-preserved c =
    let line : Delegation → List ℕ → Type 0 = λ d text. text ≡ delegated_line c.args.node.now.id d Unreachable in
    adds_more line c.delegations-d-items.result.now c.loop-d.d-index c.d-item.result (string_bytes c.args.text.now) (string_bytes c.loop-d.text) (string_bytes c.push_delegation.new.text)
    c.loop-d-test.true c.d-item.is c.loop-d.invariant (record {
      added = delegated_line c.args.node.now.id c.d-item.result Unreachable;
      is_added = refl;
      after_is = c.in_ok-push_delegation.ensures;
    })

pub returns : goal.returns
returns c =
    let line : Delegation → List ℕ → Type 0 = λ d text. text ≡ delegated_line c.args.node.now.id d Unreachable in
    let said = c.delegations-d-items.result.now in
    adds_said line c.args.node.now.stored.body said c.delegations-d-items.ensures.in_order c.delegations-d-items.ensures.exact (string_bytes c.args.text.now) (string_bytes c.loop-d.text)
    (adds_all line said c.loop-d.d-index (string_bytes c.args.text.now) (string_bytes c.loop-d.text) c.loop-d-test.false c.loop-d.invariant)
