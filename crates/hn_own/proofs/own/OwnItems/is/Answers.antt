use Rattle.hn_base.proofs.Names.{◌≡◌, Decides, refl}
use Rattle.std.proofs.lemmas.Bool.Decides.{Decides-at}
use Rattle.hn_own.proofs.OwnSame.{caps_decided, link_decided, own_decided, assigned_decided, address_decided, lists_decided, then_next, else_false, items_decided}
use Rattle.hn_own.proofs.own.OwnItems.is.Goals as goal
use Rattle.hn_own.proofs.own.OwnItems.is.Goals.{then-eq, else-eq, then-eq-2, else-eq-2, then-eq-3, else-eq-3}

pub returns-then-eq-4 : goal.returns-then-eq-4
returns-then-eq-4 c =
    let a = c.args.self.now in
    let b = c.args.other.now in
    let caps = Decides-at _ _ c.eq.ensures (caps_decided a.caps b.caps) in
    let links : Decides c.if-eq.value ((a.caps ≡ b.caps) × (a.links ≡ b.links)) =
    elim c.if-eq.branch [
      | then-eq w ↦
          then_next _ _ _ caps (lists_decided link_decided a.links b.links _ _ _ w.eq-then-eq.ensures w.as_slice.ensures w.as_slice-then-eq.ensures) w.if-eq.true w.value-is
      | else-eq w ↦ else_false (a.links ≡ b.links) _ _ caps w.if-eq.false w.value-is
    ]
    in
    let delegated : Decides c.if-eq-2.value (((a.caps ≡ b.caps) × (a.links ≡ b.links)) × (a.delegated ≡ b.delegated)) =
    elim c.if-eq-2.branch [
      | then-eq-2 w ↦
          then_next _ _ _ links (lists_decided own_decided a.delegated b.delegated _ _ _ w.eq-then-eq-2.ensures w.as_slice-then-eq-2.ensures w.as_slice-then-eq-2-2.ensures) w.if-eq-2.true w.value-is
      | else-eq-2 w ↦ else_false (a.delegated ≡ b.delegated) _ _ links w.if-eq-2.false w.value-is
    ]
    in
    let assigned : Decides c.if-eq-3.value ((((a.caps ≡ b.caps) × (a.links ≡ b.links)) × (a.delegated ≡ b.delegated)) × (a.assigned ≡ b.assigned)) =
    elim c.if-eq-3.branch [
      | then-eq-3 w ↦
          then_next _ _ _ delegated (lists_decided assigned_decided a.assigned b.assigned _ _ _ w.eq-then-eq-3.ensures w.as_slice-then-eq-3.ensures w.as_slice-then-eq-3-2.ensures)
          w.if-eq-3.true w.value-is
      | else-eq-3 w ↦ else_false (a.assigned ≡ b.assigned) _ _ delegated w.if-eq-3.false w.value-is
    ]
    in
    let addresses = lists_decided address_decided a.addresses b.addresses _ _ _ c.eq-then-eq-4.ensures c.as_slice-then-eq-4.ensures c.as_slice-then-eq-4-2.ensures in
    items_decided a b _ (then_next _ _ _ assigned addresses c.if-eq-4.true refl)

pub returns-else-eq-4 : goal.returns-else-eq-4
returns-else-eq-4 c =
    let a = c.args.self.now in
    let b = c.args.other.now in
    let caps = Decides-at _ _ c.eq.ensures (caps_decided a.caps b.caps) in
    let links : Decides c.if-eq.value ((a.caps ≡ b.caps) × (a.links ≡ b.links)) =
    elim c.if-eq.branch [
      | then-eq w ↦
          then_next _ _ _ caps (lists_decided link_decided a.links b.links _ _ _ w.eq-then-eq.ensures w.as_slice.ensures w.as_slice-then-eq.ensures) w.if-eq.true w.value-is
      | else-eq w ↦ else_false (a.links ≡ b.links) _ _ caps w.if-eq.false w.value-is
    ]
    in
    let delegated : Decides c.if-eq-2.value (((a.caps ≡ b.caps) × (a.links ≡ b.links)) × (a.delegated ≡ b.delegated)) =
    elim c.if-eq-2.branch [
      | then-eq-2 w ↦
          then_next _ _ _ links (lists_decided own_decided a.delegated b.delegated _ _ _ w.eq-then-eq-2.ensures w.as_slice-then-eq-2.ensures w.as_slice-then-eq-2-2.ensures) w.if-eq-2.true w.value-is
      | else-eq-2 w ↦ else_false (a.delegated ≡ b.delegated) _ _ links w.if-eq-2.false w.value-is
    ]
    in
    let assigned : Decides c.if-eq-3.value ((((a.caps ≡ b.caps) × (a.links ≡ b.links)) × (a.delegated ≡ b.delegated)) × (a.assigned ≡ b.assigned)) =
    elim c.if-eq-3.branch [
      | then-eq-3 w ↦
          then_next _ _ _ delegated (lists_decided assigned_decided a.assigned b.assigned _ _ _ w.eq-then-eq-3.ensures w.as_slice-then-eq-3.ensures w.as_slice-then-eq-3-2.ensures)
          w.if-eq-3.true w.value-is
      | else-eq-3 w ↦ else_false (a.assigned ≡ b.assigned) _ _ delegated w.if-eq-3.false w.value-is
    ]
    in
    items_decided a b _ (else_false (a.addresses ≡ b.addresses) _ _ assigned c.if-eq-4.false refl)
