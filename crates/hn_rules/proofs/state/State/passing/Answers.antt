use Rattle.hn_base.proofs.Names.{◌∙◌, sym, ap, subst}
use Rattle.hn_rules.proofs.Names.{ArePorts, port_at}
use Rattle.hn_rules.proofs.Passings.{IsPassing, heard_passes, other_passes}
use Rattle.hn_rules.proofs.RefreshChangesNothing.{undue_refreshed}
use Rattle.hn_rules.proofs.Refreshes.{refreshed-later}
use Rattle.hn_rules.proofs.state.State.passing.Goals as goal

pub returns-then-same_hash : goal.returns-then-same_hash
returns-then-same_hash c =
    let s = c.args.self.now in
    let from = c.args.from.now in
    let bytes = c.args.bytes.now in
    let now = c.args.now in
    let update = c.in_ok-node.field-0 in
    let port = c.in_ok-port.port.now in
    let there = c.get-ports.ensures in
    let passes : IsPassing from bytes now s update.node update.endpoint update.hash port = record {
      multicast = c.if-not-from.false;
      near = c.link_local.ensures.0 c.if-not-link_local.false;
      ports = subst ArePorts there c.as_slice-kept.ensures.kept;
      found = c.in_ok-port.ensures ∙ ap (port_at from.endpoint) there;
      update = c.in_ok-node.ensures;
      numbered = c.names_alone.ensures.numbered c.if-not-names_alone.false;
      other = c.names_alone.ensures.other c.if-not-names_alone.false;
      stays = c.names_alone.ensures.stays c.if-not-names_alone.false;
      fresh = undue_refreshed c.reachability_stays.ensures (record s { moment = now }) (refreshed-later now s c.requires.not_before c.requires.refreshed)
          (c.is_refresh_undue.ensures.young c.if-not-is_refresh_undue.false) (c.is_refresh_undue.ensures.leads c.if-not-is_refresh_undue.false);
    } in
    heard_passes from bytes now s update.node update.endpoint update.hash port passes (sym c.same_hash.ensures.value ∙ c.if-same_hash.true)

pub returns : goal.returns
returns c =
    let s = c.args.self.now in
    let from = c.args.from.now in
    let bytes = c.args.bytes.now in
    let now = c.args.now in
    let update = c.in_ok-node.field-0 in
    let port = c.in_ok-port.port.now in
    let there = c.get-ports.ensures in
    let passes : IsPassing from bytes now s update.node update.endpoint update.hash port = record {
      multicast = c.if-not-from.false;
      near = c.link_local.ensures.0 c.if-not-link_local.false;
      ports = subst ArePorts there c.as_slice-kept.ensures.kept;
      found = c.in_ok-port.ensures ∙ ap (port_at from.endpoint) there;
      update = c.in_ok-node.ensures;
      numbered = c.names_alone.ensures.numbered c.if-not-names_alone.false;
      other = c.names_alone.ensures.other c.if-not-names_alone.false;
      stays = c.names_alone.ensures.stays c.if-not-names_alone.false;
      fresh = undue_refreshed c.reachability_stays.ensures (record s { moment = now }) (refreshed-later now s c.requires.not_before c.requires.refreshed)
          (c.is_refresh_undue.ensures.young c.if-not-is_refresh_undue.false) (c.is_refresh_undue.ensures.leads c.if-not-is_refresh_undue.false);
    } in
    other_passes from bytes now s update.node update.endpoint update.hash port passes (sym c.same_hash.ensures.value ∙ c.if-same_hash.false)
    (sym c.may_ask.ensures ∙ c.if-may_ask.false)
