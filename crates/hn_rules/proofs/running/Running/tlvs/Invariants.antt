use Rattle.hn_base.proofs.Names.{◌≡◌, ◌-◌, true, length}
use Rattle.hn_rules.proofs.Names.{IsRefreshed, IsJustRefreshed}
use Rattle.hn_rules.proofs.Arriving.{HasRead}
use Rattle.hn_rules.proofs.running.Running.tlvs.Given as goal

abbrev pub invariant-loop-tlv : goal.invariant-loop-tlv
invariant-loop-tlv g l = record {
  refreshed : IsRefreshed l.self.state;
  fresh : l.fresh ≡ true → IsJustRefreshed l.self.state;
  read : HasRead l.from l.bytes l.place (g.D.Draw.words l.fn.draw) (g.D.Draw.words l.draw) l.fn.self l.self;
}

abbrev pub decreases-loop-tlv : goal.decreases-loop-tlv
decreases-loop-tlv g l = length l.bytes - l.place
