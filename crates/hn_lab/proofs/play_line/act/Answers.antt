use Rattle.hn_lab.proofs.Names.{stage_of}
use Rattle.hn_lab.proofs.LineEnds.{act_of}
use Rattle.hn_lab.proofs.play_line.act.Goals as goal

pub returns-in-Inject : goal.returns-in-Inject
returns-in-Inject c route text = act_of c.args.line _ c.inject.result (stage_of c.args.playing.now route text) (stage_of c.inject.new.playing route text) c.in-Inject.is (c.inject.ensures route text)

pub returns-in-Address : goal.returns-in-Address
returns-in-Address c route text =
    act_of c.args.line _ c.address.result (stage_of c.args.playing.now route text) (stage_of c.address.new.playing route text) c.in-Address.is (c.address.ensures route text)

pub returns-in-Ula : goal.returns-in-Ula
returns-in-Ula c route text = act_of c.args.line _ c.ula.result (stage_of c.args.playing.now route text) (stage_of c.ula.new.playing route text) c.in-Ula.is (c.ula.ensures route text)

pub returns-in-Sync : goal.returns-in-Sync
returns-in-Sync c route text = act_of c.args.line _ c.sync.result (stage_of c.args.playing.now route text) (stage_of c.sync.new.playing route text) c.in-Sync.is (c.sync.ensures route text)

pub returns-in-Radv : goal.returns-in-Radv
returns-in-Radv c route text = act_of c.args.line _ c.radv.result (stage_of c.args.playing.now route text) (stage_of c.radv.new.playing route text) c.in-Radv.is (c.radv.ensures route text)

pub returns-in-Solicit : goal.returns-in-Solicit
returns-in-Solicit c route text =
    act_of c.args.line _ c.solicit.result (stage_of c.args.playing.now route text) (stage_of c.solicit.new.playing route text) c.in-Solicit.is (c.solicit.ensures route text)
