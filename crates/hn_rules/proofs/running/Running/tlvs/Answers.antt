use Rattle.std.proofs.lemmas.Result.{IfErr-at_err}
use Rattle.hn_rules.proofs.Names.{IsTlvAt, plain, Ran, IsTlvs}
use Rattle.hn_tlv.specs.Grammar.{FirstFault}
use Rattle.hn_rules.proofs.Arriving.{read_more}
use Rattle.hn_rules.proofs.running.Running.tlvs.Goals as goal

pub loop-tlv-preserved : goal.loop-tlv-preserved
loop-tlv-preserved g c =
    let here : IsTlvAt c.args.bytes.now c.loop-tlv.place (plain c.in-Ok-Some.tlv) c.in-Ok-Some.after = rw c.in-Ok-Some.field-0-is at c.in-Ok-Some.ensures.found in
    record {
      refreshed = c.in_ok-tlv_and_refresh.ensures.fresh.refreshed;
      fresh = λ _. c.in_ok-tlv_and_refresh.ensures.fresh;
      read = read_more c.args.from.now c.args.bytes.now c.loop-tlv.place c.in-Ok-Some.after (plain c.in-Ok-Some.tlv) _ _ _
          c.args.self.now c.loop-tlv.self c.tlv_and_refresh.new.self
          here (λ ts list. c.list_grows.ensures c.args.bytes.now c.loop-tlv.place c.in-Ok-Some.after
          (plain c.in-Ok-Some.tlv) ts list here) c.loop-tlv.invariant.read c.in_ok-tlv_and_refresh.ensures.ran;
    }

pub returns-in_default-2 : goal.returns-in_default-2
returns-in_default-2 g c tlvs list =
    let fault = c.in_default.field-0 in
    let found = IfErr-at_err _ c.in_default.is c.next.ensures.fault in
    let read = c.loop-tlv.invariant.read in
    let first : FirstFault c.args.bytes.now fault.place fault.why =
    c.fault_after_list.ensures c.args.bytes.now c.loop-tlv.place fault.place fault.why read.seen read.within read.list found.0 found.1 in
    absurd {A = Ran (IsTlvs c.args.from.now tlvs) (g.D.Draw.words c.args.draw.now) (g.D.Draw.words c.loop-tlv.draw) c.args.self.now c.loop-tlv.self}
    (c.first_fault_is_unique.ensures.no_list c.args.bytes.now fault.place fault.why first (tlvs, list))
