use Rattle.hn_base.proofs.Names.{rules, YieldsList-from_slice}
use borrow.Author.Tests.{tests}
use Rattle.std.proofs.lemmas.Iterator.Consumers.{YieldsList-from_filter, nth_from_yields_List}
use Rattle.hn_wire.proofs.mem_wire.datagram_at.Goals as goal

pub returns : goal.returns
returns c =
    let yields = YieldsList-from_filter _ _ (YieldsList-from_slice c.args.waiting.now cc) c.filter.ensures.closure (λ x r q k. search (rules, tests)) in
    nth_from_yields_List c.nth.result c.nth.new.self c.args.place c.nth.ensures.ran yields
