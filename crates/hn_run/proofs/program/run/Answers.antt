use Rattle.hn_base.proofs.Names.{◌≡◌, map, refl, arith}
use Rattle.hn_run.proofs.Names.{world_parts, Lab, Udp, Node, Decode, Watch, Soak, IsNodeRun, PlainCall}
use Rattle.std.specs.String.{string_bytes}
use Rattle.hn_run.proofs.LeftOnWire.{leaves_of_base}
use Rattle.hn_run.proofs.OneCall.{as_called, call_in_range}
use Rattle.hn_run.proofs.StatusesOfWords.{ends_alike, without_wire}
use Rattle.hn_run.proofs.program.run.Goals as goal

pub returns-in-Some-Lab-clause-lab : goal.returns-in-Some-Lab-clause-lab
returns-in-Some-Lab-clause-lab g c asked good =
    rw (c.of_play.ensures.status, c.of_play.ensures.world) (c.lab.ensures.transcript refl (rw c.of_play.ensures.status at good))

pub returns-in-Some-Lab-clause-statuses : goal.returns-in-Some-Lab-clause-statuses
returns-in-Some-Lab-clause-statuses g c form asked =
    let words = map string_bytes c.args.words.now in
    let read = rw c.in-Some-Lab.field-0-is at c.in-Some-Lab.ensures.found in
    let ends = without_wire c.lab.result.status c.lab.ensures.statuses (c.lab.ensures.unwired refl).1 in
    rw c.of_play.ensures.status (ends_alike Lab form words c.lab.result.status read asked ends)

pub returns-in-Some-Udp-clause-statuses : goal.returns-in-Some-Udp-clause-statuses
returns-in-Some-Udp-clause-statuses g c form asked =
    let words = map string_bytes c.args.words.now in
    let read = rw c.in-Some-Udp.field-0-is at c.in-Some-Udp.ensures.found in
    let status = c.lab-in-Some-Udp.result.status in
    rw c.of_play-in-Some-Udp.ensures.status (ends_alike (Udp c.in-Some-Udp.base) form words status read asked c.lab-in-Some-Udp.ensures.statuses)

pub returns-in-Some-Udp-clause-udp_leaves : goal.returns-in-Some-Udp-clause-udp_leaves
returns-in-Some-Udp-clause-udp_leaves g c base waiting asked tells five =
    let words = map string_bytes c.args.words.now in
    let read = rw c.in-Some-Udp.field-0-is at c.in-Some-Udp.ensures.found in
    let result = c.lab-in-Some-Udp.result in
    let five' : result.status ≡ 5 = rw c.of_play-in-Some-Udp.ensures.status at five in
    let some : result.status ≡ 3 → ⊥ = λ three. omega (arith, five', three) in
    rw c.of_play-in-Some-Udp.ensures.world
    (leaves_of_base c.wire_fails_at_a_copy.ensures c.in-Some-Udp.base base waiting (g.W.Wire.waiting c.args.wire.now) (g.W.Wire.waiting c.lab-in-Some-Udp.new.wire) words
    (g.S.Source.left c.args.src.now) result.status (world_parts result.world) (g.K.Sink.held c.args.out.now) (g.K.Sink.held c.lab-in-Some-Udp.new.out)
    read asked tells five' (c.lab-in-Some-Udp.ensures.lab some))

pub returns-in-None-clause-udp_leaves : goal.returns-in-None-clause-udp_leaves
returns-in-None-clause-udp_leaves g c base waiting asked _ _ = absurd (c.in-None.ensures.none (Udp base) asked)

pub returns-in-Some-Soak-clause-statuses : goal.returns-in-Some-Soak-clause-statuses
returns-in-Some-Soak-clause-statuses g c form asked =
    let words = map string_bytes c.args.words.now in
    let read = rw c.in-Some-Soak.field-0-is at c.in-Some-Soak.ensures.found in
    let status = c.soak.result.status in
    rw c.of_play-in-Some-Soak.ensures.status (ends_alike (Soak c.in-Some-Soak.n c.in-Some-Soak.seed) form words status read asked c.soak.ensures.statuses)

pub returns-in-None-clause-lab : goal.returns-in-None-clause-lab
returns-in-None-clause-lab g c asked _ = absurd (c.in-None.ensures.none Lab asked)

pub returns-in-None-clause-udp : goal.returns-in-None-clause-udp
returns-in-None-clause-udp g c base asked _ = absurd (c.in-None.ensures.none (Udp base) asked)

pub returns-in-None-clause-decode : goal.returns-in-None-clause-decode
returns-in-None-clause-decode g c asked _ = absurd (c.in-None.ensures.none Decode asked)

pub returns-in-None-clause-watch : goal.returns-in-None-clause-watch
returns-in-None-clause-watch g c asked _ = absurd (c.in-None.ensures.none Watch asked)

pub returns-in-None-clause-soak : goal.returns-in-None-clause-soak
returns-in-None-clause-soak g c n seed asked = absurd (c.in-None.ensures.none (Soak n seed) asked)

pub node-requires : goal.node-requires
node-requires g c =
    let read = rw c.in-Some-Node.field-0-is at c.in-Some-Node.ensures.found in
    record { call = call_in_range c.in-Some-Node.call read.1 read.2 read.3 read.4 read.5 read.7 }

pub returns-in-Some-Node-clause-node : goal.returns-in-Some-Node-clause-node
returns-in-Some-Node-clause-node g c call asked good =
    let read = rw c.in-Some-Node.field-0-is at c.in-Some-Node.ensures.found in
    let P : PlainCall → Type 0 = λ x. IsNodeRun x (g.S.Source.left c.args.src.now) c.node.result.status c.node.result.served
    (record { waiting = g.W.Wire.waiting c.args.wire.now; readings = g.C.Clock.readings c.args.clock.now })
    (record { waiting = g.W.Wire.waiting c.node.new.wire; readings = g.C.Clock.readings c.node.new.clock }) (g.K.Sink.held c.args.out.now) (g.K.Sink.held c.node.new.out) in
    rw (c.of_node.ensures.status, c.of_node.ensures.served)
    (as_called P c.in-Some-Node.call call _ read asked (c.node.ensures.node (rw c.of_node.ensures.status at good)))

pub returns-in-Some-Node-clause-statuses : goal.returns-in-Some-Node-clause-statuses
returns-in-Some-Node-clause-statuses g c form asked =
    let words = map string_bytes c.args.words.now in
    let read = rw c.in-Some-Node.field-0-is at c.in-Some-Node.ensures.found in
    rw c.of_node.ensures.status (ends_alike (Node c.in-Some-Node.call) form words c.node.result.status read asked c.node.ensures.statuses)

pub returns-in-None-clause-node : goal.returns-in-None-clause-node
returns-in-None-clause-node g c call asked _ = absurd (c.in-None.ensures.none (Node call) asked)
