use Rattle.hn_base.proofs.Names.{◌≡◌, ◌∙◌, [], ◌∷◌, Some, ap, sym, name_text}
use Rattle.hn_sync.proofs.Names.{NodeId, datagram_of, router_place, request, joint_of}
use Rattle.hn_sync.proofs.Asked.{there_are, question_is}
use Rattle.hn_sync.proofs.question.question.Goals as goal
use Rattle.hn_sync.proofs.question.question.Goals.{in_default-2-via-in-Some+in_default, in_default-2-via-in_default}

pub unreachable-requires-in_default-2 : goal.unreachable-requires-in_default-2
unreachable-requires-in_default-2 c =
    let w = c.args.world.now.parts in
    let one = c.in-Some-Some.one.now in
    let two = c.in-Some-Some.two.now in
    let so = there_are c.args.a.now c.args.b.now w one two (sym c.in-Some-Some.ensures) (sym c.in-Some-Some.ensures') c.requires in
    let joint : joint_of one two ≡ Some so.2.0 = so.2.1 in
    let place : router_place (name_text c.args.b.now) w ≡ Some so.3.0 = so.3.1 in
    elim c.in_default-2.branch [ in_default-2-via-in-Some+in_default d ↦ (cc) | in_default-2-via-in_default d ↦ (cc) ]

pub returns : goal.returns
returns c =
    let w = c.args.world.now.parts in
    let found = c.in-Some-Some-2 in
    question_is c.args.a.now c.args.b.now w c.in-Some-Some.one.now c.in-Some-Some.two.now (c.always_sound.ensures.sound w c.is_replayed.ensures)
    (sym c.in-Some-Some.ensures) (sym c.in-Some-Some.ensures') c.requires found.e found.f found.place (sym found.ensures) (sym found.ensures')
    c.address_of.result c.address_of.ensures c.in_ok-request.field-0 (c.in_ok-request.ensures ∙ ap (λ (n : NodeId). datagram_of n found.f (request ∷ [])) c.id.ensures)
