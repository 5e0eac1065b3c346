use Rattle.hn_base.proofs.Names.{◌≡◌, ◌∙◌, Err, None, ap, sym, err_from_is_err_and, on_ok_weaker}
use Rattle.hn_sync.proofs.Names.{same_error, ExchangesSoFar, unless_exchange}
use Rattle.hn_world.specs.SeenWorld.{SeenWorld}
use Rattle.hn_world.specs.declared.event.WorldFault.TheVariants as fault
use Rattle.hn_sync.proofs.Delivered.{cut_first, stops_before, cut_before, whole_after, stops_after, cut_after}
use Rattle.hn_sync.proofs.exchange.WorldExchange.sync.Goals as goal

pub returns-in_err-question-clause-starved : goal.returns-in_err-question-clause-starved
returns-in_err-question-clause-starved g c = λ failed.
    let w = c.args.self.now.parts in
    let none : unless_exchange c.args.a.now c.args.b.now w ≡ None = cc in
    let asks = (c.refused_or_asked.ensures c.args.a.now c.args.b.now w c.is_replayed.ensures).0 none in
    cut_first c.args.a.now c.args.b.now w asks.0 asks.1

pub returns-in_err-apply-clause-later : goal.returns-in_err-apply-clause-later
returns-in_err-apply-clause-later g c = λ code none failed.
    let told = g.D.Draw.words in
    let exit = err_from_is_err_and c.from_residual-in_err-apply.result c.from_residual-in_err-apply.ensures.1 in
    let is : c.in_err-apply.field-0.0 ≡ fault.Refused code = sym exit.2 ∙ same_error _ _ (sym exit.1 ∙ failed) in
    stops_before c.args.a.now c.args.b.now c.args.self.now.parts c.apply.new.self.parts (ap (λ (w : SeenWorld). w.parts) c.in_err-apply.ensures.err) c.in_ok-question.question
    c.in_ok-question.ensures code
    (told c.args.draw.now) (told c.apply.new.draw)
    (ap told (c.in_err-apply.ensures.undrawn code (ap Err is))) ((c.in_err-apply.ensures.refused code).0 (ap Err is))

pub returns-in_err-apply-clause-room : goal.returns-in_err-apply-clause-room
returns-in_err-apply-clause-room g c = λ code none failed.
    let told = g.D.Draw.words in
    c.stops_for_room_alone.ensures c.args.a.now c.args.b.now code (told c.args.draw.now) (told c.apply.new.draw) c.args.self.now.parts c.apply.new.self.parts c.is_replayed.ensures
    (returns-in_err-apply-clause-later g c code none failed)

pub returns-in_err-apply-clause-starved : goal.returns-in_err-apply-clause-starved
returns-in_err-apply-clause-starved g c = λ failed.
    cut_before c.args.a.now c.args.b.now c.args.self.now.parts c.apply.new.self.parts (ap (λ (w : SeenWorld). w.parts) c.in_err-apply.ensures.err) c.in_ok-question.question c.in_ok-question.ensures

pub returns-clause-ok : goal.returns-clause-ok
returns-clause-ok g c =
    let told = g.D.Draw.words in
    on_ok_weaker c.deliver_after.result
    (whole_after c.words_join.ensures c.args.a.now c.args.b.now c.copies-copies.result (told c.args.draw.now) (told c.apply.new.draw)
    (told c.deliver_after.new.draw) c.in_ok-apply.field-0 c.in_ok-question.question
    c.args.self.now.parts c.apply.new.self.parts c.deliver_after.new.world.parts c.copies-copies.ensures c.in_ok-question.ensures c.in_ok-apply.ensures.ok)
    c.deliver_after.ensures.ok

pub returns-clause-repairs : goal.returns-clause-repairs
returns-clause-repairs g c =
    let told = g.D.Draw.words in
    on_ok_weaker c.deliver_after.result
    (λ (h : ExchangesSoFar c.args.a.now c.args.b.now None (told c.args.draw.now) (told c.deliver_after.new.draw) c.args.self.now.parts c.deliver_after.new.world.parts).
    c.exchange_repairs.ensures c.args.a.now c.args.b.now h.ts c.args.self.now.parts c.deliver_after.new.world.parts c.is_replayed.ensures h.begun) (returns-clause-ok g c)

pub returns-clause-later : goal.returns-clause-later
returns-clause-later g c = λ code none failed.
    let told = g.D.Draw.words in
    stops_after c.words_join.ensures c.args.a.now c.args.b.now c.copies-copies.result (told c.args.draw.now) (told c.apply.new.draw)
    (told c.deliver_after.new.draw) c.in_ok-apply.field-0 c.in_ok-question.question
    c.args.self.now.parts c.apply.new.self.parts c.deliver_after.new.world.parts c.copies-copies.ensures c.in_ok-question.ensures c.in_ok-apply.ensures.ok code
    (c.deliver_after.ensures.refused code failed)

pub returns-clause-room : goal.returns-clause-room
returns-clause-room g c = λ code none failed.
    let told = g.D.Draw.words in
    c.stops_for_room_alone.ensures c.args.a.now c.args.b.now code (told c.args.draw.now) (told c.deliver_after.new.draw) c.args.self.now.parts c.deliver_after.new.world.parts c.is_replayed.ensures
    (returns-clause-later g c code none failed)

pub returns-clause-starved : goal.returns-clause-starved
returns-clause-starved g c = λ failed.
    let told = g.D.Draw.words in
    cut_after c.words_join.ensures c.args.a.now c.args.b.now c.copies-copies.result (told c.args.draw.now) (told c.apply.new.draw)
    (told c.deliver_after.new.draw) c.in_ok-apply.field-0 c.in_ok-question.question
    c.args.self.now.parts c.apply.new.self.parts c.deliver_after.new.world.parts c.copies-copies.ensures c.in_ok-question.ensures c.in_ok-apply.ensures.ok (c.deliver_after.ensures.starved failed)
