use Rattle.hn_base.proofs.Names.{◌≡◌, ◌∙◌, ℕ, true, false, List, [], ◌∷◌, inl, inr, sym, ap, subst, name_text}
use Rattle.hn_play.proofs.Names.{IsAdvert, advert_bytes, member_named, SeenWorld, Shape, Leaves, shape_of, ra_line, IsDue, TurnEnds, stage_of}
use Rattle.hn_play.proofs.RunTurns.{no_member, no_turn, found_at, turn_left}
use Rattle.hn_play.proofs.NamedRouters.{member_of}
use Rattle.std.specs.Prelude.{string_bytes}
use Rattle.hn_play.proofs.sending.take_turn.Goals as goal

pub returns-in_default-clause-ends : goal.returns-in_default-clause-ends
returns-in_default-clause-ends c route text =
    no_turn c.args.name.now c.args.endpoint (stage_of c.args.playing.now route text) c.new.result
    (inl (no_member (member_named (name_text c.args.name.now) c.args.playing.now.world.parts) c.in_default.ensures)) c.new.ensures

pub returns-in_default-place_of-clause-ends : goal.returns-in_default-place_of-clause-ends
returns-in_default-place_of-clause-ends c route text =
    no_turn c.args.name.now c.args.endpoint (stage_of c.args.playing.now route text) c.new-in_default-place_of.result
    (inr (sym c.place_of.ensures ∙ c.in_default-place_of.is)) c.new-in_default-place_of.ensures

pub returns-then-not-is_due-clause-ends : goal.returns-then-not-is_due-clause-ends
returns-then-not-is_due-clause-ends c route text =
    let name = c.args.name.now in
    let e = c.args.endpoint in
    let p = stage_of c.args.playing.now route text in
    let b = stage_of c.is_due.new.playing route text in
    let place = c.in-Some-place_of.place in
    let is_place = sym c.place_of.ensures ∙ c.in-Some-place_of.is in
    let at = found_at name e p.senders place is_place in
    let found = member_of (member_named (name_text name) p.world) c.in-Some.router.now c.in-Some.ensures in
    let advert = c.in_ok-advert.advert in
    let comes : IsDue place at.0 (shape_of advert) false p b =
    subst (λ (s : Shape). IsDue place at.0 s false p b) c.in_ok-shape.ensures (c.if-not-is_due.ensures.due route text at.0 at.1.is_there) in
    let read = subst (λ (bs : List ℕ). IsAdvert bs advert) c.in_ok-bytes.ensures.written c.in_ok-bytes.ensures.read_back in
    let leaves = turn_left name e c.in-Some.router.now place advert p found is_place c.in_ok-advert.ensures read at.0 false b at.1 comes in
    subst (λ (lines : List (List ℕ)). Leaves (TurnEnds name e) lines p b) (sym c.new-then-not-is_due.ensures) leaves

pub returns-clause-ends : goal.returns-clause-ends
returns-clause-ends c route text =
    let name = c.args.name.now in
    let e = c.args.endpoint in
    let p = stage_of c.args.playing.now route text in
    let b = stage_of c.is_due.new.playing route text in
    let place = c.in-Some-place_of.place in
    let is_place = sym c.place_of.ensures ∙ c.in-Some-place_of.is in
    let at = found_at name e p.senders place is_place in
    let found = member_of (member_named (name_text name) p.world) c.in-Some.router.now c.in-Some.ensures in
    let advert = c.in_ok-advert.advert in
    let comes : IsDue place at.0 (shape_of advert) true p b =
    subst (λ (s : Shape). IsDue place at.0 s true p b) c.in_ok-shape.ensures (c.if-not-is_due.ensures.due route text at.0 at.1.is_there) in
    let read = subst (λ (bs : List ℕ). IsAdvert bs advert) c.in_ok-bytes.ensures.written c.in_ok-bytes.ensures.read_back in
    let leaves = turn_left name e c.in-Some.router.now place advert p found is_place c.in_ok-advert.ensures read at.0 true b at.1 comes in
    let now_is : c.moment-now.result ≡ p.world.moment = c.moment-now.ensures.moment ∙ ap (λ (w : SeenWorld). w.parts.moment) c.if-not-is_due.ensures.world in
    let line_is : string_bytes c.in_ok-line.line ≡ ra_line name e p.world.moment (advert_bytes advert) =
    c.in_ok-line.ensures ∙ ap (λ (n : ℕ). ra_line name e n c.as_slice.result.now) now_is
    ∙ ap (ra_line name e p.world.moment) (c.as_slice.ensures ∙ c.in_ok-bytes.ensures.written) in
    subst (λ (lines : List (List ℕ)). Leaves (TurnEnds name e) lines p b) (sym (c.in_ok-of.ensures ∙ ap (λ (l : List ℕ). l ∷ []) line_is)) leaves
