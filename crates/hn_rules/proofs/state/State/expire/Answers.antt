use Rattle.hn_base.proofs.Names.{◌<◌, ◌≤◌, List, length, get_or, sym, subst, arith, iff_false}
use Rattle.hn_rules.proofs.Names.{Neighbour, IsExpired}
use Rattle.hn_rules.proofs.Without.{LeftSoFar, left-gone, left-stays, left-all}
use Rattle.hn_rules.proofs.state.State.expire.Goals as goal

nobody : Neighbour
nobody = record { node = record { 0 = 0 }; endpoint = record { 0 = 0 }; contact = 0; addr = record { ip = 0; port = 0 } }

pub loop-place-preserved-then-is_expired : goal.loop-place-preserved-then-is_expired
unfolding nobody
loop-place-preserved-then-is_expired c =
    let P = IsExpired c.args.self.now in
    let ys = c.loop-place.peers in
    let i = c.loop-place.place in
    let within : i < length ys = omega arith in
    let gone : P (get_or ys i nobody) = subst (λ (xs : List Neighbour). P (get_or xs i nobody)) c.as_slice.ensures.peers (c.is_expired.ensures.0 c.if-is_expired.true) in
    subst (λ (zs : List Neighbour). LeftSoFar P c.args.peers.now zs i) (sym c.remove_at.ensures.peers) (left-gone P c.args.peers.now ys i nobody within gone c.loop-place.invariant)

pub loop-place-preserved : goal.loop-place-preserved
unfolding nobody
loop-place-preserved c =
    let P = IsExpired c.args.self.now in
    let ys = c.loop-place.peers in
    let i = c.loop-place.place in
    let within : i < length ys = omega arith in
    let stays : P (get_or ys i nobody) → ⊥ = subst (λ (xs : List Neighbour). P (get_or xs i nobody) → ⊥) c.as_slice.ensures.peers (iff_false c.is_expired.ensures c.if-is_expired.false) in
    left-stays P c.args.peers.now ys i nobody within stays c.loop-place.invariant

pub returns : goal.returns
returns c =
    let past : length c.loop-place.peers ≤ c.loop-place.place = omega arith in
    left-all (IsExpired c.args.self.now) c.args.peers.now c.loop-place.peers c.loop-place.place past c.loop-place.invariant
