use Rattle.hn_base.proofs.Names.{None, Option, List, ℕ, refl, subst, arith, All-nil}
use Rattle.hn_audit.proofs.Names.{PeerLink, Unsettled, IsFirstFound, AreSaid, FindsUntrue, members_of}
use Rattle.hn_audit.proofs.Searching.{found_here, found_nowhere, none_more}
use Rattle.hn_audit.proofs.spots.first_untrue_peer.Goals as goal

pub loop-peer-init : goal.loop-peer-init
loop-peer-init c =
    let peers = c.peers-peer-items in
    record {
      are_said = subst (λ (body : List ℕ). AreSaid body peers.result.now) c.body.ensures (record { ascending = peers.ensures.ascending; exact = peers.ensures.exact });
      so_far = All-nil (λ (peer : PeerLink). IsFirstFound (FindsUntrue c.args.s.now peer) (members_of c.args.set.now) None);
    }

pub returns-in-Some : goal.returns-in-Some
returns-in-Some c =
    let finds : PeerLink → Option Unsettled → Type 0 = λ peer. IsFirstFound (FindsUntrue c.args.s.now peer) (members_of c.args.set.now) in
    record {
      peers = c.peers-peer-items.result.now;
      are_said = c.loop-peer.invariant.are_said;
      found = found_here finds c.peers-peer-items.result.now c.loop-peer.peer-index c.loop-peer.invariant.so_far _ _ _ c.loop-peer-test.true refl c.in-Some.ensures;
    }

pub loop-peer-preserved : goal.loop-peer-preserved
loop-peer-preserved c =
    let none : PeerLink → Type 0 = λ peer. IsFirstFound (FindsUntrue c.args.s.now peer) (members_of c.args.set.now) None in
    record {
      are_said = c.loop-peer.invariant.are_said;
      so_far = none_more none c.peers-peer-items.result.now c.loop-peer.peer-index _ _ c.loop-peer.invariant.so_far c.loop-peer-test.true refl c.in_default.ensures;
    }

pub returns : goal.returns
returns c =
    let finds : PeerLink → Option Unsettled → Type 0 = λ peer. IsFirstFound (FindsUntrue c.args.s.now peer) (members_of c.args.set.now) in
    record {
      peers = c.peers-peer-items.result.now;
      are_said = c.loop-peer.invariant.are_said;
      found = found_nowhere finds c.peers-peer-items.result.now c.loop-peer.peer-index c.loop-peer.invariant.so_far (omega (arith, c.loop-peer-test.false));
    }
