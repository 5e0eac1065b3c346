use Rattle.hn_base.proofs.Names.{◌≤◌, ◌∙◌, List, ℕ, [], ◌∷◌, ◌++◌, take, drop, length, ap, sym, subst, arith, append_assoc, append-nil, drop-drop, drop_all, take_rest}
use Rattle.hn_dncp.proofs.Names.{NodeId, EpId, IsFilled, IsPacking}
use Rattle.std.proofs.Common.{length-drop}
use Rattle.hn_dncp.proofs.Packings.{packing_more, packing_short}
use Rattle.hn_dncp.proofs.packing.pack.Goals as goal

pub loop-at-preserved : goal.loop-at-preserved
loop-at-preserved c =
    let tlvs = c.args.tlvs.now in
    let count = c.in_ok-datagram.count in
    let datagrams = c.loop-at.datagrams in
    let datagram = c.in_ok-datagram.datagram in
    let left : List (List ℕ) = drop c.loop-at.at tlvs in
    let filled : IsFilled c.args.own c.args.endpoint (take count left) (drop count left) datagram =
    subst (λ (more : List (List ℕ)). IsFilled c.args.own c.args.endpoint (take count more) (drop count more) datagram) (take_rest tlvs c.loop-at.at) c.in_ok-datagram.ensures.filled in
    record {
      within = omega (arith, c.in_ok-datagram.ensures.within, length-drop c.loop-at.at tlvs);
      packed = λ rest packing.
          let others : IsPacking c.args.own c.args.endpoint (drop count left) rest = subst (λ more. IsPacking c.args.own c.args.endpoint more rest) (sym (drop-drop count c.loop-at.at tlvs)) packing in
          let all : IsPacking c.args.own c.args.endpoint tlvs (datagrams ++ datagram ∷ rest) =
          c.loop-at.invariant.packed (datagram ∷ rest) (packing_more c.args.own c.args.endpoint left count datagram rest filled others) in
          subst (IsPacking c.args.own c.args.endpoint tlvs) (sym (ap (λ (items : List (List ℕ)). items ++ rest) c.in_ok-push.ensures.ok ∙ append_assoc datagrams (datagram ∷ []) rest)) all;
    }

-- at the end nothing is left
packed : (own : NodeId) (endpoint : EpId) (tlvs datagrams : List (List ℕ)) (at : ℕ) → length tlvs ≤ at
    → ((rest : List (List ℕ)) → IsPacking own endpoint (drop at tlvs) rest → IsPacking own endpoint tlvs (datagrams ++ rest)) → IsPacking own endpoint tlvs datagrams
packed own endpoint tlvs datagrams at past all =
    subst (IsPacking own endpoint tlvs) (append-nil datagrams) (all [] (drop_all at tlvs past))

pub returns-clause-packed : goal.returns-clause-packed
returns-clause-packed c =
    packed c.args.own c.args.endpoint c.args.tlvs.now c.loop-at.datagrams c.loop-at.at c.loop-at-test.false c.loop-at.invariant.packed

pub returns-clause-short : goal.returns-clause-short
returns-clause-short c =
    packing_short c.args.own c.args.endpoint c.args.tlvs.now c.loop-at.datagrams (returns-clause-packed c)
