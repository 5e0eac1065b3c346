use Rattle.hn_base.proofs.Names.{◌≡◌, ◌∙◌, [], ◌∷◌, ◌++◌, Option, Some, cond, sym, ap, subst, is_eq, node_cmp}
use Rattle.hn_watch.proofs.Names.{Claim, NodeNumber, number_of, number_cmp, IsClaimOf, keeping}
use Rattle.hn_watch.specs.Places.{held}
use Rattle.hn_watch.proofs.Orders.{put_here, put_there, number_total, exact_number}
use Rattle.hn_watch.proofs.Steps.{kept_by_put}
use Rattle.hn_watch.proofs.remembered.Remembered.note.Goals as goal

pub returns-clause-noted : goal.returns-clause-noted
returns-clause-noted c =
    let one = c.args.one.now in
    let claim = c.after-claim.result in
    let old = held number_cmp c.args.self.now.claims in
    let new = held number_cmp c.put.new.places in
    let key = number_of one in
    let put = subst (λ (k : NodeNumber). (q : NodeNumber) → new q ≡ cond (is_eq (number_cmp k q)) (Some claim) (old q)) c.of-number.ensures c.put.ensures.held in
    let was = c.held.ensures ∙ ap old c.of-number.ensures in
    record {
      claim = λ hashes is.
          let more = c.after-claim.ensures hashes (subst (λ (o : Option Claim). IsClaimOf hashes o) (sym was) is) in
          subst (λ (o : Option Claim). IsClaimOf (hashes ++ one.hash ∷ []) o) (sym (put_here number_cmp key claim old new put number_total)) more;
      other_claims = λ node number apart. put_there number_cmp key claim old new put exact_number (record { node = node; number = number }) apart;
      kept = kept_by_put one c.kept_after-kept.result (held node_cmp c.args.self.now.kept) (held node_cmp c.put-2.new.places) c.put-2.ensures.held
          (c.kept_after-kept.ensures ∙ ap (λ k. keeping one.node k one) c.held-2.ensures);
    }

pub returns-clause-stays : goal.returns-clause-stays
returns-clause-stays c one room = record {
  claim = c.put.ensures.stays (number_of one) room.claim;
  kept = c.put-2.ensures.stays one.node room.kept;
}
