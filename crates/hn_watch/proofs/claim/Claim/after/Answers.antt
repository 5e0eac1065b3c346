use Rattle.hn_base.proofs.Names.{Option, sym, ◌∙◌, ap, subst, not, pointwise}
use Rattle.hn_watch.proofs.Names.{nat_eq, ◌||◌, Claim, IsClaimOf}
use Rattle.hn_watch.proofs.Claims.{claim_more}
use Rattle.hn_watch.proofs.claim.Claim.after.Goals as goal

pub returns-else-claim : goal.returns-else-claim
returns-else-claim c = λ hashes is.
    let claim = c.in-Some.claim in
    let told = c.ne.ensures ∙ ap (λ b. b || not (pointwise nat_eq claim.hash c.args.hash)) (sym c.if-claim.false) in
    claim_more hashes c.args.hash claim c.ne.result told (subst (λ (o : Option Claim). IsClaimOf hashes o) c.in-Some.is is)
