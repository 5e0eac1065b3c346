use Rattle.hn_base.proofs.Names.{◌≡◌, ◌↔◌, ◌∙◌, IfSome, None, subst, same_Some}
use Rattle.hn_audit.proofs.Names.{Member, IsFirstUnsettled, IsSettledByRules, Refutes}
use Rattle.hn_audit.proofs.Judging.{first_says}
use Rattle.hn_audit.proofs.audit.WorldAudit.unsettled.Goals as goal

pub returns-clause-none : goal.returns-clause-none
returns-clause-none c m named =
    let w = c.args.self.now.parts in
    let r = c.in-Some.r.now in
    let found = c.in_ok-found.found in
    let same : r ≡ m = same_Some r m (c.in-Some.ensures ∙ named) in
    subst (λ (n : Member). (found ≡ None) ↔ IsSettledByRules w n) same (first_says w r found c.in_ok-found.ensures).0

pub returns-clause-some : goal.returns-clause-some
returns-clause-some c m named =
    let w = c.args.self.now.parts in
    let r = c.in-Some.r.now in
    let found = c.in_ok-found.found in
    let same : r ≡ m = same_Some r m (c.in-Some.ensures ∙ named) in
    subst (λ (n : Member). IfSome found (Refutes w n)) same (first_says w r found c.in_ok-found.ensures).1

pub returns-clause-first : goal.returns-clause-first
returns-clause-first c m named =
    let w = c.args.self.now.parts in
    let r = c.in-Some.r.now in
    let same : r ≡ m = same_Some r m (c.in-Some.ensures ∙ named) in
    subst (λ (n : Member). IsFirstUnsettled w n c.in_ok-found.found) same c.in_ok-found.ensures
