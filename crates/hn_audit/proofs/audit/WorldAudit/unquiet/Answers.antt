use Rattle.hn_base.proofs.Names.{◌≡◌, ◌↔◌, ◌∙◌, IfSome, None, subst, same_Some}
use Rattle.hn_audit.proofs.Names.{Member, IsFirstUnquiet, IsQuietByRules, Disturbs}
use Rattle.hn_audit.proofs.Disturbing.{first_tells}
use Rattle.hn_audit.proofs.audit.WorldAudit.unquiet.Goals as goal

pub returns-clause-none : goal.returns-clause-none
returns-clause-none c m named =
    let w = c.args.self.now.parts in
    let r = c.in-Some.r.now in
    let found = c.in_ok-found.found in
    let same : r ≡ m = same_Some r m (c.in-Some.ensures ∙ named) in
    subst (λ (n : Member). (found ≡ None) ↔ IsQuietByRules w n) same (first_tells c.witness_refutes.ensures.quiet w r found c.in_ok-found.ensures).0

pub returns-clause-some : goal.returns-clause-some
returns-clause-some c m named =
    let w = c.args.self.now.parts in
    let r = c.in-Some.r.now in
    let found = c.in_ok-found.found in
    let same : r ≡ m = same_Some r m (c.in-Some.ensures ∙ named) in
    subst (λ (n : Member). IfSome found (Disturbs w n)) same (first_tells c.witness_refutes.ensures.quiet w r found c.in_ok-found.ensures).1

pub returns-clause-first : goal.returns-clause-first
returns-clause-first c m named =
    let w = c.args.self.now.parts in
    let r = c.in-Some.r.now in
    let same : r ≡ m = same_Some r m (c.in-Some.ensures ∙ named) in
    subst (λ (n : Member). IsFirstUnquiet w n c.in_ok-found.found) same c.in_ok-found.ensures
