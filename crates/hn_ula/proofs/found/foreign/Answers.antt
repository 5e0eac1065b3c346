use Rattle.hn_base.proofs.Names.{List, IsTrue, ◌↔◌, subst}
use Rattle.hn_ula.proofs.Names.{Delegated, seen_by, HasForeign}
use Rattle.hn_ula.proofs.FoundInLists.{foreign_of}
use Rattle.hn_ula.proofs.found.foreign.Goals as goal

pub returns : goal.returns
returns c =
    let used = c.in_ok-used.used in
    let same = foreign_of (seen_by c.args.router.now) used c.usable_is_unique.ensures c.in_ok-used.ensures in
    let found = subst (λ (l : List Delegated). IsTrue c.has_foreign.result ↔ HasForeign l) c.as_slice.ensures c.has_foreign.ensures in
    (λ h. same.0 (found.0 h), λ h. found.1 (same.1 h))
