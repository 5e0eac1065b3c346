-- What is told of the state of a router.
use Rattle.hn_base.proofs.Names.{◌≡◌, List, ℕ, Some, subst}
use Rattle.std.specs.Prelude.{Bool}
use Rattle.hn_world.specs.Names.{member_named}
use Rattle.hn_world.specs.declared.member.Member.{Member}
use Rattle.hn_world.specs.declared.parts.Parts.{Parts}
use Rattle.hn_lab_c.specs.Kinds.{state_out}
use Rattle.hn_lab_c.specs.Looks.{AreAuditedOf, IsStateOut}
use Rattle.hn_lab_c.specs.declared.kinds.State.{State}

pub state_so : (w : Parts) (name text : List ℕ) (r : Member) (settled quiet : Bool) (out : State) → text ≡ name → member_named text w ≡ Some r
    → AreAuditedOf r.running w r settled quiet → out ≡ state_out r settled quiet → IsStateOut name w out
state_so w name text r settled quiet out same there audited is = record {
  router = r;
  is = subst (λ (n : List ℕ). member_named n w ≡ Some r) same there;
  settled = settled;
  quiet = quiet;
  audited = audited;
  out_is = is;
}
