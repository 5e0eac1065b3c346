-- Why a router is not settled or not quiet, by what two searches find.
use Rattle.hn_base.proofs.Names.{◌≡◌, ◌↔◌, ℕ, true, false, List, Option, None, Some, inl, inr, refl, subst, option_map_or}
use Rattle.std.specs.Prelude.{IsTrue, IfSome}
use Rattle.hn_audit.specs.FirstWitness.{IsFirstUnsettled, IsFirstUnquiet}
use Rattle.hn_audit.specs.Quiet.{IsQuietByRules}
use Rattle.hn_audit.specs.Reached.{runs}
use Rattle.hn_audit.specs.Settled.{IsSettledByRules}
use Rattle.hn_audit.specs.Witness.{Refutes, Disturbs}
use Rattle.hn_audit.specs.declared.witness.Unquiet.{Unquiet}
use Rattle.hn_audit.specs.declared.witness.Unsettled.{Unsettled}
use Rattle.hn_world.specs.Names.{member_named}
use Rattle.hn_world.specs.declared.member.Member.{Member}
use Rattle.hn_world.specs.declared.parts.Parts.{Parts}
use Rattle.hn_why.specs.Why.{IsWhy, quiet_text, unquiet_text, unsettled_text}

some_of : (o : Option Member) → option_map_or (λ (m : Member). m.running) o false ≡ true → (r : Member) × (o ≡ Some r)
some_of None h = absurd cc
some_of (Some m) h = (m, refl)

-- there is a router of the name of one that runs
member_of : (name : List ℕ) (w : Parts) → IsTrue (runs name w) → (r : Member) × (member_named name w ≡ Some r)
member_of name w h = some_of (member_named name w) h

not_none : {A : Type 0} (o : Option A) (x : A) → o ≡ Some x → o ≡ None → ⊥
not_none o x is none = absurd cc

-- what a search found of each router that has the name
pub record Finds {U : Type 0} (name : List ℕ) (w : Parts) (Holds : Member → Type 0) (Fails : Member → U → Type 0) (First : Member → Option U → Type 0) (found : Option U) : Type 0 where
  pub none : (r : Member) → member_named name w ≡ Some r → (found ≡ None) ↔ Holds r
  pub some : (r : Member) → member_named name w ≡ Some r → IfSome found (Fails r)
  pub first : (r : Member) → member_named name w ≡ Some r → First r found

module _ (name : List ℕ) (w : Parts) (runs_so : IsTrue (runs name w)) (one : Option Unsettled) (finds : Finds name w (IsSettledByRules w) (Refutes w) (IsFirstUnsettled w) one) where
  pub unsettled_so : (why : Unsettled) (text : List ℕ) → one ≡ Some why → text ≡ unsettled_text name w why → IsWhy name w text
  unsettled_so why text is told =
      let m = member_of name w runs_so in (
        m.0,
        m.1,
        inr (inr (record {
          unsettled = λ holds. not_none one why is ((finds.none m.0 m.1).1 holds);
          why = why;
          refutes = subst (λ (o : Option Unsettled). IfSome o (Refutes w m.0)) is (finds.some m.0 m.1);
          first = subst (IsFirstUnsettled w m.0) is (finds.first m.0 m.1);
          text_is = told;
        })),
      )

  module _ (none : one ≡ None) (two : Option Unquiet) (finds_too : Finds name w (IsQuietByRules w) (Disturbs w) (IsFirstUnquiet w) two) where
    pub unquiet_so : (why : Unquiet) (text : List ℕ) → two ≡ Some why → text ≡ unquiet_text name why → IsWhy name w text
    unquiet_so why text is told =
        let m = member_of name w runs_so in (
          m.0,
          m.1,
          inr (inl (record {
            settled = (finds.none m.0 m.1).0 none;
            unquiet = λ holds. not_none two why is ((finds_too.none m.0 m.1).1 holds);
            why = why;
            disturbs = subst (λ (o : Option Unquiet). IfSome o (Disturbs w m.0)) is (finds_too.some m.0 m.1);
            first = subst (IsFirstUnquiet w m.0) is (finds_too.first m.0 m.1);
            text_is = told;
          })),
        )

    pub quiet_so : (text : List ℕ) → two ≡ None → text ≡ quiet_text name → IsWhy name w text
    quiet_so text rests told =
        let m = member_of name w runs_so in
        (m.0, m.1, inl (record { settled = (finds.none m.0 m.1).0 none; quiet = (finds_too.none m.0 m.1).0 rests; text_is = told }))
