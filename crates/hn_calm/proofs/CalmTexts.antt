-- What is said of a router, by what was found.
use Rattle.hn_base.proofs.Names.{◌≡◌, ◌∙◌, ℕ, ◌++◌, Bool, true, false, sym, false≢true, List, Option, Some, None, IsTrue, inl, inr, refl, subst, option_map_or}
use Rattle.hn_base.proofs.Elements.{found_passes}
use Rattle.hn_base.specs.Name.{name_text}
use Rattle.hn_base.specs.declared.name.Name.{Name}
use Rattle.hn_audit.specs.Quiet.{IsQuietByRules}
use Rattle.hn_audit.specs.Reached.{IsRunning, runs}
use Rattle.hn_audit.specs.Settled.{IsSettledByRules}
use Rattle.hn_why.specs.Why.{IsWhy}
use Rattle.hn_world.specs.Names.{is_named, member_named}
use Rattle.hn_world.specs.declared.member.Member.{Member}
use Rattle.hn_world.specs.declared.parts.Parts.{Parts}
use Rattle.hn_calm.specs.Home.{FindsUncalm, LastBefore}
use Rattle.hn_calm.specs.Text.{IsCalmText, calm_said, restless_said, uncalm_begun, uncalm_said}
use Rattle.hn_calm.specs.declared.uncalm.Uncalm.{Uncalm}
use Rattle.hn_calm.proofs.CalmHomes.{calm_before, not_uncalm}

named_runs : (name : List ℕ) (w : Parts) (r : Member) → IsTrue (runs name w) → member_named name w ≡ Some r → IsRunning w r
named_runs name w r so there = record {
  there = (found_passes (is_named name) w.members r there).0;
  running = subst (λ (o : Option Member). option_map_or (λ m. m.running) o false ≡ true) there so;
}

-- a test that fails does not hold
pub no_rest : (b : Bool) → b ≡ false → IsTrue b → ⊥
no_rest b fails holds = false≢true (sym fails ∙ holds)

module _ (name : Name) (w : Parts) (r : Member) (there : member_named (name_text name) w ≡ Some r) (text : List ℕ) where
  pub restless_said_of : ¬ (IsSettledByRules w r × IsQuietByRules w r) → (why : List ℕ) → IsWhy (name_text name) w why → text ≡ restless_said name ++ why → IsCalmText (name_text name) w text
  restless_said_of restless why is_why said = (name, refl, r, there, inr (inl (record { restless = restless; why = why; is_why = is_why; text_is = said })))

  pub uncalm_said_of : IsSettledByRules w r × IsQuietByRules w r → (u : Uncalm) → FindsUncalm w r (Some u) → text ≡ uncalm_begun name ++ uncalm_said name u → IsCalmText (name_text name) w text
  uncalm_said_of rests u first said = (
    name,
    refl,
    r,
    there,
    inr (inr (record {
      settled = rests.0;
      quiet = rests.1;
      uncalm = λ end calm. not_uncalm w r end calm u first;
      missing = u;
      first = first;
      text_is = said;
    })),
  )

  pub calm_said_of : IsTrue (runs (name_text name) w) → IsSettledByRules w r × IsQuietByRules w r → FindsUncalm w r None → (end : ℕ) → LastBefore r w.members end → text ≡ calm_said name end
      → IsCalmText (name_text name) w text
  calm_said_of so rests none end last said =
      let running = named_runs (name_text name) w r so there in
      (name, refl, r, there, inl (record { end = end; calm = calm_before w r running rests.0 rests.1 none end last; text_is = said }))
