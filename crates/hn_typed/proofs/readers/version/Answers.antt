use Rattle.hn_base.proofs.Names.{◌≡◌, List, ℕ, ◌∷◌, [], refl, sym, ap, subst, ◌∙◌, IsUtf8}
use Rattle.hn_typed.proofs.Names.{two_in_byte}
use Rattle.hn_typed.proofs.FirstCauses.{no_text}
use Rattle.hn_typed.proofs.readers.version.Goals as goal

pub returns-in-Ok : goal.returns-in-Ok
returns-in-Ok c =
    let first = c.in_ok-after.ensures.parts in
    let second = c.in_ok-after-2.ensures.parts in
    let text = c.in-Ok.ensures.cases in
    let front : List ℕ → List ℕ = λ z. first.0 ∷ second.0 ∷ two_in_byte c.in_ok-m.m c.in_ok-m.p ∷ z in
    let parts : c.args.value.now ≡ front (two_in_byte c.in_ok-h.h c.in_ok-h.l ∷ c.in-Ok.agent.now) =
    first.1
    ∙ ap (λ (z : List ℕ). first.0 ∷ z) (second.1 ∙ ap (λ (z : List ℕ). second.0 ∷ z) c.in_ok-m.ensures.parts)
    ∙ ap front (c.in_ok-h.ensures.parts ∙ ap (λ (z : List ℕ). two_in_byte c.in_ok-h.h c.in_ok-h.l ∷ z) (sym text.0)) in
    record {
      in_range = (tt, (tt, (c.in_ok-m.ensures.fits, c.in_ok-h.ensures.fits)));
      other_kind = tt;
      spelled = (refl, first.0 ∷ second.0 ∷ [], (parts, subst IsUtf8 (sym text.0) text.1));
    }

pub returns-in-Err : goal.returns-in-Err
returns-in-Err c =
    c.in_ok-after.ensures.past _ _ _ _
    (c.in_ok-after-2.ensures.past _ _ _ _ (c.in_ok-m.ensures.past _ _ _ _ (c.in_ok-h.ensures.past _ _ _ _ (no_text 4 c.in_ok-h.agent.now [] c.in-Err.ensures.cases.0))))
