use Rattle.hn_base.proofs.Names.{◌≡◌, List, ℕ, [], ◌++◌, refl, ap, ◌∙◌}
use Rattle.hn_typed.proofs.Names.{word, prefix_field}
use Rattle.hn_typed.proofs.FirstCauses.{subs_found}
use Rattle.hn_typed.proofs.readers.delegated.Goals as goal

pub returns : goal.returns
returns c =
    let valid = c.in_ok-valid in
    let preferred = c.in_ok-preferred in
    let fixed : List ℕ = word valid.valid ++ word preferred.preferred ++ prefix_field c.in-Ok.found.0 in
    let after : List ℕ = c.in-Ok.found.1.now in
    let parts : c.args.value.now ≡ fixed ++ after =
    valid.ensures.parts ∙ ap (λ (z : List ℕ). word valid.valid ++ z) preferred.ensures.parts ∙ ap (λ (z : List ℕ). word valid.valid ++ word preferred.preferred ++ z) c.in-Ok.ensures.parts in
    record {
      in_range = (valid.ensures.fits, (preferred.ensures.fits, c.in-Ok.ensures.valid));
      other_kind = tt;
      spelled = (refl, [], subs_found c.args.value.now fixed after c.in_ok-subs.subs.now parts c.in_ok-subs.ensures.found);
    }
