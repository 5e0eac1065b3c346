use Rattle.hn_base.proofs.Names.{◌≡◌, List, ℕ, ◌∷◌, [], ◌++◌, refl, ap, ◌∙◌}
use Rattle.hn_typed.proofs.Names.{word, two_in_byte, prefix_field}
use Rattle.hn_typed.proofs.FirstCauses.{subs_found}
use Rattle.hn_typed.proofs.readers.assigned.Goals as goal

pub returns : goal.returns
returns c =
    let endpoint = c.in_ok-endpoint in
    let priority = c.in_ok-priority in
    let flags : ℕ = two_in_byte priority.ensures.parts.0 priority.priority in
    let fixed : List ℕ = word endpoint.endpoint ++ flags ∷ prefix_field c.in-Ok.found.0 in
    let after : List ℕ = c.in-Ok.found.1.now in
    let parts : c.args.value.now ≡ fixed ++ after =
    endpoint.ensures.parts ∙ ap (λ (z : List ℕ). word endpoint.endpoint ++ z) (priority.ensures.parts.1 ∙ ap (λ (z : List ℕ). flags ∷ z) c.in-Ok.ensures.parts) in
    record {
      in_range = (endpoint.ensures.fits, (priority.ensures.fits, c.in-Ok.ensures.valid));
      other_kind = tt;
      spelled = (refl, 0 ∷ priority.ensures.parts.0 ∷ [], subs_found c.args.value.now fixed after c.in_ok-subs.subs.now parts c.in_ok-subs.ensures.found);
    }
