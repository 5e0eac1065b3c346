-- The rule of an endpoint, where the endpoint was found.
use Rattle.hn_base.proofs.Names.{◌≡◌, ◌∙◌, ℕ, Bool, true, false, cond, List, [], ◌∷◌, Option, Some, ap, refl, subst, eqb-true, OnSome}
use Rattle.hn_rules.proofs.Names.{EpId, Port, is_port, port_at, Running, Rule, AtPort}
use Rattle.std.specs.List.{find}

-- the rule of an endpoint that is attached
pub at_port : (at : EpId) (port : Port) (ports : List Port) (rule : Port → Rule) (before after : Running) → Some port ≡ port_at at ports
    → ports ≡ before.state.ports → rule port before after → AtPort at rule before after
at_port at port ports rule before after here same holds =
    subst (λ (o : Option Port). OnSome rule o before after) (here ∙ ap (port_at at) same) holds

found_here : (at : EpId) (port p : Port) (ps : List Port) (b : Bool) → is_port at p ≡ b → Some port ≡ cond b (Some p) (find (is_port at) ps)
    → (Some port ≡ find (is_port at) ps → port.id ≡ at) → port.id ≡ at
found_here at port p ps true test here rest =
    let number : p.id.0 ≡ at.0 = eqb-true p.id.0 at.0 test in
    let same : port ≡ p = cc in
    ap (λ (q : Port). q.id) same ∙ ap (λ (n : ℕ). record { 0 = n }) number
found_here at port p ps false test here rest = rest here

-- an endpoint that was found has the number that was looked for
pub found_id : (at : EpId) (port : Port) (ports : List Port) → Some port ≡ port_at at ports → port.id ≡ at
found_id at port [] here = cc
found_id at port (p ∷ ps) here = found_here at port p ps (is_port at p) refl here (found_id at port ps)
