-- A tick keeps the identifier.
use Rattle.hn_base.proofs.Names.{◌≡◌, ◌∙◌, inl, inr, refl, ap}
use Rattle.hn_rules.proofs.Names.{Port, endpoints_of, Running, State, IsPortReset, IsPublishing, IsHashing, IsRefresh, AtPort, IsTick}
use Rattle.hn_rules.specs.KeptAtRest.{KeepsId}
use Rattle.hn_rules.proofs.Leads.{keeps_each, keeps_option}
use Rattle.hn_rules.proofs.NoPeerExpired.{expiry_ports}
use Rattle.hn_rules.proofs.PortsOfNothing.{ticks_ports}

publishing_id : KeepsId IsPublishing
publishing_id r a (inl (published, is)) = ap (λ (x : Running). x.state.id) is
publishing_id r a (inr (other, is)) = ap (λ (x : Running). x.state.id) is.gives

reset_id : (port : Port) → KeepsId (IsPortReset port)
reset_id port r a (inl (shortest, is)) = ap (λ (x : Running). x.state.id) is
reset_id port r a (inr (longer, (word, is))) = ap (λ (x : Running). x.state.id) is

hashing_id : KeepsId IsHashing
hashing_id r a (inl (same, is)) = ap (λ (x : Running). x.state.id) is
hashing_id r a (inr (other, resets)) =
    keeps_each (λ x. x.state.id ≡ r.state.id) (λ at. AtPort at IsPortReset)
    (λ at. keeps_option (λ x. x.state.id ≡ r.state.id) at IsPortReset (λ port x y found reset same. reset_id port x y reset ∙ same)) (endpoints_of r.state.ports) _ a resets refl

refresh_id : KeepsId IsRefresh
refresh_id r a (published, publishes, (reached, reaches, hashing)) = hashing_id reached a hashing ∙ ap (λ (x : Running). x.state.id) reaches.gives ∙ publishing_id r published publishes

pub tick_id : KeepsId IsTick
tick_id r a (lost, (expired, expiry, (ended, ends, refresh)), (forgetful, forgets, (settled, (assigned, assigns, again), ticks))) =
    ap (λ (x : State). x.id) (ticks_ports settled a ticks)
    ∙ refresh_id assigned settled again
    ∙ ap (λ (x : Running). x.state.id) assigns.gives
    ∙ ap (λ (x : Running). x.state.id) forgets
    ∙ refresh_id ended lost refresh
    ∙ ap (λ (x : Running). x.state.id) ends
    ∙ ap (λ (x : State). x.id) (expiry_ports r expired expiry)
