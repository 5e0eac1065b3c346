-- Each change keeps the moment, and which endpoints are attached.
use Rattle.hn_base.proofs.Names.{◌≡◌, ◌∙◌, ℕ, List, [], ◌∷◌, refl, sym, cond_both, eqb-true}
use Rattle.hn_rules.proofs.Names.{EpId, same_id, PlainTlv, Port, is_port, put_port, endpoints_of, Running, Origin, Rule, IsRefresh, IsArrival, IsAssigning, IsExpiry, IsPortsTick, IsRestarting}
use Rattle.hn_rules.proofs.Names.{ChangePort, port_after, EachKeeps, KeepsEndpoints}
use Rattle.hn_rules.proofs.Leads.{Walk}
use Rattle.hn_rules.proofs.Walk.{refresh_walk, arrival_walk, expiry_walk, assigning_walk, ports_walk, restarting_walk}

-- one endpoint in place of another of its number
pub put_endpoints : (port : Port) (ports : List Port) → endpoints_of (put_port port ports) ≡ endpoints_of ports
put_endpoints port [] = refl
put_endpoints port (p ∷ ports) =
    let one = cond_both (is_port port.id p) port p (λ (q : Port). q.id ≡ p.id) (λ is. sym (same_id p.id port.id (eqb-true _ _ is))) (λ _. refl) in
    let more = put_endpoints port ports in
    cc

-- the moment and the endpoints are these
abbrev Stands : ℕ → List EpId → Running → Type 0
Stands now ends r = (r.state.moment ≡ now) × (endpoints_of r.state.ports ≡ ends)

each_stands : (tlvs : List PlainTlv) (now : ℕ) (ends : List EpId) → EachKeeps tlvs (Stands now ends)
each_stands tlvs now ends (ChangePort port how) r may stands = (stands.0, put_endpoints (port_after how r port) r.state.ports ∙ stands.1)
each_stands tlvs now ends _ r may stands = stands

-- ---- what a router had before, it has after

stands_on : (tlvs : List PlainTlv) (rule : Rule) → Walk tlvs rule → KeepsEndpoints rule
stands_on tlvs rule walk before after holds =
    let now = before.state.moment in
    let ends = endpoints_of before.state.ports in
    walk (Stands now ends) (each_stands tlvs now ends) before after holds (refl, refl)

pub refresh_stands : KeepsEndpoints IsRefresh
refresh_stands = stands_on [] IsRefresh (refresh_walk [])

pub arrival_stands : (from : Origin) (tlvs : List PlainTlv) → KeepsEndpoints (IsArrival from tlvs)
arrival_stands from tlvs = stands_on tlvs (IsArrival from tlvs) (λ P each. arrival_walk tlvs P each from)

pub expiry_stands : KeepsEndpoints IsExpiry
expiry_stands = stands_on [] IsExpiry (expiry_walk [])

pub assigning_stands : KeepsEndpoints IsAssigning
assigning_stands = stands_on [] IsAssigning (assigning_walk [])

pub ports_stand : KeepsEndpoints IsPortsTick
ports_stand = stands_on [] IsPortsTick (ports_walk [])

pub restarting_stands : KeepsEndpoints IsRestarting
restarting_stands = stands_on [] IsRestarting (restarting_walk [])
