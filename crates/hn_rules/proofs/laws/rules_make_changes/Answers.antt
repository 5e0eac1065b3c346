use Rattle.hn_base.proofs.Names.{◌≡◌, [], refl}
use Rattle.hn_rules.proofs.Names.{IsArrival, IsAssigning, IsOfChanges, withdrawing, ending, setting_caps, setting_private, IsRestarting, IsRefresh, IsExpiry, forgetting, IsPortsTick}
use Rattle.hn_rules.proofs.Leads.{each_leads, of_walk}
use Rattle.hn_rules.proofs.Walk.{refresh_walk, arrival_walk, expiry_walk, ending_walk, forgetting_walk, assigning_walk, ports_walk, delegating_walk, withdrawing_walk, caps_walk, private_walk}
use Rattle.hn_rules.proofs.Walk.{addressing_walk, restarting_walk}
use Rattle.hn_rules.proofs.laws.rules_make_changes.Goals as goal

pub returns : goal.returns
returns c = record {
  refresh = of_walk [] IsRefresh (refresh_walk []);
  arrival = λ from tlvs. of_walk tlvs (IsArrival from tlvs) (λ P each. arrival_walk tlvs P each from);
  expiry = of_walk [] IsExpiry (expiry_walk []);
  ending = of_walk [] (λ b a. a ≡ ending b) (ending_walk []);
  forgetting = of_walk [] (λ b a. a ≡ forgetting b) (forgetting_walk []);
  assigning = of_walk [] IsAssigning (assigning_walk []);
  ports = of_walk [] IsPortsTick (ports_walk []);
  delegating = λ prefix valid preferred before fits may. delegating_walk [] (IsOfChanges [] before) (each_leads [] before) prefix valid preferred before fits may ([], refl);
  withdrawing = λ prefix. of_walk [] (λ b a. a ≡ withdrawing prefix b) (λ P each. withdrawing_walk [] P each prefix);
  caps = λ caps. of_walk [] (λ b a. a ≡ setting_caps caps b) (λ P each. caps_walk [] P each caps);
  private = λ private fits. of_walk [] (λ b a. a ≡ setting_private private b) (λ P each. private_walk [] P each private fits);
  addressing = λ list before fit may. addressing_walk [] (IsOfChanges [] before) (each_leads [] before) list before fit may ([], refl);
  restarting = of_walk [] IsRestarting (restarting_walk []);
}
