use Rattle.hn_base.proofs.Names.{◌≡◌, ℕ, List, [], ◌∷◌, take, Took}
use Rattle.hn_forms.proofs.Names.{endpoints_of, IsSetUp}
use Rattle.hn_forms.proofs.setup.set_up.Given as goal

-- the lines so far happened
abbrev pub invariant-loop-number : goal.invariant-loop-number
invariant-loop-number g l = record {
  set_up : (words : List ℕ) × IsSetUp l.fn.id (take l.number-index l.lines) l.now words l.router × Took (g.D.Draw.words l.fn.draw) words (g.D.Draw.words l.draw);
  ends : endpoints_of l.router.ports ≡ (record { 0 = 1 }) ∷ [];
  moment : l.router.moment ≡ l.now;
}
