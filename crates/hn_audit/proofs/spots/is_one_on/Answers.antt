use Rattle.hn_base.proofs.Names.{rules, ◌≡◌, subst, sym, YieldsList-from_slice}
use Rattle.hn_audit.proofs.Names.{tests, Contains-map, Contains-from_map, Spot, PlainSpot, plain_spot}
use Rattle.std.proofs.lemmas.Iterator.{cases_from_any}
use Rattle.hn_audit.proofs.WhatAnyTells.{any_decides}
use Rattle.hn_audit.proofs.spots.is_one_on.Goals as goal

pub returns : goal.returns
returns c =
    let on : Spot → Type 0 = λ s. s.link ≡ c.args.link in
    let found = any_decides on _ c.args.spots.now (cases_from_any _ _ _ on (λ s. ¬ (on s)) c.any.ensures.ran
    (YieldsList-from_slice c.args.spots.now cc) (λ x q k. search (rules, tests)) (λ x q k. search (rules, tests))) in (
      λ yes. let s = found.0 yes in (plain_spot s.0, Contains-map plain_spot c.args.spots.now s.0 s.1, s.2),
      λ h.
          let s = Contains-from_map plain_spot c.args.spots.now h.0 h.1 in
          found.1 (s.0, s.1, subst (λ (p : PlainSpot). p.link ≡ c.args.link) (sym s.2) h.2),
    )
