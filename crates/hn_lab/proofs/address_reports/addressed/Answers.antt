use Rattle.hn_base.proofs.Names.{rules, ◌≡◌, IsTrue, true, false, inl, inr, refl, name_text}
use Rattle.hn_lab.proofs.Names.{IsAddressStill, IsSettledByRules, Member, AreAddressesStill}
use Rattle.hn_lab.proofs.AddressSets.{are_alone}
use Rattle.hn_lab.proofs.Sets.{IsKnown, answers_of, named_runs}
use Rattle.hn_lab.proofs.address_reports.addressed.Goals as goal

pub returns-then-not-branch : goal.returns-then-not-branch
returns-then-not-branch c =
    let no : c.in_ok-settled.field-0 ≡ false = search rules in
    inl (λ settled. let yes : IsTrue c.in_ok-settled.field-0 = (c.in_ok-settled.ensures c.args.member.now c.requires.named).1 settled in absurd cc, refl)

pub returns-then-not-branch-2 : goal.returns-then-not-branch-2
returns-then-not-branch-2 c =
    let w = c.args.world.now.parts in
    let m = c.args.member.now in
    let yes : c.in_ok-settled.field-0 ≡ true = search rules in
    let no : c.in_ok-all_still.field-0 ≡ false = search rules in
    let settled : IsSettledByRules w m = (c.in_ok-settled.ensures m c.requires.named).0 yes in
    let law = answers_of (λ (s : Member). IsAddressStill s.router) w m c.in_ok-all_still.field-0 c.reach.result.now c.members.result.now c.reach.ensures c.members.ensures
    c.in_ok-all_still.ensures in
    let busy : ¬ AreAddressesStill w m = λ still. let rests : IsTrue c.in_ok-all_still.field-0 = law.1 still.1 in absurd cc in
    inr (inl (settled, busy, refl))

pub returns : goal.returns
returns c =
    let w = c.args.world.now.parts in
    let m = c.args.member.now in
    let yes : c.in_ok-settled.field-0 ≡ true = search rules in
    let rests : c.in_ok-all_still.field-0 ≡ true = search rules in
    let settled : IsSettledByRules w m = (c.in_ok-settled.ensures m c.requires.named).0 yes in
    let law = answers_of (λ (s : Member). IsAddressStill s.router) w m c.in_ok-all_still.field-0 c.reach.result.now c.members.result.now c.reach.ensures c.members.ensures
    c.in_ok-all_still.ensures in
    let still : AreAddressesStill w m = (settled, law.0 rests) in
    let known : IsKnown w m = record {
      sound = c.always_sound.ensures.sound;
      see = c.settled_see_each_other.ensures;
      replayed = c.is_replayed.ensures;
      runs = named_runs (name_text c.args.name.now) w m c.requires.running c.requires.named;
      settled = settled;
    } in
    inr (inr (still, are_alone c.own_version_is_said.ensures c.own_addresses_are_said.ensures c.still_addresses_stay.ensures w m known still, refl))
