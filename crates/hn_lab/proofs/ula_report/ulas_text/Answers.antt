use Rattle.hn_base.proofs.Names.{rules, ◌≡◌, IsTrue, true, false, List, filter, inl, inr, name_text}
use Rattle.hn_lab.proofs.Names.{is_in_set, IsSettledByRules, IsUlaStill, Member, ArePrefixesStill, HaveGenerated}
use Rattle.hn_lab.proofs.UlaSets.{ula_count}
use Rattle.hn_lab.proofs.Sets.{IsKnown, answers_of, list_of, named_runs}
use Rattle.hn_lab.proofs.ula_report.ulas_text.Goals as goal

pub returns-then-not-branch : goal.returns-then-not-branch
returns-then-not-branch c =
    let no : c.in_ok-settled.field-0 ≡ false = search rules in
    inl (λ settled. let yes : IsTrue c.in_ok-settled.field-0 = (c.in_ok-settled.ensures c.args.member.now c.requires.named).1 settled in absurd cc, c.in_ok-from_str.ensures.ok)

pub returns-then-not-branch-2 : goal.returns-then-not-branch-2
returns-then-not-branch-2 c =
    let w = c.args.world.now.parts in
    let m = c.args.member.now in
    let yes : c.in_ok-settled.field-0 ≡ true = search rules in
    let no : c.in_ok-all_still.field-0 ≡ false = search rules in
    let settled : IsSettledByRules w m = (c.in_ok-settled.ensures m c.requires.named).0 yes in
    let law = answers_of (λ (s : Member). IsUlaStill s.router) w m c.in_ok-all_still.field-0 c.reach-reach.result.now c.members-members.result.now c.reach-reach.ensures
    c.members-members.ensures c.in_ok-all_still.ensures in
    let busy : ¬ ArePrefixesStill w m = λ still. let rests : IsTrue c.in_ok-all_still.field-0 = law.1 still.1 in absurd cc in
    inr (inl (settled, busy, c.in_ok-from_str-2.ensures.ok))

pub returns : goal.returns
returns c =
    let w = c.args.world.now.parts in
    let m = c.args.member.now in
    let reach = c.reach-reach.result.now in
    let members = c.members-members.result.now in
    let yes : c.in_ok-settled.field-0 ≡ true = search rules in
    let rests : c.in_ok-all_still.field-0 ≡ true = search rules in
    let settled : IsSettledByRules w m = (c.in_ok-settled.ensures m c.requires.named).0 yes in
    let law = answers_of (λ (s : Member). IsUlaStill s.router) w m c.in_ok-all_still.field-0 reach members c.reach-reach.ensures c.members-members.ensures c.in_ok-all_still.ensures in
    let still : ArePrefixesStill w m = (settled, law.0 rests) in
    let known : IsKnown w m = record {
      sound = c.always_sound.ensures.sound;
      see = c.settled_see_each_other.ensures;
      replayed = c.is_replayed.ensures;
      runs = named_runs (name_text c.args.name.now) w m c.requires.running c.requires.named;
      settled = settled;
    } in
    let count = c.in_ok-count.count in
    let have : HaveGenerated (filter (is_in_set m.router.reach) w.members) count =
    list_of (λ (ms : List Member). HaveGenerated ms count) w m reach members c.reach-reach.ensures c.members-members.ensures c.in_ok-count.ensures in
    inr (inr (still, (count, ula_count c.view_is_a_network.ensures c.entries_are_as_known.ensures w m known still count have, c.in_ok-format.ensures.ok)))
