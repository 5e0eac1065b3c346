use Rattle.hn_base.proofs.Names.{false≢true, false, Option, refl, ap}
use Rattle.std.specs.Option.{option_map_or}
use Rattle.hn_world.specs.declared.member.Member.{Member}
use Rattle.hn_lab_c.proofs.Named.{no_name}
use Rattle.hn_lab_c.proofs.asked.running.Goals as goal

pub returns-in_default-clause-none : goal.returns-in_default-clause-none
returns-in_default-clause-none c =
    let nobody = no_name c.args.text.now c.args.world.now.parts (λ is. absurd (false≢true (c.in_default.ensures.found.1 is))) in
    (λ _. ap (λ (there : Option Member). option_map_or (λ m. m.running) there false) nobody, λ _. refl)
