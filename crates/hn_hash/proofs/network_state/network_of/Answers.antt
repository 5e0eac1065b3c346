use Rattle.hn_base.proofs.Names.{◌≡◌, ◌<◌, ◌^◌, ◌∙◌, [], List, take, get_or, ap, arith, subst, All, common_steps, All-more}
use Rattle.hn_hash.proofs.Names.{hash_of, part_text, Part}
use Rattle.hn_hash.proofs.PartsOfLeaves.{part_text-map, AreNumbered-from_parts}
use Rattle.hn_hash.proofs.network_state.network_of.Goals as goal

pub loop-part-preserved : goal.loop-part-preserved
loop-part-preserved c =
    let P : Part → Type 0 = λ part. part.number < 2 ^ 32 in
    let none : Part = record { number = 0; hash = [] } in
    let fits : P (get_or c.args.parts.now c.loop-part.part-index none) = omega arith in
    record {
      held = grind (arith, common_steps);
      numbered = All-more P c.args.parts.now c.loop-part.part-index none c.loop-part-test.true c.loop-part.invariant.numbered fits;
    }

pub returns-clause-leaves : goal.returns-clause-leaves
returns-clause-leaves c leaves are =
    let hashed : c.front_of.result ≡ hash_of (part_text c.args.parts.now) = grind (arith, common_steps) in
    hashed ∙ ap (λ parts. hash_of (part_text parts)) are ∙ ap hash_of (part_text-map leaves)

pub returns-clause-numbered : goal.returns-clause-numbered
returns-clause-numbered c leaves are =
    let whole : take c.loop-part.part-index c.args.parts.now ≡ c.args.parts.now = grind (arith, common_steps) in
    let P : List Part → Type 0 = λ parts. All (λ (part : Part). part.number < 2 ^ 32) parts in
    AreNumbered-from_parts c.args.parts.now leaves (subst P whole c.loop-part.invariant.numbered) are
