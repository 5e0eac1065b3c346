use Rattle.hn_base.proofs.Names.{◌∙◌, List, ap, sym, refl, rules}
use Rattle.hn_hash.specs.Hash.{hash_of}
use Rattle.hn_hash.specs.Network.{part_text}
use Rattle.hn_hash.specs.declared.part.Part.{Part}
use Rattle.hn_own.specs.Own.{PlainData}
use Rattle.hn_own.specs.declared.own.OwnItems.{OwnItems}
use Rattle.hn_router.proofs.FirstState.{items_at_first, part_at_first}
use Rattle.hn_router.proofs.router.new_state.Goals as goal

pub returns : goal.returns
returns c =
    let own = c.in_ok-own.ensures in
    let lists = c.in_ok-delegated.ensures in
    let ends = c.in_ok-ports.ensures in
    let nodes = c.in_ok-table.ensures in
    record {
      id_is = refl;
      number_is = refl;
      moment_is = search rules;
      caps_are = search rules;
      own_is = search rules;
      born_is = search rules;
      items_are = ap (λ (d : PlainData). d.items) own
          ∙ items_at_first c.items.result.now.caps c.in_ok-ports.ports c.in_ok-delegated.delegated c.in_ok-delegated.held c.in_ok-ports.addresses c.args.own.items
          (ap (λ (items : OwnItems). items.caps) c.items.ensures) c.requires.no_links c.requires.no_prefixes c.requires.nothing_assigned c.requires.no_addresses
          ends.ports lists.delegated lists.held ends.addresses;
      no_prefixes = search rules;
      nothing_held = search rules;
      unclaimed = refl;
      no_private = refl;
      no_addresses = search rules;
      ports_are = search rules;
      table_is = search rules;
      reach_is = search rules;
      net_is = c.network_of.ensures.hash ∙ ap (λ (parts : List Part). hash_of (part_text parts))
          (part_at_first c.args.id c.in_ok-table.table.entries c.hash.result c.in_ok-own.own.hash c.in_ok-table.reach nodes.reach
          (c.hash.ensures ∙ sym (ap (λ (d : PlainData). d.hash) own)));
      due_is = refl;
    }
