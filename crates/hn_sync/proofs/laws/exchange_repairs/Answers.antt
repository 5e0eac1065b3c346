use Rattle.hn_sync.proofs.Repaired.{exchange_repairs}
use Rattle.hn_sync.proofs.laws.exchange_repairs.Goals as goal

pub returns : goal.returns
returns c =
    exchange_repairs (record {
      going = record {
        turns = record {
          read = record {
            one_item = c.item_is_unique.ensures;
            no_fault = c.item_fault_is_unique.ensures.no_item;
            written = c.written_is_read.ensures;
            packing = c.packing_is_read.ensures;
          };
          entries = record {
            eight = c.hash_has_eight_bytes.ensures;
            of_bytes = c.list_is_of_bytes.ensures;
            of_entry = c.held_is_of_an_entry.ensures;
          };
          tables = record {
            of_entry = c.held_is_of_an_entry.ensures;
            marks = c.loss_keeps_table.ensures.marks;
            put_one = c.put_changes_one_node.ensures;
            others = c.others_stay.ensures;
            accept = c.acceptance_keeps_table.ensures;
            brought = c.held_was_brought.ensures.state;
          };
          rests = c.refresh_after_a_refresh_rests.ensures;
          sole = c.rules_have_one_result.ensures.refresh;
          items = c.items_are_published.ensures;
        };
        world = record {
          sound = c.always_sound.ensures.sound;
          trace = c.at_most_one_world.ensures.trace;
          version = c.at_most_one_world.ensures.version;
          endpoints = c.endpoints_follow.ensures;
        };
        one_list = c.list_is_unique.ensures;
        no_fault = c.first_fault_is_unique.ensures.no_list;
        moment = c.moment_is_now.ensures;
      };
      entered = c.each_event_is_entered.ensures.entered;
    })
