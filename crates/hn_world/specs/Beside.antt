-- What an event changes of a router's member beside the router.
use Rattle.std.specs.Prelude.{true}
use Rattle.hn_world.specs.declared.routed.Beside.{Beside}
use Rattle.hn_world.specs.declared.routed.Beside.TheVariants.{Nothing, Attachments, Runs}
use Rattle.hn_world.specs.declared.member.Member.{Member}

-- the member with it
abbrev pub with_beside : Beside → Member → Member
with_beside Nothing m = m
with_beside (Attachments attachments) m = record m { attachments = attachments }
with_beside Runs m = record m { running = true }
