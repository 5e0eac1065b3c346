use Rattle.hn_told.proofs.WhatIsTold.{TellLaws, told_apart}
use Rattle.hn_told.proofs.laws.hosts_are_told_apart.Goals as goal

pub returns : goal.returns
returns c =
    let laws : TellLaws = record {
      sound = c.plainly_sound.ensures;
      routers = c.always_sound.ensures.sound;
      trace = c.at_most_one_world.ensures.trace;
      version = c.at_most_one_world.ensures.version;
      used = c.plain_routers_are_the_same.ensures.used;
      unique = c.usable_is_unique.ensures;
      apart = c.usable_never_overlap.ensures;
      fit = c.lifetimes_fit.ensures;
      read = c.written_is_read.ensures;
      one_read = c.advert_is_unique.ensures;
    } in
    told_apart laws
