use Rattle.hn_prefix.proofs.SearchParts.{found_after, found_before, free_of_both}
use Rattle.hn_prefix.proofs.free.overlapping.Goals as goal

pub returns-in-Some-clause-found : goal.returns-in-Some-clause-found
returns-in-Some-clause-found c =
    found_after c.args.taken.now c.args.p.now c.args.from c.requires _ c.in-Some.at c.split_at.ensures.back c.in-Some.ensures.found

pub returns-in-None-clause-found : goal.returns-in-None-clause-found
returns-in-None-clause-found c =
    found_before c.args.taken.now c.args.p.now c.args.from c.requires _ c.first_overlapping-in-None.result c.split_at.ensures.front c.first_overlapping-in-None.ensures.found

pub returns-in-None-clause-none : goal.returns-in-None-clause-none
returns-in-None-clause-none c =
    free_of_both c.args.taken.now c.args.p.now c.args.from c.requires _ _ c.first_overlapping-in-None.result c.split_at.ensures.front c.split_at.ensures.back
    c.in-None.ensures.none c.first_overlapping-in-None.ensures.none
