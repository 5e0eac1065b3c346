use Rattle.hn_base.proofs.Names.{refl, arith}
use Rattle.hn_assign.proofs.FreePrefixes.{prefixes, found_free, none_free, none_in_longer}
use Rattle.hn_assign.proofs.TakenInside.{first_there, full_same}
use Rattle.hn_assign.proofs.index.Index.first_free.Goals as goal

pub returns-then-len-clause-none : goal.returns-then-len-clause-none
returns-then-len-clause-none c = none_in_longer c.within_is_not_shorter.ensures c.args.self.now c.args.outer.now c.args.len c.len.ensures.valid (omega arith)

pub returns-clause-first : goal.returns-clause-first
returns-clause-first c =
    first_there c.args.self.now c.taken_in.result.now c.args.outer.now c.args.len c.taken_in.ensures.part c.taken_in.ensures.all c.args.start c.first_free.result
    c.first_free.ensures.first c.first_free.ensures.inside

pub returns-clause-free : goal.returns-clause-free
returns-clause-free c =
    found_free c.args.self.now (prefixes c.args.self.now) c.args.outer.now c.args.start c.args.len c.first_free.result refl c.sub_prefixes_are_all.ensures
    (first_there c.args.self.now c.taken_in.result.now c.args.outer.now c.args.len c.taken_in.ensures.part c.taken_in.ensures.all c.args.start c.first_free.result
    c.first_free.ensures.first c.first_free.ensures.inside)

pub returns-clause-none : goal.returns-clause-none
returns-clause-none c =
    none_free c.args.self.now (prefixes c.args.self.now) c.args.outer.now c.args.len c.first_free.result refl c.sub_prefixes_are_all.ensures
    (full_same c.args.self.now c.taken_in.result.now c.args.outer.now c.args.len c.taken_in.ensures.part c.taken_in.ensures.all
    c.sub_prefixes_are_all.ensures c.first_free.result c.first_free.ensures.none)
