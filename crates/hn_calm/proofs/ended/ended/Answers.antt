use Rattle.hn_calm.proofs.ended.ended.Goals as goal

pub returns-then-branch : goal.returns-then-branch
returns-then-branch c runs = (c.in_ok-lasts_before.ensures c.args.now).0 c.if-branch.true
