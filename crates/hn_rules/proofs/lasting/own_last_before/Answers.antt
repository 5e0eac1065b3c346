use Rattle.hn_base.proofs.Names.{◌∙◌, sym}
use Rattle.hn_rules.proofs.LastsBefore.{own_cut}
use Rattle.hn_rules.proofs.lasting.own_last_before.Goals as goal

pub returns : goal.returns
returns c =
    own_cut c.ending_is_a_moment.ensures c.args.own.now c.args.best c.next_end.result (sym c.needs_end.ensures.ended ∙ c.if-needs_end.false) c.next_end.ensures
