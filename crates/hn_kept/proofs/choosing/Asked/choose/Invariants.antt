use Rattle.hn_base.proofs.Names.{◌-◌, ◌^◌, length}
use Rattle.hn_kept.specs.Choosing.{plain_asked, EventComesTo, AreBest}
use Rattle.hn_kept.specs.Words.{listed_word, AreDrawn}
use Rattle.hn_kept.proofs.choosing.Asked.choose.Given as goal

abbrev pub invariant-loop-own : goal.invariant-loop-own
invariant-loop-own l = record {
  comes : EventComesTo (plain_asked l.self) (listed_word l.chosen l.self.words.now) l.words l.own;
  drawn : AreDrawn l.self.preferred.now l.self.words.now l.chosen;
  best : AreBest (plain_asked l.self) l.chosen;
}

abbrev pub decreases-loop-own : goal.decreases-loop-own
decreases-loop-own l = 2 ^ 64 - length l.chosen
