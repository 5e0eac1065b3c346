use Rattle.hn_calm.proofs.text.push_uncalm.Goals as goal

pub returns-in-Unheard : goal.returns-in-Unheard
returns-in-Unheard c = rw c.in-Unheard.is c.say-in-Unheard.ensures

pub returns-in-Missed : goal.returns-in-Missed
returns-in-Missed c = rw c.in-Missed.is c.say-in-Missed.ensures
