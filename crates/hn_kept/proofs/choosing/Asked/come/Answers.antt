use Rattle.hn_base.proofs.Names.{subst}
use Rattle.rand_chacha.specs.ChaCha.{ChaCha}
use Rattle.hn_kept.specs.Choosing.{plain_asked, EventComesTo}
use Rattle.hn_kept.specs.Words.{listed_word}
use Rattle.hn_kept.proofs.Choosings.{comes_of_plan}
use Rattle.hn_kept.proofs.choosing.Asked.come.Goals as goal

pub returns : goal.returns
returns c =
    let ask = plain_asked c.args.self.now in
    subst (λ (g : ChaCha). EventComesTo ask (listed_word c.args.listed.now g) c.commit-words.result.words c.commit-words.new.self) c.copy.ensures
    (comes_of_plan ask (listed_word c.args.listed.now c.copy.result) _ c.in_ok-plan.plan c.commit-words.new.self c.commit-words.result
    c.in_ok-plan.ensures.happened c.in_ok-plan.ensures.drew c.commit-words.ensures.router c.commit-words.ensures.done)
