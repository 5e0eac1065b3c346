use Rattle.hn_base.proofs.Names.{◌∙◌, Some, ap, subst, Took}
use Rattle.rand_chacha.specs.ChaCha.{ChaCha}
use Rattle.hn_rules.specs.declared.state.State.{State}
use Rattle.hn_router.specs.Act.{PlainEvent}
use Rattle.hn_ula.specs.Ula.{Decides}
use Rattle.hn_kept.specs.Words.{chacha_word}
use Rattle.hn_kept.specs.Kept.{Kept, Acts}
use Rattle.hn_kept.proofs.keeper.Keeper.ula.Goals as goal

pub returns-clause-ok : goal.returns-clause-ok
returns-clause-ok c =
    let k : Kept = c.args.self.now in
    let ula = c.in_ok-decided.decided in
    let next : ChaCha = c.decide.new.draw in
    let decided = c.in_ok-decided.ensures.decided in
    record {
      chosen = ula;
      words = decided.0;
      next = next;
      is_chosen = subst (λ (s : State). Decides s ula decided.0) (ap (λ (kept : Kept). kept.router) c.self.view_is) decided.1;
      took = subst (λ (g : ChaCha). Took (Some (chacha_word g)) decided.0 (Some (chacha_word next)))
          (c.copy-words.ensures ∙ ap (λ (kept : Kept). kept.words) c.self.view_is) decided.2;
      acts = subst (λ (e : PlainEvent). Acts c.args.now e (record k { words = next }) c.act_over.new.self) c.ula_event.ensures c.in_ok-act_over.ensures.ok;
    }
