-- With nothing preferred an event takes the generator's next words, and those after them come next.
use Rattle.hn_base.proofs.Names.{List, [], sym, subst, Some, Took}
use Rattle.rand_chacha.specs.ChaCha.{ChaCha}
use Rattle.hn_kept.specs.declared.preferred.Preferred.{Preferred}
use Rattle.hn_kept.specs.Words.{chacha_word, AreDrawn}
use Rattle.hn_kept.specs.Laws.{NothingPreferred}
use Rattle.hn_kept.proofs.Stream.{took_first}
use Rattle.hn_kept.proofs.DrawnWords.{drawn_of_none}

pub nothing_preferred : NothingPreferred
nothing_preferred now event before after acts none =
    let words = after.done.words in
    let drawn : AreDrawn [] before.words words = subst (λ (fs : List Preferred). AreDrawn fs before.words words) none acts.drew in
    subst (λ (g : ChaCha). Took (Some (chacha_word before.words)) words (Some (chacha_word g))) (sym acts.words)
    (took_first before.words words (drawn_of_none before.words words drawn))
