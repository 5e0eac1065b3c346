-- Worlds of a world's past.
use Rattle.hn_base.proofs.Names.{◌≡◌, ◌∙◌, List, ◌++◌, append_assoc, sym, ap, subst}
use Rattle.hn_audit.proofs.Names.{Traced, Version, Parts, Replays, IsReplayed, WorldHasItsTrace, WorldHasItsVersion}
use Rattle.hn_world.specs.Replay.{Always}

-- a world that a trace leads to is the replay of its own trace
pub replayed : WorldHasItsTrace → WorldHasItsVersion → (version : Version) (ts : List Traced) (w : Parts) → Replays version ts w → IsReplayed w
replayed traces versions version ts w leads =
    subst (λ (v : Version). Replays v w.trace w) (sym (versions version ts w leads))
    (subst (λ (trace : List Traced). Replays version trace w) (sym (traces version ts w leads)) leads)

-- what always held of a world always held of a world of its past
pub front_has_it : WorldHasItsTrace → WorldHasItsVersion → (P : Parts → Type 0) (w v : Parts) (past future : List Traced) → w.trace ≡ past ++ future
    → Replays w.version past v → Always P w → Always P v
front_has_it traces versions P w v past future split leads always before after splits =
    let here : past ≡ before ++ after = sym (traces w.version past v leads) ∙ splits in
    let whole : w.trace ≡ before ++ (after ++ future) = split ∙ ap (λ (ts : List Traced). ts ++ future) here ∙ append_assoc before after future in
    let then = always before (after ++ future) whole in
    (then.0, subst (λ (version : Version). Replays version before then.0) (sym (versions w.version past v leads)) then.1, then.2)
