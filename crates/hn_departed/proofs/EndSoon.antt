-- What has departed is told for at most 7,200 s from then on.
use Rattle.hn_base.proofs.Names.{ℕ, ◌+◌, ◌*◌, ◌-◌, ◌≤◌, min, cond, List, ◌++◌, length, take, drop, map, Option, None, Some, refl, arith, unwrap_or, All, false≢true, All-append, All-take, All-map}
use Rattle.hn_base.proofs.Names.{All-filter, All-weaker, All-contains}
use Rattle.hn_departed.proofs.Names.{is_some, filter, All-drop, all_of, Told, told_of, is_departed, departs, departed, kept, queue}
use Rattle.std.specs.Prelude.{IsTrue}
use Rattle.hn_departed.specs.Departed.{until_of}
use Rattle.hn_departed.specs.Laws.{EndsSoon, DepartedEndSoon}
use Rattle.hn_departed.proofs.FirstGoes.{without_in}

ends_by : (now until : ℕ) (departed : Option ℕ) → (IsTrue (is_some departed) → until ≤ unwrap_or departed 0 + 7200 * 1000)
    → cond (is_some departed) until (min until (until_of now 7200)) ≤ unwrap_or departed now + 7200 * 1000
ends_by now until None soon = omega arith
ends_by now until (Some moment) soon = soon refl

departs_soon : (now : ℕ) (told : Told) → EndsSoon told → EndsSoon (departs now told)
departs_soon now told soon _ = ends_by now told.until told.departed soon

-- what all has that departed, what is kept has
pub all_kept : (P : Told → Type 0) (told : List Told) → All P told → All P (kept told)
all_kept P told all = all_of P (kept told) (λ t there. All-contains P told t all (without_in (length told - 64) told t there))

pub departed_end_soon : DepartedEndSoon
departed_end_soon now infos room told all =
    let gone : All EndsSoon (filter (is_departed now infos) told) = All-filter (is_departed now infos) EndsSoon told all in
    let now_departed : All EndsSoon (departed now infos told) =
    All-map EndsSoon (departs now) (filter (is_departed now infos) told) (All-weaker EndsSoon (λ t. EndsSoon (departs now t)) (departs_soon now) (filter (is_departed now infos) told) gone) in
    let few : All EndsSoon (queue now infos told) = all_kept EndsSoon (departed now infos told) now_departed in
    let held : All EndsSoon (map (told_of now) infos) =
    All-map EndsSoon (told_of now) infos (all_of (λ info. EndsSoon (told_of now info)) infos (λ info there never. absurd (false≢true never))) in
    All-append EndsSoon (map (told_of now) infos ++ drop room (queue now infos told)) (take room (queue now infos told))
    (All-append EndsSoon (map (told_of now) infos) (drop room (queue now infos told)) held (All-drop EndsSoon room (queue now infos told) few))
    (All-take EndsSoon room (queue now infos told) few)
