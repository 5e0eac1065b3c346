-- How many departed prefixes are told, and how many are kept.
use Rattle.hn_base.proofs.Names.{◌≡◌, ℕ, ◌+◌, ◌≤◌, List, ◌++◌, length, take, drop, map, arith, length-append, length-map}
use Rattle.hn_departed.proofs.Names.{length-drop, length-take, Info, Told, told_of, deprecated, departed, queue, with_departed, told_after}
use Rattle.hn_departed.specs.Laws.{FewAreKept}
use Rattle.hn_departed.proofs.FirstGoes.{length-kept}

few_told : (now : ℕ) (infos : List Info) (room : ℕ) (told : List Told) → length (with_departed now infos room told) ≤ length infos + room
few_told now infos room told =
    let first = take room (queue now infos told) in
    let all = length-append infos (map (deprecated now) first) in
    let as_many = length-map first (deprecated now) in
    let room_for = length-take room (queue now infos told) in
    omega (arith, all, as_many, room_for)

pub all_kept : {X : Type 0} (xs ys : List X) (room : ℕ) → length (xs ++ drop room ys ++ take room ys) ≡ length xs + length ys
all_kept xs ys room =
    let all = length-append (xs ++ drop room ys) (take room ys) in
    let front = length-append xs (drop room ys) in
    let dropped = length-drop room ys in
    let taken = length-take room ys in
    omega (arith, all, front, dropped, taken)

few_kept : (now : ℕ) (infos : List Info) (room : ℕ) (told : List Told) → length (told_after now infos room told) ≤ length infos + 64
few_kept now infos room told =
    let all = all_kept (map (told_of now) infos) (queue now infos told) room in
    let as_many = length-map infos (told_of now) in
    let few = length-kept (departed now infos told) in
    omega (arith, all, as_many, few)

pub few_are_kept : FewAreKept
few_are_kept = record { told = few_told; kept = few_kept }
