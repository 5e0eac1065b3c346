-- An advertisement has 16 bytes, and 32 for each prefix.
use Rattle.hn_base.proofs.Names.{◌≡◌, ℕ, ◌+◌, ◌*◌, ◌≤◌, List, [], ◌∷◌, length, map, refl, subst, sym, arith, length-append}
use Rattle.std.proofs.Math.Nat.{mul-div-le}
use Rattle.std.specs.Prelude.{◌-◌, ◌/◌}
use Rattle.hn_base.specs.declared.ids.EpId.{EpId}
use Rattle.hn_advert.specs.declared.advert.Advert.{Advert}
use Rattle.hn_advert.specs.declared.advert.Info.{Info}
use Rattle.hn_advert.specs.Layout.{option_bytes, header_bytes}
use Rattle.hn_advert.specs.Advert.{option_of, options_bytes, header_of, advert_bytes}
use Rattle.hn_departed.specs.declared.departures.Told.{Told}
use Rattle.hn_departed.specs.Departed.{with_departed, told_at}
use Rattle.hn_departed.specs.Laws.{FewAreKept}
use Rattle.hn_kept.specs.Kept.{Kept, IsNextAdvert, room_beside}

length-option : (i : Info) → length (option_bytes (option_of i)) ≡ 32
length-option i = refl

length-header : (a : Advert) → length (header_bytes (header_of a)) ≡ 16
length-header a = refl

length-options : (infos : List Info) → length (options_bytes (map option_of infos)) ≡ 32 * length infos
length-options [] = refl
length-options (i ∷ is) =
    let all = length-append (option_bytes (option_of i)) (options_bytes (map option_of is)) in
    let one = length-option i in
    let rest = length-options is in
    omega (arith, all, one, rest)

length-advert : (a : Advert) → length (advert_bytes a) ≡ 16 + 32 * length a.infos
length-advert a =
    let all = length-append (header_bytes (header_of a)) (options_bytes (map option_of a.infos)) in
    let header = length-header a in
    let options = length-options a.infos in
    omega (arith, all, header, options)

-- so many prefixes have room
in_room : (options : ℕ) → 32 * ((1232 - 16 - options) / 32) ≤ 1232 - 16 - options
in_room options = mul-div-le (1232 - 16 - options) 32

-- how many bytes the next one has
size : FewAreKept → (k : Kept) (at : EpId) (options : ℕ) (bytes : List ℕ) (told : List (EpId × Told)) (next : IsNextAdvert k at options bytes told)
    → length bytes ≤ 16 + 32 * (length next.advert.infos + room_beside options (length next.advert.infos))
size are_few k at options bytes told next =
    let count = length next.advert.infos in
    let infos = with_departed k.router.moment next.advert.infos (room_beside options count) (told_at at k.told) in
    let few : length infos ≤ count + room_beside options count = are_few.told k.router.moment next.advert.infos (room_beside options count) (told_at at k.told) in
    let all = length-advert (record next.advert { infos = infos }) in
    let short : length (advert_bytes (record next.advert { infos = infos })) ≤ 16 + 32 * (count + room_beside options count) = omega (arith, few, all) in
    subst (λ (bs : List ℕ). length bs ≤ 16 + 32 * (count + room_beside options count)) (sym next.bytes_are) short

pub is_short : FewAreKept → (k : Kept) (at : EpId) (options : ℕ) (bytes : List ℕ) (told : List (EpId × Told)) → IsNextAdvert k at options bytes told
    → length bytes ≤ 1232
is_short are_few k at options bytes told next =
    let most = size are_few k at options bytes told next in
    let room = in_room options in
    omega (arith, most, room, next.few)

-- with 192 bytes of options or fewer
pub is_short_beside : FewAreKept → (k : Kept) (at : EpId) (options : ℕ) (bytes : List ℕ) (told : List (EpId × Told)) → IsNextAdvert k at options bytes told
    → options ≤ 192 → length bytes + options ≤ 1232
is_short_beside are_few k at options bytes told next small =
    let most = size are_few k at options bytes told next in
    let room = in_room options in
    omega (arith, most, room, next.few, small)
