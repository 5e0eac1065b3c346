-- Prefixes that were advertised and are no longer (RFC 9096, section 3.5). Moments are in milliseconds, lifetimes in seconds.
use Rattle.std.specs.Prelude.{ℕ, zero, suc, ◌+◌, ◌-◌, ◌*◌, ◌/◌, ◌==◌, ◌&&◌, not, nat_lt, nat_le, min, Bool, List, [], ◌∷◌, ◌++◌, length, take, drop, map, Some, None, is_some, unwrap_or, if◌then◌else◌}
use Rattle.std.specs.List.{filter, list_any}
use Rattle.hn_base.specs.Prefix.{PlainPrefix}
use Rattle.hn_base.specs.declared.ids.EpId.{EpId}
use Rattle.hn_advert.specs.declared.advert.Info.{Info}
use Rattle.hn_departed.specs.declared.departures.Told.{Told}

-- when a lifetime ends that begins now; 2^64 - 1 where it never does
abbrev pub until_of : ℕ → ℕ → ℕ
until_of now valid = if valid == 4294967295 then 18446744073709551615 else min (now + 1000 * valid) 18446744073709551615

-- what is left of it in whole seconds, rounded down
abbrev pub left_of : ℕ → ℕ → ℕ
left_of now until = if until == 18446744073709551615 then 4294967295 else min ((until - now) / 1000) 4294967294

-- what is told of a prefix that is advertised now
abbrev pub told_of : ℕ → Info → Told
told_of now info = record { prefix = info.prefix; until = until_of now info.valid; departed = None }

-- a prefix that was told, and is not to be preferred
abbrev pub deprecated : ℕ → Told → Info
deprecated now told = record { prefix = told.prefix; valid = left_of now told.until; preferred = 0 }

-- ---- which have departed

-- whether a prefix is among those
abbrev pub is_prefix_among : PlainPrefix → List Info → Bool
is_prefix_among prefix infos = list_any (λ info. info.prefix.bits == prefix.bits && info.prefix.len == prefix.len) infos

-- whether what was told has not ended and is not among those
abbrev pub is_departed : ℕ → List Info → Told → Bool
is_departed now infos told = nat_lt now told.until && not (is_prefix_among told.prefix infos)

-- What is gone has departed, now if it has not before. From then on it is told for 7,200 s at most: a host that hears of it
-- keeps it for no longer (RFC 4862, section 5.5.3 e).
abbrev pub departs : ℕ → Told → Told
departs now told = record {
  prefix = told.prefix;
  until = if is_some told.departed then told.until else min told.until (until_of now 7200);
  departed = Some (unwrap_or told.departed now);
}

-- all of what was told that is gone
abbrev pub departed : ℕ → List Info → List Told → List Told
departed now infos told = map (departs now) (filter (is_departed now infos) told)

-- ---- how many are kept

-- the moment of departure
abbrev pub since : Told → ℕ
since told = unwrap_or told.departed 0

-- without the one that departed first; of those that did at one moment without the last of the list
abbrev pub without_first : List Told → List Told
without_first [] = []
without_first (t ∷ ts) = if list_any (λ u. nat_le (since u) (since t)) ts then t ∷ without_first ts else ts

-- so many times
abbrev pub without : ℕ → List Told → List Told
without zero queue = queue
without (suc times) queue = without times (without_first queue)

-- at most 64 are kept: with a 65th the one goes that departed first
abbrev pub kept : List Told → List Told
kept queue = without (length queue - 64) queue

-- ---- an advertisement, in which there is room for so many departed ones

-- The departed ones that are kept, in the order in which they are told: those that depart now come first.
abbrev pub queue : ℕ → List Info → List Told → List Told
queue now infos told = kept (departed now infos told)

-- its prefixes: those that are to be advertised, and after them the first departed ones
abbrev pub with_departed : ℕ → List Info → ℕ → List Told → List Info
with_departed now infos room told = infos ++ map (deprecated now) (take room (queue now infos told))

-- What is told after it. The departed ones that were told have their next turn after the others.
abbrev pub told_after : ℕ → List Info → ℕ → List Told → List Told
told_after now infos room told = map (told_of now) infos ++ drop room (queue now infos told) ++ take room (queue now infos told)

-- ---- on endpoints

-- what was told on an endpoint
abbrev pub told_at : EpId → List (EpId × Told) → List Told
told_at at told = map (λ t. t.1) (filter (λ t. t.0.0 == at.0) told)

-- what was told on the others, and has not ended
abbrev pub told_beside : ℕ → EpId → List (EpId × Told) → List (EpId × Told)
told_beside now at told = filter (λ t. not (t.0.0 == at.0) && nat_lt now t.1.until) told

-- this is what was told on the endpoint now
abbrev pub with_told : ℕ → EpId → List Told → List (EpId × Told) → List (EpId × Told)
with_told now at here told = told_beside now at told ++ map (λ t. (at, t)) here

-- ---- what was told in an earlier life

-- all but a prefix on an endpoint
abbrev pub told_but : EpId → PlainPrefix → List (EpId × Told) → List (EpId × Told)
told_but at prefix told = filter (λ t. not (t.0.0 == at.0 && (t.1.prefix.bits == prefix.bits && t.1.prefix.len == prefix.len))) told

-- with a prefix that was told on an endpoint in an earlier life, and is valid for so many seconds from now on
abbrev pub with_earlier : ℕ → EpId → PlainPrefix → ℕ → List (EpId × Told) → List (EpId × Told)
with_earlier now at prefix valid told = told_but at prefix told ++ (at, record { prefix = prefix; until = until_of now valid; departed = None }) ∷ []
