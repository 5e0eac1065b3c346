-- What forms come to.
use Rattle.hn_base.proofs.Names.{◌≡◌, ◌≢◌, ◌<◌, ◌≤◌, ◌^◌, ◌⊎◌, ℕ, zero, suc, List, [], ◌∷◌, Option, length, inl, inr, sym, arith, Consumes, IsWhole}
use Rattle.hn_forms.proofs.Names.{Contains, Failed, NoMemory, SpellsTlvs, IsDecodeOf, WatchHolds, IsCapture}
use Rattle.hn_forms.specs.Outcome.{DecodeHolds, IsDecodeRun, IsWatchRun}
use Rattle.hn_forms.proofs.Sources.{decode_longer, cut_longer}
use Rattle.hn_forms.proofs.Streams.{AppendsFront-none}
use Rattle.std.proofs.KnownBytes.{Appends-nil}
use Rattle.hn_forms.proofs.WatchSources.{some_source, any_source, written_longer, cut_watch_longer, starved_longer, capture_longer}

-- ---- by the status

-- of four statuses each has its case
pub by_status : (status : ℕ) (W B S : Type 0) → Contains (0 ∷ 2 ∷ 4 ∷ 6 ∷ []) status → ((status ≡ 0) ⊎ (status ≡ 2) → W) → (status ≡ 4 → B) → (status ≡ 6 → S)
    → (((status ≡ 0) ⊎ (status ≡ 2)) × W) ⊎ (((status ≡ 4) × B) ⊎ ((status ≡ 6) × S))
by_status status W B S (zero, within, is) written broken starved = inl (inl (sym is), written (inl (sym is)))
by_status status W B S (suc zero, within, is) written broken starved = inl (inr (sym is), written (inr (sym is)))
by_status status W B S (suc (suc zero), within, is) written broken starved = inr (inl (sym is, broken (sym is)))
by_status status W B S (suc (suc (suc zero)), within, is) written broken starved = inr (inr (sym is, starved (sym is)))
by_status status W B S (suc (suc (suc (suc k))), within, is) written broken starved = absurd (omega arith)

-- ---- `decode`

abbrev DecodesSo : ℕ → Option (List ℕ) → Option (List ℕ) → List ℕ → Type 0
DecodesSo status before after bytes = DecodeHolds bytes status before after × (SpellsTlvs bytes → status ≢ 2)

decodes_longer : (status : ℕ) (before after : Option (List ℕ)) (whole read : List ℕ) → 2 ^ 24 < length read → length read ≤ length whole
    → DecodesSo status before after read → DecodesSo status before after whole
decodes_longer status before after whole read long front (inl written, only) =
    (inl (written.0, decode_longer status before after whole read long front written.1), λ spells. let short = spells.short in absurd (omega arith))
decodes_longer status before after whole read long front (inr (inl broken), only) =
    (inr (inl (broken.0, cut_longer Failed before after whole read long front broken.1)), λ spells. let short = spells.short in absurd (omega arith))
decodes_longer status before after whole read long front (inr (inr starved), only) =
    (inr (inr (starved.0, cut_longer NoMemory before after whole read long front starved.1)), λ spells. let short = spells.short in absurd (omega arith))

decode_from : (left : Option (List ℕ)) (status : ℕ) (before after : Option (List ℕ)) → (bytes : List ℕ) × IsWhole left bytes
    × DecodesSo status before after bytes → IsDecodeRun left status before after
decode_from left status before after h = record { bytes = h.0; are_whole = h.1; holds = h.2.0; only = h.2.1 }

-- of the bytes that were read
pub decode_read : (left rest : Option (List ℕ)) (read : List ℕ) (status : ℕ) (before after : Option (List ℕ)) → Consumes left rest read → (length read ≤ 2 ^ 24 → IsWhole left read)
    → DecodeHolds read status before after → (SpellsTlvs read → status ≢ 2) → IsDecodeRun left status before after
decode_read left rest read status before after consumed whole holds only =
    decode_from left status before after (some_source (DecodesSo status before after) (decodes_longer status before after) left rest read consumed whole (holds, only))

-- of a source that was not read
pub decode_unread : ((bytes : List ℕ) → (status : ℕ) × (text : List ℕ) × IsDecodeOf bytes status text)
    → (left : Option (List ℕ)) (status : ℕ) (held : Option (List ℕ)) → status ≡ 6 → IsDecodeRun left status held held
decode_unread decodes left status held is =
    decode_from left status held held
    (any_source (DecodesSo status held held) (λ bytes. let told = decodes bytes in (inr (inr (is, (told.0, told.1, told.2, AppendsFront-none held told.1))), λ spells two. absurd (omega arith))) left)

-- ---- `watch`

abbrev WatchesSo : ℕ → Option (List ℕ) → Option (List ℕ) → List ℕ → Type 0
WatchesSo status before after bytes = WatchHolds bytes status before after × ((datagrams : List (List ℕ)) → IsCapture bytes datagrams → status ≢ 2)

watches_longer : (status : ℕ) (before after : Option (List ℕ)) (whole read : List ℕ) → 2 ^ 24 < length read → length read ≤ length whole
    → WatchesSo status before after read → WatchesSo status before after whole
watches_longer status before after whole read long front (inl written, only) =
    (inl (written.0, written_longer status before after whole read long front written.1), capture_longer status whole read long front only)
watches_longer status before after whole read long front (inr (inl broken), only) =
    (inr (inl (broken.0, cut_watch_longer Failed before after whole read long front broken.1)), capture_longer status whole read long front only)
watches_longer status before after whole read long front (inr (inr starved), only) =
    (inr (inr (starved.0, starved_longer before after whole read long front starved.1)), capture_longer status whole read long front only)

watch_from : (left : Option (List ℕ)) (status : ℕ) (before after : Option (List ℕ)) → (bytes : List ℕ) × IsWhole left bytes × WatchesSo status before after bytes → IsWatchRun left status before after
watch_from left status before after h = record { bytes = h.0; are_whole = h.1; holds = h.2.0; only = h.2.1 }

pub watch_read : (left rest : Option (List ℕ)) (read : List ℕ) (status : ℕ) (before after : Option (List ℕ)) → Consumes left rest read → (length read ≤ 2 ^ 24 → IsWhole left read)
    → WatchHolds read status before after → ((datagrams : List (List ℕ)) → IsCapture read datagrams → status ≢ 2) → IsWatchRun left status before after
watch_read left rest read status before after consumed whole holds only =
    watch_from left status before after (some_source (WatchesSo status before after) (watches_longer status before after) left rest read consumed whole (holds, only))

pub watch_unread : (left : Option (List ℕ)) (status : ℕ) (held : Option (List ℕ)) → status ≡ 6 → IsWatchRun left status held held
watch_unread left status held is =
    watch_from left status held held
    (any_source (WatchesSo status held held) (λ bytes. (inr (inr (is, inl (Appends-nil held))), λ datagrams capture two. absurd (omega arith))) left)
