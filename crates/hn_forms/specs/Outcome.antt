-- What `decode` and `watch` come to.
use Rattle.std.specs.Prelude.{◌≡◌, ◌≢◌, ◌⊎◌, ℕ, List, Option}
use Rattle.hn_base.specs.Input.{IsWhole}
use Rattle.hn_io.specs.declared.fault.IoFault.TheVariants.{Failed, NoMemory}
use Rattle.hn_forms.specs.Decode.{SpellsTlvs, WritesDecode, CutsDecode}
use Rattle.hn_forms.specs.Watch.{IsCapture, WritesWatch, CutsWatch, StarvesWatch}

-- what a sink holds after `decode`, by the status: the whole text; a proper front of it, where the sink failed; a front,
-- where memory ended
abbrev pub DecodeHolds : List ℕ → ℕ → Option (List ℕ) → Option (List ℕ) → Type 0
DecodeHolds bytes status before after =
    (((status ≡ 0) ⊎ (status ≡ 2)) × WritesDecode bytes status before after)
    ⊎ (((status ≡ 4) × CutsDecode bytes Failed before after) ⊎ ((status ≡ 6) × CutsDecode bytes NoMemory before after))

-- what `decode` comes to, by the bytes that its source has left, where it tells them
pub record IsDecodeRun (left : Option (List ℕ)) (status : ℕ) (before after : Option (List ℕ)) : Type 0 where
  pub bytes : List ℕ
  pub are_whole : IsWhole left bytes
  pub holds : DecodeHolds bytes status before after
  pub only : SpellsTlvs bytes → status ≢ 2

-- the same of `watch`
abbrev pub WatchHolds : List ℕ → ℕ → Option (List ℕ) → Option (List ℕ) → Type 0
WatchHolds bytes status before after =
    (((status ≡ 0) ⊎ (status ≡ 2)) × WritesWatch bytes status before after)
    ⊎ (((status ≡ 4) × CutsWatch bytes Failed before after) ⊎ ((status ≡ 6) × StarvesWatch bytes before after))

pub record IsWatchRun (left : Option (List ℕ)) (status : ℕ) (before after : Option (List ℕ)) : Type 0 where
  pub bytes : List ℕ
  pub are_whole : IsWhole left bytes
  pub holds : WatchHolds bytes status before after
  pub only : (datagrams : List (List ℕ)) → IsCapture bytes datagrams → status ≢ 2
