-- What is said of the bytes that were read is said of a source that has them.
use Rattle.hn_base.proofs.Names.{◌≢◌, ◌<◌, ◌≤◌, ◌^◌, ℕ, List, [], Option, None, Some, length, refl, inl, inr, arith, Consumes, IsWhole}
use Rattle.hn_forms.proofs.Names.{IoFault, NoMemory, IsCapture, WritesWatch, CutsWatch, StarvesWatch}
use Rattle.hn_base.proofs.WholeSources.{of_source}
use Rattle.hn_forms.specs.Watch.{IsWatchOf}

-- a source that tells its bytes has them, and of another any are possible
pub some_source : (R : List ℕ → Type 0) → ((whole read : List ℕ) → 2 ^ 24 < length read → length read ≤ length whole → R read → R whole)
    → (left after : Option (List ℕ)) (read : List ℕ) → Consumes left after read
    → (length read ≤ 2 ^ 24 → IsWhole left read) → R read → (bytes : List ℕ) × IsWhole left bytes × R bytes
some_source R longer None after read consumed whole holds = (read, tt, holds)
some_source R longer (Some left) after read consumed whole holds = (left, refl, of_source R longer (Some left) after read consumed whole holds)

-- what holds of all bytes holds of those of the source
pub any_source : (R : List ℕ → Type 0) → ((bytes : List ℕ) → R bytes) → (left : Option (List ℕ)) → (bytes : List ℕ) × IsWhole left bytes × R bytes
any_source R holds None = ([], tt, holds [])
any_source R holds (Some left) = (left, refl, holds left)

-- a source that is too long, of which one byte more was read
watch_longer : (status : ℕ) (text whole read : List ℕ) → 2 ^ 24 < length read → length read ≤ length whole → IsWatchOf read status text → IsWatchOf whole status text
watch_longer status text whole read long front (inl watched) = let short = watched.1.capture.short in absurd (omega arith)
watch_longer status text whole read long front (inr (is, inl refused)) = inr (is, inl (omega arith, refused.1))
watch_longer status text whole read long front (inr (is, inr faulty)) = let short = faulty.short in absurd (omega arith)

pub written_longer : (status : ℕ) (before after : Option (List ℕ)) (whole read : List ℕ) → 2 ^ 24 < length read → length read ≤ length whole
    → WritesWatch read status before after → WritesWatch whole status before after
written_longer status before after whole read long front written = (written.0, watch_longer status written.0 whole read long front written.1, written.2)

pub cut_watch_longer : (fault : IoFault) (before after : Option (List ℕ)) (whole read : List ℕ) → 2 ^ 24 < length read → length read ≤ length whole
    → CutsWatch read fault before after → CutsWatch whole fault before after
cut_watch_longer fault before after whole read long front cut = (cut.0, cut.1, watch_longer cut.0 cut.1 whole read long front cut.2, cut.3)

pub starved_longer : (before after : Option (List ℕ)) (whole read : List ℕ) → 2 ^ 24 < length read → length read ≤ length whole → StarvesWatch read before after → StarvesWatch whole before after
starved_longer before after whole read long front (inl nothing) = inl nothing
starved_longer before after whole read long front (inr cut) = inr (cut_watch_longer NoMemory before after whole read long front cut)

-- a source that is too long is no capture
pub capture_longer : (status : ℕ) (whole read : List ℕ) → 2 ^ 24 < length read → length read ≤ length whole → ((datagrams : List (List ℕ)) → IsCapture read datagrams → status ≢ 2)
    → (datagrams : List (List ℕ)) → IsCapture whole datagrams → status ≢ 2
capture_longer status whole read long front passes datagrams is = let short = is.short in absurd (omega arith)
