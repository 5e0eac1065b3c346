-- The reading of a capture, line by line.
use Rattle.hn_base.proofs.Names.{◌≡◌, ◌∙◌, ◌+◌, ◌<◌, ◌≤◌, ◌^◌, ℕ, List, [], ◌∷◌, ◌++◌, length, refl, sym, ap, subst, inl, inr, arith, append_assoc, length-append, AllZip, append-nil}
use Rattle.hn_forms.proofs.Names.{ScriptFault, HasTlvs, fed_of, watch_text, IsCapture, refused_line}
use Rattle.std.proofs.lemmas.List.Elements.{AllZip-push, length_all_zip}
use Rattle.hn_script.specs.Texts.{lines_of}
use Rattle.hn_watch.specs.declared.shown.Shown.{Shown}
use Rattle.hn_watch.specs.declared.watch.Watch.{Watch}
use Rattle.hn_watch.specs.Shown.{AreShownIn}
use Rattle.hn_watch.specs.Watch.{malformed_of, Holds}
use Rattle.hn_watch.specs.Laws.{ListsShow, HeldAfterMalformed}
use Rattle.hn_forms.specs.Watch.{IsCaptureLine, CaptureFault, CaptureFaultFrom, AreFed, IsWatched, IsRefusedCapture}
use Rattle.hn_forms.specs.Capture.{IsLineFed, HasFed, IsFedBy, IsTextOf}

-- ---- one more datagram

fed_shown : (datagrams : List (List ℕ)) (malformed : ℕ) (shown : List Shown) (datagram : List ℕ) (more : List Shown) → AreFed datagrams malformed shown → AreShownIn datagram more
    → AreFed (datagrams ++ datagram ∷ []) malformed (shown ++ more)
fed_shown [] malformed shown datagram more fed shows =
    inl (more, [], shows, (fed.0, refl), ap (λ (xs : List Shown). xs ++ more) fed.1 ∙ sym (append-nil more))
fed_shown (d ∷ ds) malformed shown datagram more (inl p) shows =
    inl (p.0, p.1 ++ more, p.2, fed_shown ds malformed p.1 datagram more p.3 shows, ap (λ (xs : List Shown). xs ++ more) p.4 ∙ append_assoc p.0 p.1 more)
fed_shown (d ∷ ds) malformed shown datagram more (inr q) shows = inr (q.0, q.1, fed_shown ds q.0 shown datagram more q.2 shows, q.3)

fed_malformed : (datagrams : List (List ℕ)) (malformed : ℕ) (shown : List Shown) (datagram : List ℕ) → AreFed datagrams malformed shown → ¬ HasTlvs datagram
    → AreFed (datagrams ++ datagram ∷ []) (malformed + 1) shown
fed_malformed [] malformed shown datagram fed none = inr (malformed, none, fed, refl)
fed_malformed (d ∷ ds) malformed shown datagram (inl p) none = inl (p.0, p.1, p.2, fed_malformed ds malformed p.1 datagram p.3 none, p.4)
fed_malformed (d ∷ ds) malformed shown datagram (inr q) none = inr (q.0 + 1, q.1, fed_malformed ds q.0 shown datagram q.2 none, ap (λ n. n + 1) q.3)

one_more : (datagrams : List (List ℕ)) (datagram : List ℕ) (count : ℕ) → count ≡ length datagrams → count + 1 ≡ length (datagrams ++ datagram ∷ [])
one_more datagrams datagram count is = let long = length-append datagrams (datagram ∷ []) in omega arith

fed_more : ListsShow → HeldAfterMalformed → (datagrams : List (List ℕ)) (datagram : List ℕ) (old new : Watch) → HasFed datagrams old
    → IsLineFed datagram old new → HasFed (datagrams ++ datagram ∷ []) new
fed_more shows still datagrams datagram old new has (inl s) =
    let more = shows datagram s.list in
    record {
      shown = has.shown ++ more.0;
      fed = subst (λ (n : ℕ). AreFed (datagrams ++ datagram ∷ []) n (has.shown ++ more.0)) (sym s.malformed) (fed_shown datagrams (malformed_of old) has.shown datagram more.0 has.fed more.1);
      holds = s.holds more.0 has.shown more.1 has.holds;
      count = s.fed ∙ one_more datagrams datagram (fed_of old) has.count;
    }
fed_more shows still datagrams datagram old new has (inr m) = record {
  shown = has.shown;
  fed = subst (λ (n : ℕ). AreFed (datagrams ++ datagram ∷ []) n has.shown) (sym m.1.malformed) (fed_malformed datagrams (malformed_of old) has.shown datagram has.fed m.0);
  holds = still has.shown old new m.1 has.holds;
  count = m.1.fed ∙ one_more datagrams datagram (fed_of old) has.count;
}

-- ---- up to a line

-- the lines before the rest were read, and the first of the rest has this number
pub record IsReadTo (bytes rest : List ℕ) (line : ℕ) (watch : Watch) : Type 0 where
  pub datagrams : List (List ℕ)
  pub front : List (List ℕ)
  pub lines : AllZip IsCaptureLine datagrams front
  pub parts : lines_of bytes ≡ front ++ lines_of rest
  pub has : HasFed datagrams watch
  pub number : line ≡ length front + 1
  pub within : length front + length rest ≤ length bytes

pub few_fed : (bytes rest : List ℕ) (line : ℕ) (watch : Watch) → IsReadTo bytes rest line watch → fed_of watch ≤ length bytes
few_fed bytes rest line watch read =
    let same = length_all_zip IsCaptureLine read.datagrams read.front read.lines in
    let count = read.has.count in
    let within = read.within in
    omega arith

pub none_read : (bytes : List ℕ) (watch : Watch) → fed_of watch ≡ 0 → malformed_of watch ≡ 0 → Holds [] watch → IsReadTo bytes bytes 1 watch
none_read bytes watch fed malformed holds = record {
  datagrams = [];
  front = [];
  lines = tt;
  parts = refl;
  has = record { shown = []; fed = (malformed, refl); holds = holds; count = fed };
  number = refl;
  within = omega arith;
}

pub read_more : ListsShow → HeldAfterMalformed → (bytes rest others text datagram : List ℕ) (line : ℕ) (old new : Watch)
    → IsReadTo bytes rest line old → lines_of rest ≡ text ∷ lines_of others → length others < length rest
    → IsCaptureLine datagram text → IsLineFed datagram old new → IsReadTo bytes others (line + 1) new
read_more shows still bytes rest others text datagram line old new read parts shorter is fed =
    let long = length-append read.front (text ∷ []) in
    let within = read.within in
    let number = read.number in
    record {
      datagrams = read.datagrams ++ datagram ∷ [];
      front = read.front ++ text ∷ [];
      lines = AllZip-push IsCaptureLine read.datagrams read.front datagram text read.lines is;
      parts = read.parts ∙ ap (λ xs. read.front ++ xs) parts ∙ sym (append_assoc read.front (text ∷ []) (lines_of others));
      has = fed_more shows still read.datagrams datagram old new read.has fed;
      number = omega arith;
      within = omega arith;
    }

pub all_read : (bytes rest : List ℕ) (line : ℕ) (watch : Watch) → IsReadTo bytes rest line watch → lines_of rest ≡ [] → IsFedBy bytes watch
all_read bytes rest line watch read ends = record {
  datagrams = read.datagrams;
  lines = subst (AllZip IsCaptureLine read.datagrams) (sym (read.parts ∙ ap (λ xs. read.front ++ xs) ends ∙ append-nil read.front)) read.lines;
  has = read.has;
}

-- ---- faults

-- a line of a capture has none
no_fault : (datagram text : List ℕ) → IsCaptureLine datagram text → (code : ℕ) → ¬ CaptureFault text code
no_fault datagram text is code (inl long) = let short = is.short in let over = long.0 in omega arith
no_fault datagram text is code (inr (fits, inl none)) = none.0 datagram is.hex
no_fault datagram text is code (inr (fits, inr other)) = other.1

fault_from : (datagrams front : List (List ℕ)) → AllZip IsCaptureLine datagrams front → (n : ℕ) (text : List ℕ) (texts : List (List ℕ)) (fault : ScriptFault) → CaptureFault text fault.code
    → fault.line ≡ length front + n → CaptureFaultFrom n (front ++ text ∷ texts) fault
fault_from [] [] all n text texts fault is line = inl (is, omega arith)
fault_from [] (t ∷ ts) all n text texts fault is line = absurd all
fault_from (d ∷ ds) [] all n text texts fault is line = absurd all
fault_from (d ∷ ds) (t ∷ ts) all n text texts fault is line = inr (no_fault d t all.0, fault_from ds ts all.1 (n + 1) text texts fault is (omega arith))

-- the first line with a fault, after the lines that were read
pub first_fault : (bytes rest others text : List ℕ) (line : ℕ) (watch : Watch) (fault : ScriptFault) → IsReadTo bytes rest line watch → lines_of rest ≡ text ∷ lines_of others
    → fault.line ≡ line → CaptureFault text fault.code → CaptureFaultFrom 1 (lines_of bytes) fault
first_fault bytes rest others text line watch fault read parts at is =
    subst (λ (ts : List (List ℕ)). CaptureFaultFrom 1 ts fault) (sym (read.parts ∙ ap (λ xs. read.front ++ xs) parts))
    (fault_from read.datagrams read.front read.lines 1 text (lines_of others) fault is (at ∙ read.number))

no_fault_from : (datagrams texts : List (List ℕ)) → AllZip IsCaptureLine datagrams texts → (n : ℕ) (fault : ScriptFault) → ¬ CaptureFaultFrom n texts fault
no_fault_from [] [] all n fault is = is
no_fault_from [] (t ∷ ts) all n fault is = all
no_fault_from (d ∷ ds) [] all n fault is = all
no_fault_from (d ∷ ds) (t ∷ ts) all n fault (inl here) = no_fault d t all.0 fault.code here.0
no_fault_from (d ∷ ds) (t ∷ ts) all n fault (inr later) = no_fault_from ds ts all.1 (n + 1) fault later.1

-- a capture is not refused
pub capture_passes : (bytes text : List ℕ) (datagrams : List (List ℕ)) → IsCapture bytes datagrams → ¬ IsRefusedCapture bytes text
capture_passes bytes text datagrams is (inl long) = let short = is.short in let over = long.0 in omega arith
capture_passes bytes text datagrams is (inr faulty) = no_fault_from datagrams (lines_of bytes) is.lines 1 faulty.fault faulty.first

-- ---- the text

pub watched : (bytes text : List ℕ) (watch : Watch) → length bytes ≤ 2 ^ 24 → IsFedBy bytes watch → IsTextOf watch text → IsWatched bytes text
watched bytes text watch short read told = record {
  datagrams = read.datagrams;
  capture = record { short = short; lines = read.lines };
  malformed = malformed_of watch;
  shown = read.has.shown;
  fed = read.has.fed;
  seen = told.seen;
  are_seen = told.are_seen read.has.shown read.has.holds;
  text_is = told.text_is ∙ ap (λ n. watch_text n (malformed_of watch) told.seen) read.has.count;
}

pub faulty : (bytes : List ℕ) (fault : ScriptFault) → length bytes ≤ 2 ^ 24 → CaptureFaultFrom 1 (lines_of bytes) fault → IsRefusedCapture bytes (refused_line fault.line fault.code)
faulty bytes fault short first = inr (record { short = short; fault = fault; first = first; text_is = refl })
