-- The text of a list of TLVs, TLV by TLV.
use Rattle.hn_base.proofs.Names.{◌≡◌, ℕ, zero, suc, ◌+◌, ◌-◌, ◌≤◌, List, [], ◌∷◌, ◌++◌, length, drop, refl, sym, ap, subst, ◌∙◌, append_assoc, arith, inl, inr, Result, Ok, Err, append-nil, drop_all}
use Rattle.hn_decode.proofs.Names.{OnOk, TlvFault, PlainTlv, tlv_size, HasTlvs, FirstFault, ListHasNoFirstFault, PlainItem, within, IsLineAbove, IsLineAlone, TextsInOrder, ShowsList, place_within}
use Rattle.hn_decode.proofs.Names.{IsShownTo, GrowsByText}
use Rattle.std.proofs.Common.{IfErr, IsOk}
use Rattle.hn_tlv.specs.Grammar.{IsTlvAt, IsFault}
use Rattle.hn_tlv.specs.Laws.{ListSplits}
use Rattle.hn_decode.specs.Nested.{Shows}

pub shown_none : (Shows : ℕ → PlainTlv → List ℕ → Type 0) (place : ℕ) (bytes : List ℕ) → HasTlvs bytes → IsShownTo Shows place bytes 0 []
shown_none Shows place bytes list = record {
  before_end = omega arith;
  is_list = list;
  goes_on = λ rest s. let here : place + 0 ≡ place = omega arith in subst (λ (n : ℕ). ShowsList Shows n bytes rest) here s;
}

-- the text of a TLV, and of those after it
list_from : (Shows : ℕ → PlainTlv → List ℕ → Type 0) (place : ℕ) (bytes : List ℕ) (at after : ℕ) (tlv : PlainTlv) (front rest : List ℕ) → IsTlvAt bytes at tlv after
    → Shows (place + at) tlv front → ShowsList Shows (place + after) (drop after bytes) rest → ShowsList Shows (place + at) (drop at bytes) (front ++ rest)
list_from Shows place bytes at after tlv front rest here shown s =
    let next : place + after ≡ (place + at) + tlv_size (length tlv.value) = omega (arith, here.ends) in
    record {
      tlvs = tlv ∷ s.tlvs;
      is_list = (drop after bytes, here.valid, here.spelled, s.is_list);
      in_order = (front, rest, shown, subst (λ (n : ℕ). TextsInOrder Shows n s.tlvs rest) next s.in_order, refl);
    }

pub shown_more : ListSplits → (Shows : ℕ → PlainTlv → List ℕ → Type 0) (place : ℕ) (bytes : List ℕ) (at after : ℕ) (tlv : PlainTlv) (text front : List ℕ) → IsShownTo Shows place bytes at text
    → IsTlvAt bytes at tlv after → Shows (place + at) tlv front → IsShownTo Shows place bytes after (text ++ front)
shown_more splits Shows place bytes at after tlv text front h here shown =
    let others = splits bytes at after tlv h.is_list.0 here h.is_list.1 in
    record {
      before_end = here.within;
      is_list = (others.0, others.2);
      goes_on = λ rest s. rw append_assoc (h.goes_on (front ++ rest) (list_from Shows place bytes at after tlv front rest here shown s));
    }

pub shown_all : (Shows : ℕ → PlainTlv → List ℕ → Type 0) (place : ℕ) (bytes : List ℕ) (at : ℕ) (text : List ℕ) → IsShownTo Shows place bytes at text → at ≡ length bytes
    → ShowsList Shows place bytes text
shown_all Shows place bytes at text h ends =
    let none : drop at bytes ≡ [] = drop_all at bytes (omega arith) in
    let nothing : ShowsList Shows (place + at) (drop at bytes) [] = record { tlvs = []; is_list = none; in_order = refl } in
    subst (ShowsList Shows place bytes) (append-nil text) (h.goes_on [] nothing)

-- where a list of TLVs goes on, no fault is read
pub read_in_list : {X : Type 0} → ListHasNoFirstFault → (bytes : List ℕ) (at : ℕ) (result : Result X TlvFault) → HasTlvs (drop at bytes)
    → IfErr result (λ fault. (at ≤ fault.place) × IsFault (drop at bytes) (fault.place - at) fault.why) → IsOk result
read_in_list no_list bytes at (Ok x) list h = refl
read_in_list no_list bytes at (Err fault) list h =
    let first : FirstFault (drop at bytes) (fault.place - at) fault.why =
    record { tlvs = []; front = []; rest = drop at bytes; offset = fault.place - at; before = refl; parts = refl; fault = h.1; place_is = omega arith } in
    absurd (no_list (drop at bytes) (fault.place - at) fault.why first list)

-- ---- the text of one TLV

pub shows_line : (below place : ℕ) (tlv : PlainTlv) (text : List ℕ) → IsLineAlone below place tlv text → Shows below place tlv text
unfolding Shows
shows_line zero place tlv text h = h
shows_line (suc below) place tlv text h = inl h

shows_within_suc : (below place : ℕ) (tlv : PlainTlv) (item : PlainItem) (line lines : List ℕ) → IsLineAbove (suc below) place tlv item line
    → ShowsList (Shows below) (place_within place tlv item) (within item) lines → Shows (suc below) place tlv (line ++ lines)
unfolding Shows
shows_within_suc below place tlv item line lines above inside =
    inr (record { item = item; line = line; lines = lines; above = above; inside = inside; text_is = refl })

pub shows_within : (below place : ℕ) (tlv : PlainTlv) (item : PlainItem) (line lines : List ℕ) → IsLineAbove below place tlv item line
    → ShowsList (Shows (below - 1)) (place_within place tlv item) (within item) lines → Shows below place tlv (line ++ lines)
shows_within below place tlv item line lines above inside =
    let levels : below ≡ suc (below - 1) = omega (arith, above.has_lines.0) in
    subst (λ (n : ℕ). Shows n place tlv (line ++ lines)) (sym levels)
    (shows_within_suc (below - 1) place tlv item line lines (subst (λ (n : ℕ). IsLineAbove n place tlv item line) levels above) inside)

-- the text below an item's line, added after the line
pub added_within : {E : Type 0} (below place : ℕ) (tlv : PlainTlv) (inner old start new : List ℕ) (result : Result (Unit {0}) E)
    → ((item : PlainItem) × (inner ≡ within item) × GrowsByText (IsLineAbove below place tlv item) old start)
    → OnOk result (GrowsByText (ShowsList (Shows (below - 1)) (place + 4 + (length tlv.value - length inner)) inner) start new) → OnOk result (GrowsByText (Shows below place tlv) old new)
added_within below place tlv inner old start new (Ok _) (item, inner_is, begun) (lines, shown, ends) =
    let inside : ShowsList (Shows (below - 1)) (place_within place tlv item) (within item) lines =
    subst (λ (z : List ℕ). ShowsList (Shows (below - 1)) (place + 4 + (length tlv.value - length z)) z lines) inner_is shown in
    (begun.0 ++ lines, shows_within below place tlv item begun.0 lines begun.1 inside, ends ∙ ap (λ (z : List ℕ). z ++ lines) begun.2 ∙ append_assoc old begun.0 lines)
added_within below place tlv inner old start new (Err e) h k = k
