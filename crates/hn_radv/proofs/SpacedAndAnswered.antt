-- Two advertisements of a sender are apart, and a solicitation is answered.
use Rattle.hn_base.proofs.Names.{◌≡◌, ◌≤◌, ◌+◌, ◌%◌, ℕ, Bool, true, false, List, [], ◌∷◌, ◌++◌, Option, None, Some, min, max, refl, arith, All, if◌then◌else◌, option_map_or, common_steps, All-nil}
use Rattle.hn_base.proofs.Names.{All-cons, All-weaker}
use Rattle.std.specs.Prelude.{IfSome, IsTrue}
use Rattle.std.specs.Option.{option_to_list}
use Rattle.hn_radv.specs.Sender.{PlainSender, draws, is_due, sent, solicited}
use Rattle.hn_radv.specs.Runs.{AreSpaced, Call, Changed, Due, Solicit, run_of, sent_by_calls}

-- ---- no two within 3,000 ms

-- that moment is 3,000 ms after the last one or later
abbrev pub IsApart : Option ℕ → ℕ → Type 0
IsApart last moment = IfSome last (λ last. last + 3000 ≤ moment)

-- and so is each of these
abbrev pub AreApart : Option ℕ → List ℕ → Type 0
AreApart last moments = IfSome last (λ last. All (λ y. last + 3000 ≤ y) moments)

none_apart : (last : Option ℕ) → AreApart last []
none_apart None = tt
none_apart (Some last) = All-nil (λ y. last + 3000 ≤ y)

solicited_by : (last : Option ℕ) (next now word : ℕ) → IsApart last next → IsApart last (min next (option_map_or (λ l. max (now + word % 501) (l + 3000)) last (now + word % 501)))
solicited_by None next now word apart = tt
solicited_by (Some last) next now word apart = omega (arith, apart)

solicited_apart : (now word : ℕ) (s : PlainSender) → IsApart s.last s.next → IsApart s.last (solicited now word s).next
solicited_apart now word s apart = solicited_by s.last s.next now word apart

sent_apart : (now word : ℕ) (s : PlainSender) → now + 3000 ≤ (sent now word s).next
sent_apart now word s = by_test (draws s)
  where
    by_test : (b : Bool) → now + 3000 ≤ (if b then now + 198000 + word % 402001 else now + 16000)
    by_test true = omega arith
    by_test false = omega arith

-- one is sent where it is due
one_more : (last : Option ℕ) (next now : ℕ) (moments : List ℕ) → IsApart last next → next ≤ now → All (λ y. now + 3000 ≤ y) moments → AreApart last (now ∷ moments)
one_more None next now moments apart le all = tt
one_more (Some last) next now moments apart le all =
    All-cons (λ y. last + 3000 ≤ y) now moments (omega (arith, apart, le))
    (All-weaker (λ y. now + 3000 ≤ y) (λ y. last + 3000 ≤ y) (λ y (h : now + 3000 ≤ y). omega (arith, h, apart, le)) moments all)

due_is_past : (now : ℕ) (s : PlainSender) → is_due now s ≡ true → s.next ≤ now
due_is_past now s is = grind (arith, common_steps)

pub calls_apart : (calls : List Call) (s : PlainSender) → IsApart s.last s.next → AreApart s.last (sent_by_calls calls s) × AreSpaced (sent_by_calls calls s)
calls_apart [] s apart = (none_apart s.last, tt)
calls_apart (Solicit now word ∷ calls) s apart = calls_apart calls (solicited now word s) (solicited_apart now word s apart)
calls_apart (Changed now ∷ calls) s apart = calls_apart calls (solicited now 0 s) (solicited_apart now 0 s apart)
calls_apart (Due now word ∷ calls) s apart = by_test (is_due now s) refl (calls_apart calls s apart) (calls_apart calls (sent now word s) (sent_apart now word s))
  where
    by_test : (b : Bool) → is_due now s ≡ b → AreApart s.last (sent_by_calls calls s) × AreSpaced (sent_by_calls calls s)
        → AreApart (Some now) (sent_by_calls calls (sent now word s)) × AreSpaced (sent_by_calls calls (sent now word s))
        → AreApart s.last (option_to_list (if b then Some now else None) ++ sent_by_calls calls (if b then sent now word s else s))
        × AreSpaced (option_to_list (if b then Some now else None) ++ sent_by_calls calls (if b then sent now word s else s))
    by_test false is same more = same
    by_test true is same more = (one_more s.last s.next now (sent_by_calls calls (sent now word s)) apart (due_is_past now s is) more.0, more)

-- ---- a solicitation is answered

-- where none is sent, the next one does not become later
no_later : (calls : List Call) (s : PlainSender) (now : ℕ) → sent_by_calls calls s ≡ [] → s.next ≤ now → (run_of calls s).next ≤ now
no_later [] s now none le = le
no_later (Solicit t word ∷ calls) s now none le = no_later calls (solicited t word s) now none (omega (arith, le))
no_later (Changed t ∷ calls) s now none le = no_later calls (solicited t 0 s) now none (omega (arith, le))
no_later (Due t word ∷ calls) s now none le = by_test (is_due t s) none (λ nothing. no_later calls s now nothing le)
  where
    by_test : (b : Bool) → option_to_list (if b then Some t else None) ++ sent_by_calls calls (if b then sent t word s else s) ≡ [] → (sent_by_calls calls s ≡ [] → (run_of calls s).next ≤ now)
        → (run_of calls (if b then sent t word s else s)).next ≤ now
    by_test false nothing later = later nothing
    by_test true nothing later = absurd cc

answered_by : (last : Option ℕ) (next t word now : ℕ) → t + 500 ≤ now → IsApart last now → min next (option_map_or (λ l. max (t + word % 501) (l + 3000)) last (t + word % 501)) ≤ now
answered_by None next t word now le apart = omega (arith, le)
answered_by (Some last) next t word now le apart = omega (arith, le, apart)

pub answered_then : (s : PlainSender) (t word now : ℕ) (calls : List Call)
    → sent_by_calls calls (solicited t word s) ≡ [] → t + 500 ≤ now → IsApart s.last now → IsTrue (is_due now (run_of calls (solicited t word s)))
answered_then s t word now calls none le apart =
    let past = no_later calls (solicited t word s) now none (answered_by s.last s.next t word now le apart) in
    grind (arith, common_steps)
