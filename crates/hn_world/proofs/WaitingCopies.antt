-- Copies of datagrams: the first that waits, how many wait, and how many bytes they have.
use Rattle.hn_base.proofs.Names.{◌≡◌, ℕ, zero, suc, ◌+◌, ◌-◌, ◌<◌, ◌≤◌, ◌^◌, Bool, true, false, not, cond, eqb, min, List, [], ◌∷◌, ◌++◌, length, get_or, Some, None, refl, sym, ◌∙◌, ap, ⊎_elim, arith}
use Rattle.hn_base.proofs.Names.{All, unwrap_or, position_or_len, sum_by, cases_lt, ltb-false, eqb-true, false≢true, All-head, All-tail, position_or_len_is, fails_before_first, sum_by-append}
use Rattle.hn_base.proofs.Names.{sum_by-cons, sum_by-set, get_or_from_slice_get, slice_get_within}
use Rattle.hn_world.proofs.Names.{MailCopy, first_waiting, bytes_of_copies}
use Rattle.std.specs.Prelude.{position, nat_lt, count_by, slice_get, slice_set}
use Rattle.std.proofs.lemmas.List.{set-get_or}
use Rattle.std.proofs.lemmas.List.Folds.{prefix_len-append}
use Rattle.std.proofs.lemmas.List.Sums.{prefix_len-le-length, passes_at_first, sum-map}
use Rattle.hn_world.specs.Waiting.{IsMail}

-- ---- the first element that passes

module _ {A : Type 0} (p : A → Bool) where
  -- its place, or the end
  first_or_end : (xs : List A) → unwrap_or (position p xs) (length xs) ≡ position_or_len p xs
  first_or_end xs = by_test (nat_lt (position_or_len p xs) (length xs)) refl
    where
      by_test : (b : Bool) → nat_lt (position_or_len p xs) (length xs) ≡ b → unwrap_or (cond b (Some (position_or_len p xs)) None) (length xs) ≡ position_or_len p xs
      by_test true is = refl
      by_test false is = let past = ltb-false _ _ is in let within = prefix_len-le-length (λ x. not (p x)) xs in omega arith

  -- a place up to it, of an element that fails
  pub before_first : (xs : List A) (i : ℕ) (d : A) → i ≤ unwrap_or (position p xs) (length xs) → i < length xs → p (get_or xs i d) ≡ false → i + 1 ≤ unwrap_or (position p xs) (length xs)
  before_first xs i d le lt fails =
      let e = first_or_end xs in
      ⊎_elim (λ (below : i < position_or_len p xs). omega arith)
      (λ (rest : position_or_len p xs ≤ i).
      let same : position_or_len p xs ≡ i = omega arith in
      let passes = passes_at_first p xs d (omega arith) in
      absurd (false≢true (sym fails ∙ ap (λ k. p (get_or xs k d)) (sym same) ∙ passes)))
      (cases_lt i (position_or_len p xs))

  -- and of one that passes
  pub at_first : (xs : List A) (i : ℕ) (d : A) → i ≤ unwrap_or (position p xs) (length xs) → (i < length xs → p (get_or xs i d) ≡ true) → i ≡ unwrap_or (position p xs) (length xs)
  at_first xs i d le passes =
      let e = first_or_end xs in
      let within = prefix_len-le-length (λ x. not (p x)) xs in
      let is = position_or_len_is p xs i d (omega arith) (λ k lt. fails_before_first p xs k d (omega arith)) passes in
      omega arith

  -- an element in place of one, which fails
  first-set : (xs : List A) (i : ℕ) (y : A) → p y ≡ false → position_or_len p xs ≤ position_or_len p (slice_set xs i y)
  first-set [] i y fails = omega arith
  first-set (x ∷ xs) zero y fails = rw fails (by_test (p x))
    where
      by_test : (b : Bool) → cond (not b) (1 + position_or_len p xs) 0 ≤ 1 + position_or_len p xs
      by_test true = omega arith
      by_test false = omega arith
  first-set (x ∷ xs) (suc i) y fails = by_test (p x) (first-set xs i y fails)
    where
      by_test : (b : Bool) → position_or_len p xs ≤ position_or_len p (slice_set xs i y) → cond (not b) (1 + position_or_len p xs) 0 ≤ cond (not b) (1 + position_or_len p (slice_set xs i y)) 0
      by_test true le = omega arith
      by_test false le = omega arith

  pub first_later : (xs : List A) (i : ℕ) (y : A) → p y ≡ false → unwrap_or (position p xs) (length xs) ≤ unwrap_or (position p (slice_set xs i y)) (length (slice_set xs i y))
  first_later xs i y fails =
      let before = first_or_end xs in let after = first_or_end (slice_set xs i y) in let le = first-set xs i y fails in omega arith

  -- further elements, which pass
  first_of_passing : (ys : List A) → All (λ y. p y ≡ true) ys → position_or_len p ys ≡ 0
  first_of_passing [] all = refl
  first_of_passing (y ∷ ys) all = rw (All-head (λ y. p y ≡ true) y ys all) refl

  first_of_both : (xs ys : List A) → All (λ y. p y ≡ true) ys → unwrap_or (position p (xs ++ ys)) (length (xs ++ ys)) ≡ unwrap_or (position p xs) (length xs)
  first_of_both xs ys all =
      first_or_end (xs ++ ys) ∙ prefix_len-append (λ x. not (p x)) xs ys ∙ by_test (eqb (position_or_len p xs) (length xs)) refl ∙ sym (first_or_end xs)
    where
      by_test : (b : Bool) → eqb (position_or_len p xs) (length xs) ≡ b → cond b (length xs + position_or_len p ys) (position_or_len p xs) ≡ position_or_len p xs
      by_test true is = let none = first_of_passing ys all in let same = eqb-true _ _ is in omega arith
      by_test false is = refl

  count_of_passing : (ys : List A) → All (λ y. p y ≡ true) ys → count_by p ys ≡ length ys
  count_of_passing [] all = refl
  count_of_passing (y ∷ ys) all =
      let one : ◌≡◌ {A = ℕ} (cond (p y) 1 0) 1 = ap (λ (b : Bool). cond {A = ℕ} b 1 0) (All-head (λ y. p y ≡ true) y ys all) in
      let more = count_of_passing ys (All-tail (λ y. p y ≡ true) y ys all) in
      let sum = sum_by-cons (λ x. cond (p x) 1 0) y ys in
      omega arith

-- ---- copies that wait, one that waits no longer, and further ones

bytes_are : (xs : List MailCopy) → bytes_of_copies xs ≡ sum_by (λ (c : MailCopy). length c.bytes) xs
bytes_are xs = sum-map (λ (c : MailCopy). length c.bytes) xs

-- what was read at a place stands there
pub stands : (xs : List MailCopy) (i : ℕ) (read c : MailCopy) → read ≡ get_or xs i read → slice_get xs i ≡ Some c → c ≡ read
stands xs i read c is at = sym (get_or_from_slice_get xs i c read at) ∙ sym is

-- a copy that does not wait is one that waits no longer
pub waits_not : (xs : List MailCopy) (i : ℕ) (c : MailCopy) → slice_get xs i ≡ Some c → c.waiting ≡ false → xs ≡ slice_set xs i (record c { waiting = false })
waits_not xs i c at is =
    let same : record c { waiting = false } ≡ c = ap (λ (b : Bool). record c { waiting = b }) (sym is) in
    sym (ap (slice_set xs i) same ∙ ap (slice_set xs i) (sym (get_or_from_slice_get xs i c c at)) ∙ set-get_or xs i c)

fewer_wait : (xs : List MailCopy) (i : ℕ) (c : MailCopy) → slice_get xs i ≡ Some c → c.waiting ≡ true
    → count_by (λ c. c.waiting) (slice_set xs i (record c { waiting = false })) + 1 ≡ count_by (λ c. c.waiting) xs
fewer_wait xs i c at is =
    let lt = slice_get_within xs i c at in
    let set = sum_by-set (λ (c : MailCopy). cond c.waiting 1 0) xs i (record c { waiting = false }) c lt in
    let one : ◌≡◌ {A = ℕ} (cond (get_or xs i c).waiting 1 0) 1 = ap (λ (x : MailCopy). cond {A = ℕ} x.waiting 1 0) (get_or_from_slice_get xs i c c at) ∙ ap (λ (b : Bool). cond {A = ℕ} b 1 0) is in
    omega arith

same_bytes : (xs : List MailCopy) (i : ℕ) (c : MailCopy) → slice_get xs i ≡ Some c → bytes_of_copies (slice_set xs i (record c { waiting = false })) ≡ bytes_of_copies xs
same_bytes xs i c at =
    let next : MailCopy = record c { waiting = false } in
    let lt = slice_get_within xs i c at in
    let set = sum_by-set (λ (c : MailCopy). length c.bytes) xs i next c lt in
    let one : length ((get_or xs i c).bytes) ≡ length c.bytes = ap (λ (x : MailCopy). length x.bytes) (get_or_from_slice_get xs i c c at) in
    let before = bytes_are xs in
    let after = bytes_are (slice_set xs i next) in
    omega arith

-- with one that waits no longer
pub taken : (xs : List MailCopy) (i : ℕ) (c : MailCopy) (first waiting bytes next : ℕ) → slice_get xs i ≡ Some c → c.waiting ≡ true → IsMail xs first waiting bytes
    → (let after = slice_set xs i (record c { waiting = false }) in next ≡ unwrap_or (first_waiting after) (length after) → IsMail after next (waiting - 1) bytes)
taken xs i c first waiting bytes next at is mail next_is = record {
  first_is = next_is;
  waiting_is = let fewer = fewer_wait xs i c at is in let was = mail.waiting_is in omega arith;
  bytes_are = mail.bytes_are ∙ ap (λ n. min n (2 ^ 28)) (sym (same_bytes xs i c at));
}

-- bytes that were capped before they were added, and after
capped : (m a b : ℕ) → min (min a m + min b m) m ≡ min (a + b) m
capped m a b = omega arith

-- with further copies, all of which wait
pub added : (xs more after : List MailCopy) (first waiting bytes count more_bytes next : ℕ) → All (λ (c : MailCopy). c.waiting ≡ true) more → IsMail xs first waiting bytes
    → after ≡ xs ++ more → count ≡ length more → more_bytes ≡ min (bytes_of_copies more) (2 ^ 28) → next ≡ min (bytes + more_bytes) (2 ^ 28) → IsMail after first (waiting + count) next
added xs more after first waiting bytes count more_bytes next all mail after_is count_is more_is next_is = record {
  first_is = mail.first_is ∙ sym (first_of_both (λ (c : MailCopy). c.waiting) xs more all) ∙ sym (ap (λ (ys : List MailCopy). unwrap_or (first_waiting ys) (length ys)) after_is);
  waiting_is =
      let both = sum_by-append (λ (c : MailCopy). cond c.waiting 1 0) xs more in
      let all_wait = count_of_passing (λ (c : MailCopy). c.waiting) more all in
      let was = mail.waiting_is in
      let now = ap (λ (ys : List MailCopy). count_by (λ (c : MailCopy). c.waiting) ys) after_is in
      omega arith;
  bytes_are =
      let both = sum_by-append (λ (c : MailCopy). length c.bytes) xs more in
      let a = bytes_are xs in
      let b = bytes_are more in
      let c = bytes_are (xs ++ more) in
      let now = ap bytes_of_copies after_is in
      let was = mail.bytes_are in
      let parts = capped (2 ^ 28) (bytes_of_copies xs) (bytes_of_copies more) in
      omega arith;
}
