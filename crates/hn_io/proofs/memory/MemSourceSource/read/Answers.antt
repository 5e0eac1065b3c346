use Rattle.hn_base.proofs.Names.{◌≡◌, ◌+◌, ◌-◌, ◌≤◌, ◌∙◌, ℕ, List, ◌++◌, take, drop, length, sym, ap, arith, drop-drop, drop_at, take-append-drop, take_at, take_rest, length-take-le}
use Rattle.hn_io.proofs.memory.MemSourceSource.read.Goals as goal

-- as many bytes are copied as are asked for
long : (items copied : List ℕ) (at n : ℕ) → n ≤ length (drop at items) → copied ≡ take n (take (length items - at) (drop at items)) → length copied ≡ n
long items copied at n short is_front = ap length (is_front ∙ ap (take n) (take_rest items at)) ∙ length-take-le n (drop at items) short

-- what was copied to the front, and what is left after it, are what was left
consumed : (items buf copied : List ℕ) (at n : ℕ) → n ≤ length (drop at items) → copied ≡ take n (take (length items - at) (drop at items))
    → drop at items ≡ take n (copied ++ drop n buf) ++ drop (at + n) items
consumed items buf copied at n short is_front =
    let front : copied ≡ take n (drop at items) = is_front ∙ ap (take n) (take_rest items at) in
    rw (take_at copied (drop n buf) n (long items copied at n short is_front), front, ← drop-drop n at items) (sym (take-append-drop n (drop at items)))

pub returns-clause-bytes : goal.returns-clause-bytes
returns-clause-bytes c =
    let same = c.deref.ensures.value in
    let n = c.min-count.result in
    let short : n ≤ length (drop c.self.inside.at c.self.inside.bytes.items) = rw (← same) (omega (arith, c.min-count.ensures, ap length (take_rest c.deref.result.now c.self.inside.at))) in
    rw (← c.self.view_is) (consumed c.self.inside.bytes.items c.args.buf.now c.copy_from_slice.new.self c.self.inside.at n short (rw (← same) c.copy_from_slice.ensures.after))

pub returns-clause-rest : goal.returns-clause-rest
returns-clause-rest c =
    let same = c.deref.ensures.value in
    let n = c.min-count.result in
    let short : n ≤ length (drop c.self.inside.at c.self.inside.bytes.items) = rw (← same) (omega (arith, c.min-count.ensures, ap length (take_rest c.deref.result.now c.self.inside.at))) in
    drop_at c.copy_from_slice.new.self (drop n c.args.buf.now) n (long c.self.inside.bytes.items c.copy_from_slice.new.self c.self.inside.at n short (rw (← same) c.copy_from_slice.ensures.after))
