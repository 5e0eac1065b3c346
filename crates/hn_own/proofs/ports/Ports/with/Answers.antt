use Rattle.hn_base.proofs.Names.{◌≡◌, ◌<◌, ◌+◌, ◌-◌, ◌∙◌, ℕ, List, [], ◌∷◌, ◌++◌, take, drop, set, length, position, None, Some, refl, sym, ap, arith, take-append-drop, take_more_set, drop-set-lt}
use Rattle.hn_base.proofs.Names.{length-drop, position-Some}
use Rattle.hn_own.proofs.Names.{Port, map-unpassed, is_port}
use Rattle.std.proofs.Math.Seq.{take-length}
use Rattle.hn_own.proofs.PortLists.{ArePorts-set, put_port-set}
use Rattle.hn_own.proofs.ports.Ports.with.Goals as goal

joined : (xs : List Port) (i : ℕ) (y : Port) → i < length xs → (take i xs ++ y ∷ []) ++ drop (i + 1) xs ≡ set xs i y
joined xs i y within = rw (← take_more_set xs i y within, ← drop-set-lt (i + 1) xs i y (omega arith)) (take-append-drop (i + 1) (set xs i y))

rest : (xs : List Port) (n : ℕ) → take (length xs - n) (drop n xs) ≡ drop n xs
rest xs n = ap (λ k. take k (drop n xs)) (sym (length-drop n xs)) ∙ take-length (drop n xs)

-- the copies before the place, the endpoint, and the copies after it
parts : (xs front one all : List Port) (i : ℕ) (y : Port) → i < length xs → front ≡ [] ++ take i xs → one ≡ front ++ y ∷ []
    → all ≡ one ++ take (length xs - (i + 1)) (drop (i + 1) xs) → all ≡ set xs i y
parts xs front one all i y within fronts ones alls = alls ∙ rw (rest xs (i + 1), ones, fronts) (joined xs i y within)

pub returns-in_default : goal.returns-in_default
returns-in_default c =
    let none : position (is_port c.args.port.id) c.args.self.now ≡ None = rw (← c.self.view_is, ← c.deref.ensures.value) (sym c.place_of.ensures ∙ c.in_default.is) in
    c.in_ok-clone.ensures.cases ∙ sym (map-unpassed (is_port c.args.port.id) (λ (_ : Port). c.args.port) c.args.self.now none)

pub invariant_of-result : goal.invariant_of-result
invariant_of-result c =
    let ports = c.self.inside.items.items in
    let place = c.in-Some.place in
    let found : position (is_port c.args.port.id) ports ≡ Some place = ap (position (is_port c.args.port.id)) (sym c.deref.ensures.value) ∙ sym c.in-Some.ensures in
    let within = (position-Some (is_port c.args.port.id) ports place c.args.port found).0 in
    let made : c.add_copies-2.new.items.items ≡ set ports place c.args.port =
    parts ports c.add_copies.new.items.items c.push.new.self.items c.add_copies-2.new.items.items place c.args.port within
    (rw (c.in_ok-add_copies.ensures, c.in_ok-items.ensures.items, c.deref-2.ensures.value) refl) c.in_ok-push.ensures.items
    (c.in_ok-add_copies-2.ensures ∙ rw c.deref-3.ensures.value refl) in
    rw made (ArePorts-set ports place c.args.port c.self.invariant found)

pub returns : goal.returns
returns c =
    let ports = c.self.inside.items.items in
    let place = c.in-Some.place in
    let found : position (is_port c.args.port.id) ports ≡ Some place = ap (position (is_port c.args.port.id)) (sym c.deref.ensures.value) ∙ sym c.in-Some.ensures in
    let within = (position-Some (is_port c.args.port.id) ports place c.args.port found).0 in
    let made : c.add_copies-2.new.items.items ≡ set ports place c.args.port =
    parts ports c.add_copies.new.items.items c.push.new.self.items c.add_copies-2.new.items.items place c.args.port within
    (rw (c.in_ok-add_copies.ensures, c.in_ok-items.ensures.items, c.deref-2.ensures.value) refl) c.in_ok-push.ensures.items
    (c.in_ok-add_copies-2.ensures ∙ rw c.deref-3.ensures.value refl) in
    rw (← c.self.view_is) (made ∙ sym (put_port-set ports place c.args.port c.self.invariant found))
