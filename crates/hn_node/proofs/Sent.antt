-- Datagrams that were sent one after another, and counted.
use Rattle.hn_base.proofs.Names.{◌≡◌, ◌∙◌, ◌<◌, ◌+◌, ℕ, List, [], ◌∷◌, ◌++◌, Option, None, Some, length, take, drop, get_or, refl, sym, ap, subst, append_assoc, length-append, arith, take_more}
use Rattle.hn_base.proofs.Names.{drop_more, take-append-drop, flat_map-append, flat_map}
use Rattle.hn_node.proofs.Names.{append-nil, Datagram, counted, HandsAll, HandsPart}
use Rattle.std.proofs.lemmas.List.Concat.{flat_map-cons}
use Rattle.hn_node.specs.Turns.{SendsAll}

none_sent : (a : Option (List Datagram)) → SendsAll [] a a
none_sent None = tt
none_sent (Some ds) = sym (append-nil ds)

both_sent : (ds es : List Datagram) (a b c : Option (List Datagram)) → SendsAll ds a b → SendsAll es b c → SendsAll (ds ++ es) a c
both_sent ds es None b c h k = tt
both_sent ds es (Some a) None c h k = absurd h
both_sent ds es (Some a) (Some b) None h k = absurd k
both_sent ds es (Some a) (Some b) (Some c) h k = k ∙ ap (λ (x : List Datagram). x ++ es) h ∙ append_assoc a ds es

-- so many, and then so many more
counted_both : (n x y : ℕ) → counted (counted n x) y ≡ counted n (x + y)
counted_both n x y = omega arith

pub counted_lists : (n : ℕ) (ds es : List Datagram) → counted (counted n (length ds)) (length es) ≡ counted n (length (ds ++ es))
counted_lists n ds es = counted_both n (length ds) (length es) ∙ ap (counted n) (sym (length-append ds es))

hands_both : (ds es : List Datagram) (a b c : Option (List Datagram)) (l m n : ℕ) → HandsAll ds a b l m → HandsAll es b c m n → HandsAll (ds ++ es) a c l n
hands_both ds es a b c l m n h k = record {
  sends = both_sent ds es a b c h.sends k.sends;
  counts = k.counts ∙ ap (λ (s : ℕ). counted s (length es)) h.counts ∙ counted_lists l ds es;
}

-- a loop over what is handed on: before it, one more, and one of which only a part was sent
module _ {A : Type 0} (f : A → List Datagram) (xs : List A) (i : ℕ) (x d : A) (a b c : Option (List Datagram)) (l m n : ℕ) (within : i < length xs) where
  pub next_handed : x ≡ get_or xs i d → HandsAll (flat_map f (take i xs)) a b l m → HandsAll (f x) b c m n → HandsAll (flat_map f (take (i + 1) xs)) a c l n
  next_handed is h k =
      let more : take (i + 1) xs ≡ take i xs ++ x ∷ [] = take_more xs i d within ∙ ap (λ (y : A). take i xs ++ y ∷ []) (sym is) in
      let split : flat_map f (take (i + 1) xs) ≡ flat_map f (take i xs) ++ f x =
      ap (flat_map f) more ∙ flat_map-append f (take i xs) (x ∷ []) ∙ ap (λ (ds : List Datagram). flat_map f (take i xs) ++ ds) (append-nil (f x)) in
      subst (λ (ds : List Datagram). HandsAll ds a c l n) (sym split) (hands_both (flat_map f (take i xs)) (f x) a b c l m n h k)

  pub part_handed : x ≡ get_or xs i d → HandsAll (flat_map f (take i xs)) a b l m → HandsPart (f x) b c m n → HandsPart (flat_map f xs) a c l n
  part_handed is h k =
      let rest : drop i xs ≡ x ∷ drop (i + 1) xs = drop_more xs i d within ∙ ap (λ (y : A). y ∷ drop (i + 1) xs) (sym is) in
      let before = flat_map f (take i xs) in
      let later = flat_map f (drop (i + 1) xs) in
      let part = k.sends in
      let whole : flat_map f xs ≡ before ++ (f x ++ later) =
      ap (flat_map f) (sym (take-append-drop i xs)) ∙ flat_map-append f (take i xs) (drop i xs) ∙ ap (λ (ys : List A). before ++ flat_map f ys) rest
      ∙ ap (λ (ds : List Datagram). before ++ ds) (flat_map-cons f x (drop (i + 1) xs)) in
      let parts : f x ++ later ≡ k.front ++ (part.missing ++ later) = ap (λ (ds : List Datagram). ds ++ later) part.parts ∙ append_assoc k.front part.missing later in
      let some = part.some in
      record {
        front = before ++ k.front;
        sends = record {
          missing = part.missing ++ later;
          some = omega (arith, length-append part.missing later);
          parts = whole ∙ ap (λ (ds : List Datagram). before ++ ds) parts ∙ sym (append_assoc before k.front (part.missing ++ later));
          sends = both_sent before k.front a b c h.sends part.sends;
        };
        counts = k.counts ∙ ap (λ (s : ℕ). counted s (length k.front)) h.counts ∙ counted_lists l before k.front;
      }

pub none_handed : (a : Option (List Datagram)) (n : ℕ) → HandsAll [] a a n n
none_handed a n = record { sends = none_sent a; counts = omega arith }

-- one was not sent
pub none_of_one : (d : Datagram) (a b : Option (List Datagram)) (n m : ℕ) → b ≡ a → m ≡ n → HandsPart (d ∷ []) a b n m
none_of_one d a b n m same still = record {
  front = [];
  sends = record { missing = d ∷ []; some = omega arith; parts = refl; sends = subst (λ (w : Option (List Datagram)). SendsAll [] a w) (sym same) (none_sent a) };
  counts = still ∙ omega arith;
}
