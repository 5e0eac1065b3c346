-- Entries that were added to the log, and what was sent.
use Rattle.hn_base.proofs.Names.{◌≡◌, ◌∙◌, ℕ, List, [], ◌∷◌, ◌++◌, Option, length, refl, sym, ap, subst, append_assoc, arith, flat_map-append, All-nil, All-push, All-append, IsAt, Took}
use Rattle.hn_node.proofs.Names.{append-nil, Datagram, Logged, Node, PlainSite, handed_of, handed_in, logged_words, counted, AddsEntry, Grows}
use Rattle.hn_node.specs.Turns.{IsBounded}
use Rattle.hn_node.proofs.Sent.{counted_lists}

pub handed_both : (at : PlainSite) (xs ys : List Logged) → handed_in at (xs ++ ys) ≡ handed_in at xs ++ handed_in at ys
handed_both at xs ys = flat_map-append (λ (l : Logged). handed_of at l.sends) xs ys

words_both : (xs ys : List Logged) → logged_words (xs ++ ys) ≡ logged_words xs ++ logged_words ys
words_both xs ys = flat_map-append (λ (l : Logged). l.words) xs ys

took_nothing : (told : Option (ℕ → ℕ)) → Took told [] told
took_nothing told taken stream at = subst (λ (ws : List ℕ). IsAt told stream ws) (sym (append-nil taken)) at

took_both : (told between told_after : Option (ℕ → ℕ)) (xs ys zs : List ℕ) → zs ≡ xs ++ ys → Took told xs between → Took between ys told_after → Took told zs told_after
took_both told between told_after xs ys zs are h k taken stream at =
    subst (λ (ws : List ℕ). IsAt told_after stream ws) (append_assoc taken xs ys ∙ ap (λ (ws : List ℕ). taken ++ ws) (sym are)) (k (taken ++ xs) stream (h taken stream at))

pub none_grown : (told : Option (ℕ → ℕ)) (a : Node) → Grows [] [] told told a a
none_grown told a = record {
  log = sym (append-nil a.log);
  words = took_nothing told;
  sent = omega arith;
  bounded = All-nil IsBounded;
  limit = refl;
}

pub one_grown : (l : Logged) (handed all : List Datagram) (told told_after : Option (ℕ → ℕ)) (a b : Node) → all ≡ handed → AddsEntry l handed told told_after a b
    → Grows (l ∷ []) all told told_after a b
one_grown l handed all told told_after a b same h = record {
  log = h.log;
  words = subst (λ (ws : List ℕ). Took told ws told_after) (sym (append-nil l.words)) h.words;
  sent = h.sent ∙ ap (λ (ds : List Datagram). counted a.sent (length ds)) (sym same);
  bounded = All-push IsBounded [] l (All-nil IsBounded) h.bounded;
  limit = h.limit;
}

pub both_grown : (xs ys : List Logged) (ds es : List Datagram) (told between told_after : Option (ℕ → ℕ)) (a b c : Node)
    → Grows xs ds told between a b → Grows ys es between told_after b c → Grows (xs ++ ys) (ds ++ es) told told_after a c
both_grown xs ys ds es told between told_after a b c h k = record {
  log = k.log ∙ ap (λ (log : List Logged). log ++ ys) h.log ∙ append_assoc a.log xs ys;
  words = took_both told between told_after (logged_words xs) (logged_words ys) (logged_words (xs ++ ys)) (words_both xs ys) h.words k.words;
  sent = k.sent ∙ ap (λ (s : ℕ). counted s (length es)) h.sent ∙ counted_lists a.sent ds es;
  bounded = All-append IsBounded xs ys h.bounded k.bounded;
  limit = k.limit ∙ h.limit;
}

-- where all of both was sent
pub both_handed : (at : PlainSite) (xs ys : List Logged) (told between told_after : Option (ℕ → ℕ)) (a b c : Node)
    → Grows xs (handed_in at xs) told between a b → Grows ys (handed_in at ys) between told_after b c → Grows (xs ++ ys) (handed_in at (xs ++ ys)) told told_after a c
both_handed at xs ys told between told_after a b c h k =
    subst (λ (ds : List Datagram). Grows (xs ++ ys) ds told told_after a c) (sym (handed_both at xs ys)) (both_grown xs ys (handed_in at xs) (handed_in at ys) told between told_after a b c h k)
