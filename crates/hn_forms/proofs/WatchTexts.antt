-- The text of a capture, written line by line.
use Rattle.hn_base.proofs.Names.{◌≡◌, ◌∙◌, ◌+◌, ◌<◌, ◌≤◌, ℕ, List, [], ◌∷◌, ◌++◌, Option, length, take, drop, get_or, refl, sym, ap, subst, append_assoc, flat_map, Appends, flat_map-append}
use Rattle.hn_base.proofs.Names.{take-append-drop, take_more, drop_more, take_all}
use Rattle.hn_forms.proofs.Names.{append-nil, IoFault, PiecesAppend, Seen, AppendsCut, watch_line, watch_text}
use Rattle.hn_forms.specs.Watch.{seen_line}
use Rattle.hn_forms.proofs.Streams.{AppendsCut-more}
use Rattle.std.proofs.KnownBytes.{Appends-nil}

-- the text up to a node
abbrev pub text_to : ℕ → ℕ → List Seen → ℕ → List ℕ
text_to datagrams malformed seen i = watch_line datagrams malformed ++ flat_map seen_line (take i seen)

-- with the line of the node there
pub text_more : (datagrams malformed : ℕ) (seen : List Seen) (i : ℕ) (d : Seen) → i < length seen
    → text_to datagrams malformed seen i ++ seen_line (get_or seen i d) ≡ text_to datagrams malformed seen (i + 1)
text_more datagrams malformed seen i d within =
    let front = flat_map seen_line (take i seen) in
    let one = get_or seen i d in
    append_assoc (watch_line datagrams malformed) front (seen_line one)
    ∙ ap (λ xs. watch_line datagrams malformed ++ xs)
    (ap (λ xs. front ++ xs) (sym (append-nil (seen_line one))) ∙ sym (flat_map-append seen_line (take i seen) (one ∷ [])) ∙ ap (flat_map seen_line) (sym (take_more seen i d within)))

-- and with the lines of the nodes after it
pub text_whole : (datagrams malformed : ℕ) (seen : List Seen) (i : ℕ) (d : Seen) → i < length seen
    → watch_text datagrams malformed seen ≡ text_to datagrams malformed seen i ++ (seen_line (get_or seen i d) ++ flat_map seen_line (drop (i + 1) seen))
text_whole datagrams malformed seen i d within =
    let front = flat_map seen_line (take i seen) in
    let lines : flat_map seen_line seen ≡ front ++ (seen_line (get_or seen i d) ++ flat_map seen_line (drop (i + 1) seen)) =
    ap (flat_map seen_line) (sym (take-append-drop i seen)) ∙ flat_map-append seen_line (take i seen) (drop i seen) ∙ ap (λ xs. front ++ flat_map seen_line xs) (drop_more seen i d within) in
    ap (λ xs. watch_line datagrams malformed ++ xs) lines ∙ sym (append_assoc (watch_line datagrams malformed) front (seen_line (get_or seen i d) ++ flat_map seen_line (drop (i + 1) seen)))

pub text_all : (datagrams malformed : ℕ) (seen : List Seen) (i : ℕ) → length seen ≤ i → text_to datagrams malformed seen i ≡ watch_text datagrams malformed seen
text_all datagrams malformed seen i past = ap (λ xs. watch_line datagrams malformed ++ flat_map seen_line xs) (take_all i seen past)

-- ---- a sink

pub grows : PiecesAppend → (datagrams malformed : ℕ) (seen : List Seen) (i : ℕ) (d : Seen) (a b c : Option (List ℕ)) → i < length seen
    → Appends a b (text_to datagrams malformed seen i) → Appends b c (seen_line (get_or seen i d))
    → Appends a c (text_to datagrams malformed seen (i + 1))
grows append datagrams malformed seen i d a b c within before more =
    subst (λ (xs : List ℕ). Appends a c xs) (text_more datagrams malformed seen i d within) (append a b c (text_to datagrams malformed seen i) (seen_line (get_or seen i d)) before more)

pub cut_first : PiecesAppend → (datagrams malformed : ℕ) (seen : List Seen) (fault : IoFault) (a c : Option (List ℕ))
    → AppendsCut fault a c (watch_line datagrams malformed) → AppendsCut fault a c (watch_text datagrams malformed seen)
cut_first append datagrams malformed seen fault a c cut =
    AppendsCut-more append fault a a c [] (watch_line datagrams malformed) (flat_map seen_line seen) (watch_text datagrams malformed seen) (Appends-nil a) cut refl

pub cut_later : PiecesAppend → (datagrams malformed : ℕ) (seen : List Seen) (i : ℕ) (d : Seen) (fault : IoFault) (a b c : Option (List ℕ))
    → i < length seen → Appends a b (text_to datagrams malformed seen i)
    → AppendsCut fault b c (seen_line (get_or seen i d)) → AppendsCut fault a c (watch_text datagrams malformed seen)
cut_later append datagrams malformed seen i d fault a b c within before cut =
    AppendsCut-more append fault a b c (text_to datagrams malformed seen i) (seen_line (get_or seen i d)) (flat_map seen_line (drop (i + 1) seen)) (watch_text datagrams malformed seen) before cut
    (text_whole datagrams malformed seen i d within)
