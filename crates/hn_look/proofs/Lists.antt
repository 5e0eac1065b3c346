-- Texts of several things, one after another.
use Rattle.hn_base.proofs.Names.{◌≡◌, ◌∙◌, ◌+◌, ◌<◌, ◌≤◌, ℕ, List, [], ◌∷◌, ◌++◌, Option, None, Some, codes, length, take, drop, get_or, inl, inr, refl, sym, ap, add-one, sub-one, append_assoc, arith}
use Rattle.hn_base.proofs.Names.{slice_get, flat_map, eqb-suc-zero, flat_map_more, take_more, take_all, drop_more, drop_all, same_Some, slice_get_cases, decimal, option_map, option_and_then, hex_text}
use Rattle.hn_look.proofs.Names.{append-nil, Parts, Name, Member, sender_endpoint, endpoint_text, copy_lines}
use Rattle.hn_world.specs.declared.copies.MailCopy.{MailCopy}
use Rattle.hn_world.specs.Refusal.{copy_at}
use Rattle.hn_world.specs.Leaves.{info_of_copy, HasInfo}
use Rattle.hn_world.specs.declared.copies.CopyInfo.{CopyInfo}
use Rattle.hn_look.specs.Events.{way_word}
use Rattle.hn_look.specs.Steps.{sender_place, copy_line}

-- one more, and all
module _ {A : Type 0} (f : A → List ℕ) (xs : List A) (i : ℕ) (begins so_far : List ℕ) where
  pub told_more : (x : A) (now : List ℕ) → i < length xs → x ≡ get_or xs i x → so_far ≡ begins ++ flat_map f (take i xs) → now ≡ so_far ++ f x → now ≡ begins ++ flat_map f (take (i + 1) xs)
  told_more x now within is before more =
      more ∙ ap (λ ys. ys ++ f x) before ∙ flat_map_more f begins (take i xs) x ∙ ap (λ ys. begins ++ flat_map f ys) (ap (λ y. take i xs ++ y ∷ []) is ∙ sym (take_more xs i x within))

  pub told_all : length xs ≤ i → so_far ≡ begins ++ flat_map f (take i xs) → so_far ≡ begins ++ flat_map f xs
  told_all past before = before ∙ ap (λ ys. begins ++ flat_map f ys) (take_all i xs past)

-- the copy after so many
numbered : (w : Parts) (made : ℕ) (c : MailCopy) → slice_get w.copies made ≡ Some c → copy_at w (made + 1) ≡ Some c
numbered w made c at = rw (add-one made, eqb-suc-zero made, sub-one, at) refl

-- the lines of copies: one more, and all
module _ (w : Parts) (made : ℕ) (whole so_far : List ℕ) where
  pub copies_more : (now : List ℕ) → made < length w.copies → so_far ++ copy_lines w made (drop made w.copies) ≡ whole
      → ((c : MailCopy) → copy_at w (made + 1) ≡ Some c → now ≡ so_far ++ copy_line w (made + 1) c)
      → now ++ copy_lines w (made + 1) (drop (made + 1) w.copies) ≡ whole
  copies_more now within before more =
      elim (slice_get_cases w.copies made).1 [
        | inl found ↦
            let c = found.0 in
            let later = copy_lines w (made + 1) (drop (made + 1) w.copies) in
            let rest : drop made w.copies ≡ c ∷ drop (made + 1) w.copies = drop_more w.copies made c within ∙ ap (λ x. x ∷ drop (made + 1) w.copies) found.3 in
            ap (λ xs. xs ++ later) (more c (numbered w made c found.2)) ∙ append_assoc so_far (copy_line w (made + 1) c) later ∙ ap (λ cs. so_far ++ copy_lines w made cs) (sym rest) ∙ before
        | inr past ↦ absurd (omega (arith, past.0))
      ]

  pub copies_all : length w.copies ≤ made → so_far ++ copy_lines w made (drop made w.copies) ≡ whole → so_far ≡ whole
  copies_all past before = sym (append-nil so_far) ∙ ap (λ cs. so_far ++ copy_lines w made cs) (sym (drop_all made w.copies past)) ∙ before

-- ---- the line of a copy

-- the line of a copy, by its parts
abbrev pub line_by : ℕ → Option Name → ℕ → Name → ℕ → List ℕ → List ℕ → List ℕ
line_by number name e to f way bytes =
    codes "  copy " ++ decimal number ++ codes " " ++ endpoint_text name e ++ codes " > " ++ endpoint_text (Some to) f ++ codes " " ++ way ++ codes " " ++ hex_text bytes ++ 10 ∷ []

-- pieces one after another
pub in_pieces : (old now a n b from c to d way e hex z : List ℕ) → now ≡ old ++ (a ++ (n ++ (b ++ (from ++ (c ++ (to ++ (d ++ (way ++ (e ++ (hex ++ z))))))))))
    → now ≡ old ++ (a ++ n ++ b ++ from ++ c ++ to ++ d ++ way ++ e ++ hex ++ z)
in_pieces old now a n b from c to d way e hex z is = simp append_assoc is

-- the router at a place, by its name
abbrev pub name_at : Parts → ℕ → Option Name
name_at w place = option_map (λ m. m.name) (slice_get w.members place)

receiver_is : (o : Option Member) (c : MailCopy) (info : CopyInfo) → Some info ≡ option_map (info_of_copy c) o → (m : Member) × (o ≡ Some m) × (info ≡ info_of_copy c m)
receiver_is None c info is = absurd cc
receiver_is (Some m) c info is = (m, refl, same_Some info (info_of_copy c m) is)

-- it is that line, by what the world says of the copy
pub copy_told : (w : Parts) (number : ℕ) (c : MailCopy) (info : CopyInfo) (bytes : List ℕ) (name : Option Name) (place f : ℕ) (way old now : List ℕ) → HasInfo w (copy_at w number) (Some info)
    → Some bytes ≡ option_map (λ (m : MailCopy). m.bytes) (copy_at w number) → name ≡ name_at w place → place ≡ sender_place info.from → f ≡ info.endpoint.0 → way ≡ way_word info.multicast
    → now ≡ old ++ line_by number name (sender_endpoint info.from) info.to f way bytes → copy_at w number ≡ Some c → now ≡ old ++ copy_line w number c
copy_told w number c info bytes name place f way old now has has_bytes name_is place_is f_is way_is told at =
    let known : Some info ≡ option_map (info_of_copy c) (slice_get w.members
    c.to.place) = has ∙ ap (λ (o : Option MailCopy). option_and_then (λ (m : MailCopy). option_map (info_of_copy m) (slice_get w.members m.to.place)) o) at in
    let to = receiver_is (slice_get w.members c.to.place) c info known in
    let same : bytes ≡ c.bytes = same_Some bytes c.bytes (has_bytes ∙ ap (λ (o : Option MailCopy). option_map (λ (m : MailCopy). m.bytes) o) at) in
    let sender : name ≡ name_at w (sender_place info.from) = name_is ∙ ap (name_at w) place_is in
    let receiver : Some to.0.name ≡ name_at w c.to.place = ap (λ (o : Option Member). option_map (λ (m : Member). m.name) o) (sym to.1) in
    let Line : CopyInfo → Option Name → ℕ → List ℕ → List ℕ → List ℕ = λ x sent g by written.
    codes "  copy " ++ decimal number ++ codes " " ++ endpoint_text sent (sender_endpoint x.from) ++ codes " > " ++ endpoint_text
    (Some x.to) g ++ codes " " ++ by ++ codes " " ++ hex_text written ++ 10 ∷ []
    in
    let first : Line info name f way bytes ≡ Line info (name_at w (sender_place info.from)) info.endpoint.0 (way_word info.multicast)
    c.bytes = λ i. Line info (sender i) (f_is i) (way_is i) (same i) in
    let second : Line info (name_at w (sender_place info.from)) info.endpoint.0 (way_word info.multicast) c.bytes ≡ Line (info_of_copy c to.0) (name_at w (sender_place c.from))
    c.to.endpoint.0 (way_word c.multicast) c.bytes =
    ap (λ (x : CopyInfo). Line x (name_at w (sender_place x.from)) x.endpoint.0 (way_word x.multicast) c.bytes) to.2
    in
    let third : Line (info_of_copy c to.0) (name_at w (sender_place c.from)) c.to.endpoint.0 (way_word c.multicast) c.bytes ≡ copy_line w number c =
    ap (λ (o : Option Name). codes "  copy " ++ decimal number ++ codes " " ++ endpoint_text (name_at w (sender_place c.from)) (sender_endpoint
    c.from) ++ codes " > " ++ endpoint_text o c.to.endpoint.0
    ++ codes " " ++ way_word c.multicast ++ codes " " ++ hex_text c.bytes ++ 10 ∷ []) receiver
    in
    told ∙ ap (λ xs. old ++ xs) (first ∙ second ∙ third)
