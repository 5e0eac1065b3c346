-- Names are what their texts say: the facts that their type keeps have one proof each.
use Rattle.hn_base.proofs.Names.{◌≡◌, ℕ, ◌-◌, ◌≤◌, List, ◌++◌, length, refl, sym, ap, ◌∙◌, arith, replicate, props, name_text, IsNameText, IsPadded, first_bytes}
use Rattle.hn_script.proofs.Names.{Name}
use Rattle.std.proofs.Common.{take-append-drop, length-take}
use Rattle.hn_base.proofs.KnownByFields.{same_made}

IsName : ℕ × List ℕ → Type 0
IsName name = (name.0 ≤ 16) × IsNameText (first_bytes name.0 name.1) × IsPadded name.0 name.1

IsName-prop : (name : ℕ × List ℕ) → IsProp (IsName name)
unfolding IsName
IsName-prop name = hlevel props

make_name : (name : ℕ × List ℕ) → IsName name → Name
unfolding IsName
make_name name h = record { len = name.0; bytes = name.1; fits = h.0; is_name = h.1; padded = h.2 }

-- a text of a name is as long as it says
length_text : (name : Name) → length name.bytes ≡ 16 → length (name_text name) ≡ name.len
length_text name room = let fits = name.fits in let long = length-take name.len name.bytes in omega (arith, long)

whole_bytes : (name : Name) → name.bytes ≡ name_text name ++ replicate (16 - name.len) 0
whole_bytes name = sym (take-append-drop name.len name.bytes) ∙ ap (λ rest. name_text name ++ rest) name.padded

pub same_name : (a b : Name) → name_text a ≡ name_text b → length a.bytes ≡ 16 → length b.bytes ≡ 16 → a ≡ b
unfolding make_name IsName
same_name a b e m n =
    let len : a.len ≡ b.len = sym (length_text a m) ∙ ap length e ∙ length_text b n in
    let bytes : a.bytes ≡ b.bytes = whole_bytes a ∙ rw (e, len) (sym (whole_bytes b)) in
    same_made IsName IsName-prop make_name (a.len, a.bytes) (b.len, b.bytes) (rw (len, bytes) refl)
    (a.fits, a.is_name, a.padded) (b.fits, b.is_name, b.padded)
