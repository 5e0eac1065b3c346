-- What the one outcome says of two readings of the same bytes.
use Rattle.hn_base.proofs.Names.{◌≡◌, ℕ, ◌+◌, ◌^◌, ◌<◌, Bool, true, false, List, [], ◌∷◌, ◌++◌, length, get_or, refl, sym, ap, subst, ◌∙◌, append_assoc, arith, inl, inr}
use Rattle.hn_advert.proofs.Names.{length-append, Advert, IsHeader, header_bytes, NdOption, IsNdOption, option_bytes, AreOptions, options_bytes, IsAdvert, IsOptionFault, IsFirstOptionFault}
use Rattle.hn_advert.proofs.Names.{AdvertFault, HasOptions}
use Rattle.hn_base.proofs.BigEndian.{same_two, same_words}
use Rattle.hn_advert.specs.Layout.{Header, flags_byte}
use Rattle.hn_advert.specs.Fault.{IsHeaderFault}
use Rattle.hn_base.proofs.BeginningOfBytes as begin
use Rattle.hn_advert.proofs.Outcome.{outcome, option_told}

-- ---- one option, or one fault

same_option : (o p : NdOption) (x y : List ℕ) → IsNdOption o → IsNdOption p → option_bytes o ++ x ≡ option_bytes p ++ y → (o ≡ p) × (x ≡ y)
same_option = begin.same_begin option_bytes IsNdOption IsOptionFault outcome option_told

same_option_fault : (bytes : List ℕ) (p q v w : ℕ) → IsOptionFault bytes p v → IsOptionFault bytes q w → (p ≡ q) × (v ≡ w)
same_option_fault = begin.same_fault option_bytes IsNdOption IsOptionFault outcome option_told

-- where a fault lies, no option begins
no_option : (bytes rest : List ℕ) (offset why : ℕ) (o : NdOption) → IsOptionFault bytes offset why → IsNdOption o → bytes ≡ option_bytes o ++ rest → ⊥
no_option = begin.no_begin option_bytes IsNdOption IsOptionFault outcome option_told

-- where a fault lies, bytes are
not_empty : (bytes : List ℕ) (offset why : ℕ) → IsOptionFault bytes offset why → bytes ≡ [] → ⊥
not_empty = begin.not_empty option_bytes IsNdOption IsOptionFault outcome option_told

-- where an option begins, bytes are
some_bytes : (o : NdOption) (rest : List ℕ) → IsNdOption o → [] ≡ option_bytes o ++ rest → ⊥
some_bytes = begin.some_bytes option_bytes IsNdOption IsOptionFault outcome option_told

-- ---- lists of options

same_options : (a b : List NdOption) → AreOptions a → AreOptions b → options_bytes a ≡ options_bytes b → a ≡ b
same_options [] [] f g e = refl
same_options [] (p ∷ ps) f g e = absurd (some_bytes p (options_bytes ps) g.0 e)
same_options (o ∷ os) [] f g e = absurd (some_bytes o (options_bytes os) f.0 (sym e))
same_options (o ∷ os) (p ∷ ps) f g e =
    let same = same_option o p (options_bytes os) (options_bytes ps) f.0 g.0 e in
    rw (same.0, same_options os ps f.1 g.1 same.1) refl

no_options_then_fault : (a b : List NdOption) (rest : List ℕ) (offset why : ℕ) → AreOptions a → AreOptions b → IsOptionFault rest offset why → options_bytes a ++ rest ≡ options_bytes b → ⊥
no_options_then_fault [] [] rest offset why f g fault e = not_empty rest offset why fault e
no_options_then_fault [] (p ∷ ps) rest offset why f g fault e = no_option rest (options_bytes ps) offset why p fault g.0 e
no_options_then_fault (o ∷ os) [] rest offset why f g fault e = some_bytes o (options_bytes os ++ rest) f.0 (sym e ∙ append_assoc (option_bytes o) (options_bytes os) rest)
no_options_then_fault (o ∷ os) (p ∷ ps) rest offset why f g fault e =
    let same = same_option o p (options_bytes os ++ rest) (options_bytes ps) f.0 g.0 (sym (append_assoc (option_bytes o) (options_bytes os) rest) ∙ e) in
    no_options_then_fault os ps rest offset why f.1 g.1 fault same.1

same_fault_after : (a b : List NdOption) (r s : List ℕ) (o p v w : ℕ) → AreOptions a → AreOptions b → options_bytes a ++ r ≡ options_bytes b ++ s
    → IsOptionFault r o v → IsOptionFault s p w → (length (options_bytes a) + o ≡ length (options_bytes b) + p) × (v ≡ w)
same_fault_after [] [] r s o p v w f g e x y = let same = same_option_fault s o p v w (subst (λ (z : List ℕ). IsOptionFault z o v) e x) y in (ap (λ n. 0 + n) same.0, same.1)
same_fault_after [] (q ∷ qs) r s o p v w f g e x y = absurd (no_option r (options_bytes qs ++ s) o v q x g.0 (e ∙ append_assoc (option_bytes q) (options_bytes qs) s))
same_fault_after (q ∷ qs) [] r s o p v w f g e x y = absurd (no_option s (options_bytes qs ++ r) p w q y f.0 (sym e ∙ append_assoc (option_bytes q) (options_bytes qs) r))
same_fault_after (q ∷ qs) (t ∷ ts) r s o p v w f g e x y =
    let left = append_assoc (option_bytes q) (options_bytes qs) r in
    let right = append_assoc (option_bytes t) (options_bytes ts) s in
    let same = same_option q t (options_bytes qs ++ r) (options_bytes ts ++ s) f.0 g.0 (sym left ∙ e ∙ right) in
    let others = same_fault_after qs ts r s o p v w f.1 g.1 same.1 x y in
    let sizes : length (option_bytes q) ≡ length (option_bytes t) = ap (λ (z : NdOption). length (option_bytes z)) same.0 in
    (omega (arith, others.0, sizes, length-append (option_bytes q) (options_bytes qs), length-append (option_bytes t) (options_bytes ts)), others.1)

pub same_first_fault : (bytes : List ℕ) (p q v w : ℕ) → IsFirstOptionFault bytes p v → IsFirstOptionFault bytes q w → (p ≡ q) × (v ≡ w)
same_first_fault bytes p q v w f g =
    let same = same_fault_after f.options g.options f.rest g.rest f.offset g.offset v w f.options_fit g.options_fit (sym f.parts ∙ g.parts) f.fault g.fault in
    (f.place_is ∙ same.0 ∙ sym g.place_is, same.1)

pub no_first_fault : (bytes : List ℕ) (place why : ℕ) → HasOptions bytes → IsFirstOptionFault bytes place why → ⊥
no_first_fault bytes place why h f = no_options_then_fault f.options h.options f.rest f.offset why f.options_fit h.fit f.fault (sym f.parts ∙ h.parts)

-- ---- headers

same_flags : (m o n p : Bool) (r s : ℕ) → r < 2 ^ 6 → s < 2 ^ 6 → flags_byte m o r ≡ flags_byte n p s → (m ≡ n) × (o ≡ p) × (r ≡ s)
same_flags true true true true r s few some e = (refl, refl, omega arith)
same_flags true true true false r s few some e = absurd (omega arith)
same_flags true true false true r s few some e = absurd (omega arith)
same_flags true true false false r s few some e = absurd (omega arith)
same_flags true false true true r s few some e = absurd (omega arith)
same_flags true false true false r s few some e = (refl, refl, omega arith)
same_flags true false false true r s few some e = absurd (omega arith)
same_flags true false false false r s few some e = absurd (omega arith)
same_flags false true true true r s few some e = absurd (omega arith)
same_flags false true true false r s few some e = absurd (omega arith)
same_flags false true false true r s few some e = (refl, refl, omega arith)
same_flags false true false false r s few some e = absurd (omega arith)
same_flags false false true true r s few some e = absurd (omega arith)
same_flags false false true false r s few some e = absurd (omega arith)
same_flags false false false true r s few some e = absurd (omega arith)
same_flags false false false false r s few some e = (refl, refl, omega arith)

same_header : (h k : Header) (x y : List ℕ) → IsHeader h → IsHeader k → header_bytes h ++ x ≡ header_bytes k ++ y → (h ≡ k) × (x ≡ y)
same_header h k x y f g e =
    let checksum = same_two h.checksum k.checksum f.checksum g.checksum cc in
    let hop_limit : h.hop_limit ≡ k.hop_limit = cc in
    let flags = same_flags h.managed h.other k.managed k.other h.reserved k.reserved f.reserved g.reserved cc in
    let lifetime = same_two h.lifetime k.lifetime f.lifetime g.lifetime cc in
    let reachable = same_words h.reachable_time k.reachable_time f.reachable_time g.reachable_time cc in
    let retrans = same_words h.retrans_timer k.retrans_timer f.retrans_timer g.retrans_timer cc in
    let all : h ≡ k = λ i. record {
      checksum = checksum i;
      hop_limit = hop_limit i;
      managed = flags.0 i;
      other = flags.1 i;
      reserved = flags.2 i;
      lifetime = lifetime i;
      reachable_time = reachable i;
      retrans_timer = retrans i;
    } in
    (all, cc)

no_header_fault : (bytes rest : List ℕ) (h : Header) (place why : ℕ) → IsHeaderFault bytes place why → bytes ≡ header_bytes h ++ rest → ⊥
no_header_fault bytes rest h place why (inl (w, (short, at))) e = omega (arith, short, ap length e)
no_header_fault bytes rest h place why (inr (inl (w, (long, other, at)))) e = other (ap (λ (z : List ℕ). get_or z 0 0) e)
no_header_fault bytes rest h place why (inr (inr (w, (long, kind, other, at)))) e = other (ap (λ (z : List ℕ). get_or z 1 0) e)

same_header_fault : (bytes : List ℕ) (p q v w : ℕ) → IsHeaderFault bytes p v → IsHeaderFault bytes q w → (p ≡ q) × (v ≡ w)
same_header_fault bytes p q v w (inl (a, (short, i))) (inl (b, (cut, j))) = (i ∙ sym j, a ∙ sym b)
same_header_fault bytes p q v w (inl (a, (short, i))) (inr (inl (b, (long, other, j)))) = absurd (omega (arith, short, long))
same_header_fault bytes p q v w (inl (a, (short, i))) (inr (inr (b, (long, kind, other, j)))) = absurd (omega (arith, short, long))
same_header_fault bytes p q v w (inr (inl (a, (long, other, i)))) (inl (b, (short, j))) = absurd (omega (arith, short, long))
same_header_fault bytes p q v w (inr (inl (a, (long, other, i)))) (inr (inl (b, (size, kind, j)))) = (i ∙ sym j, a ∙ sym b)
same_header_fault bytes p q v w (inr (inl (a, (long, other, i)))) (inr (inr (b, (size, kind, code, j)))) = absurd (other kind)
same_header_fault bytes p q v w (inr (inr (a, (long, kind, other, i)))) (inl (b, (short, j))) = absurd (omega (arith, short, long))
same_header_fault bytes p q v w (inr (inr (a, (long, kind, other, i)))) (inr (inl (b, (size, code, j)))) = absurd (code kind)
same_header_fault bytes p q v w (inr (inr (a, (long, kind, other, i)))) (inr (inr (b, (size, type, code, j)))) = (i ∙ sym j, a ∙ sym b)

-- ---- messages

pub same_advert : (bytes : List ℕ) (a b : Advert) → IsAdvert bytes a → IsAdvert bytes b → a ≡ b
same_advert bytes a b f g =
    let same = same_header f.header g.header (options_bytes f.options) (options_bytes g.options) f.header_fits g.header_fits (sym f.parts ∙ g.parts) in
    let options = same_options f.options g.options f.options_fit g.options_fit same.1 in
    f.advert_is ∙ rw (same.0, options) refl ∙ sym g.advert_is

pub no_advert : (bytes : List ℕ) (place why : ℕ) (a : Advert) → AdvertFault bytes place why → IsAdvert bytes a → ⊥
no_advert bytes place why a (inl fault) g = no_header_fault bytes (options_bytes g.options) g.header place why fault g.parts
no_advert bytes place why a (inr f) g =
    let same = same_header f.header g.header f.rest (options_bytes g.options) f.header_fits g.header_fits (sym f.parts ∙ g.parts) in
    no_options_then_fault f.fault.options g.options f.fault.rest f.fault.offset why f.fault.options_fit g.options_fit f.fault.fault (sym f.fault.parts ∙ same.1)

pub same_fault : (bytes : List ℕ) (p q v w : ℕ) → AdvertFault bytes p v → AdvertFault bytes q w → (p ≡ q) × (v ≡ w)
same_fault bytes p q v w (inl f) (inl g) = same_header_fault bytes p q v w f g
same_fault bytes p q v w (inl f) (inr g) = absurd (no_header_fault bytes g.rest g.header p v f g.parts)
same_fault bytes p q v w (inr f) (inl g) = absurd (no_header_fault bytes f.rest f.header q w g f.parts)
same_fault bytes p q v w (inr f) (inr g) =
    let same = same_header f.header g.header f.rest g.rest f.header_fits g.header_fits (sym f.parts ∙ g.parts) in
    let first = same_first_fault g.rest f.offset g.offset v w (subst (λ (z : List ℕ). IsFirstOptionFault z f.offset v) same.1 f.fault) g.fault in
    (f.place_is ∙ ap (λ n. 16 + n) first.0 ∙ sym g.place_is, first.1)
