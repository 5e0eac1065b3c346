-- What is decoded of a text without its blanks.
use Rattle.hn_base.proofs.Names.{◌≡◌, ◌⊎◌, ◌∙◌, ℕ, List, false, Result, Ok, Err, IsErr, IfErr, inl, inr, refl, sym, ap, subst}
use Rattle.hn_forms.proofs.Names.{decode_of, FromHexError, unblanked}
use Rattle.hex.specs.declared.error.FromHexError.TheVariants.{OutOfMemory}
use Rattle.hn_forms.specs.HexText.{IsNoHexText, is_out_of_memory}

-- where nothing was decoded, but for memory, the text is no hexadecimal text
pub refused_by : {T : Type 0} (text digits : List ℕ) (read : Result T FromHexError) → digits ≡ unblanked text
    → IfErr read (λ why. (why ≡ OutOfMemory) ⊎ (decode_of digits ≡ Err why)) → IfErr read (λ why. is_out_of_memory why ≡ false → IsNoHexText text)
refused_by text digits (Ok _) same refused = tt
refused_by text digits (Err why) same (inl none) = λ other. let no = sym other ∙ ap is_out_of_memory none in absurd cc
refused_by text digits (Err why) same (inr is) = λ other. subst (λ (xs : List ℕ). IsErr (decode_of xs)) same (subst IsErr (sym is) refl)
