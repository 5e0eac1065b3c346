-- A name keeps the text in front, and zeros after it.
use Rattle.hn_base.proofs.Names.{◌≡◌, ◌∙◌, ℕ, List, ◌++◌, length, drop, subst, sym, take-append_seam, drop-append_seam, IsNameText, IsPadded, first_bytes}
use Rattle.std.proofs.Math.ListN.{replicate}
use Rattle.std.proofs.lemmas.List.{drop-replicate}
use Rattle.hn_base.proofs.name.Name.new.Goals as goal

front : (text zeros : List ℕ) → first_bytes (length text) (text ++ zeros) ≡ text
front text zeros = take-append_seam text zeros

padded_after : (text : List ℕ) → IsPadded (length text) (text ++ drop (length text) (replicate 16 0))
padded_after text = drop-append_seam text _ ∙ drop-replicate (length text) 16 0

pub invariant_of-result : goal.invariant_of-result
invariant_of-result c =
    let valid : IsNameText c.args.text.now = c.is_name_text.ensures.0 c.if-not-is_name_text.false in
    let copied : c.copy_from_slice.new.self ≡ c.args.text.now = c.copy_from_slice.ensures.after in
    record {
      fits = valid.short;
      is_name = rw copied (subst IsNameText (sym (front c.args.text.now _)) valid);
      padded = rw copied (padded_after c.args.text.now);
    }
