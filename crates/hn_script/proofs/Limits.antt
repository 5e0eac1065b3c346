-- The lines of a script are of its version, and their numbers in range.
use Rattle.hn_base.proofs.Names.{ℕ, ◌+◌, List, [], ◌∷◌, Option, Some, None, sym, subst, AllZip, AllByRecursion}
use Rattle.hn_script.proofs.Names.{IsField, Version, IsEntry, numbered, Gives, line_spelling, IsOfVersion, of_version, words_of, Line, Attach, Time, Run}
use Rattle.hn_script.specs.Laws.{IsLimited, ScriptIsLimited, LinesAreOfVersion}

limited_fields : (line : Line) (words : List (List ℕ)) → AllZip IsField (line_spelling line).fields words → IsLimited line
limited_fields (Attach name e link) [] zip = absurd zip
limited_fields (Attach name e link) (a ∷ []) zip = absurd zip.1
limited_fields (Attach name e link) (a ∷ b ∷ words) zip = zip.1.0.low
limited_fields (Time t) [] zip = absurd zip
limited_fields (Time t) (a ∷ words) zip = zip.0.high
limited_fields (Run t step) [] zip = absurd zip
limited_fields (Run t step) (a ∷ []) zip = absurd zip.1
limited_fields (Run t step) (a ∷ b ∷ words) zip = (zip.0.high, zip.1.0.high)
limited_fields _ words zip = tt

pub spelled : (version : Version) (line : Line) (words : List (List ℕ)) → Gives (of_version version) (Some line) words → IsOfVersion version line × IsLimited line
spelled version line [] gives = absurd gives.0
spelled version line (word ∷ words) gives = (gives.0.0, limited_fields line words gives.0.2)

-- what each line of a script is
both_lines : (version : Version) (n : ℕ) (entries : List (Option Line)) (texts : List (List ℕ)) → AllZip (IsEntry (of_version version)) entries texts
    → AllByRecursion (λ line. IsOfVersion version line.1) (numbered n entries) × AllByRecursion (λ line. IsLimited line.1) (numbered n entries)
both_lines version n [] texts zip = (tt, tt)
both_lines version n (None ∷ entries) [] zip = absurd zip
both_lines version n (Some line ∷ entries) [] zip = absurd zip
both_lines version n (None ∷ entries) (text ∷ texts) zip = both_lines version (n + 1) entries texts zip.1
both_lines version n (Some line ∷ entries) (text ∷ texts) zip =
    let here = spelled version line (words_of text) zip.0.gives in
    let later = both_lines version (n + 1) entries texts zip.1 in
    ((here.0, later.0), (here.1, later.1))

pub limited : ScriptIsLimited
limited script bytes h =
    subst (λ lines. AllByRecursion (λ line. IsLimited line.1) lines) (sym h.lines.2) (both_lines script.version 2 h.lines.0 h.texts h.lines.1).1

pub lines_of_version : LinesAreOfVersion
lines_of_version bytes script h =
    subst (λ lines. AllByRecursion (λ line. IsOfVersion script.version line.1) lines) (sym h.lines.2) (both_lines script.version 2 h.lines.0 h.texts h.lines.1).0
