-- What is no text begins no line, since the first word of each line is one. A word of no line of the version is unknown;
-- else its lines are all of the version.
use Rattle.hn_base.proofs.Names.{inl, refl, subst, IsUtf8}
use Rattle.hn_script.proofs.Names.{line_spelling}
use Rattle.hn_script.proofs.LineWords.{first_letters}
use Rattle.hn_script.proofs.Versions.{draft_of_version}
use Rattle.hn_script.proofs.WordBytes.{IsWord-from_letters, IsUtf8-word}
use Rattle.hn_script.proofs.reader.read_draft.Goals as goal

pub returns-in_default : goal.returns-in_default
returns-in_default c =
    inl (
      λ line _ e. c.in_default.ensures.cases.0
          (subst IsUtf8 e (IsUtf8-word (line_spelling line).first (IsWord-from_letters (line_spelling line).first (first_letters line)))),
      refl,
    )

pub returns-then-is_of_version : goal.returns-then-is_of_version
returns-then-is_of_version c =
    rw (← c.in-Ok.ensures.cases.0) (draft_of_version c.args.version c.in-Ok.word.now _ c.if-is_of_version.ensures c.read_known.result c.read_known.ensures)

pub returns : goal.returns
returns c = rw (← c.in-Ok.ensures.cases.0) (inl (c.if-is_of_version.ensures, refl))
