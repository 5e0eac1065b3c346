use Rattle.hn_base.proofs.Names.{refl}
use Rattle.hn_decode.proofs.Names.{Shows}
use Rattle.hn_decode.proofs.TextSoFar.{shown_none, shown_all}
use Rattle.hn_decode.proofs.WholeText.{whole_text}
use Rattle.hn_decode.proofs.laws.lines_make_the_text.Goals as goal

pub returns-clause-begins : goal.returns-clause-begins
returns-clause-begins c = shown_none (Shows 7) 0

pub returns-clause-whole : goal.returns-clause-whole
returns-clause-whole c = λ bytes lines tlvs list told. whole_text c.list_is_unique.ensures bytes lines tlvs list (shown_all (Shows 7) 0 bytes _ lines told refl)
