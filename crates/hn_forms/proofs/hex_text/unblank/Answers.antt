use Rattle.hn_base.proofs.Names.{not, rules, tests, filter_same}
use Rattle.hn_forms.specs.HexText.{is_blank}
use Rattle.hn_forms.proofs.hex_text.unblank.Goals as goal

pub returns : goal.returns
returns c = filter_same _ (λ byte. not (is_blank byte)) _ (λ byte b f k. search (rules, tests)) _ _ c.retain.ensures.filtered
