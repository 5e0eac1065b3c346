use Rattle.hn_base.proofs.Names.{◌∙◌, false≢true}
use Rattle.hn_router_c.proofs.Options.{not_refused}
use Rattle.hn_router_c.proofs.beside.are_options.Goals as goal

pub returns-in-Err-Ra : goal.returns-in-Err-Ra
returns-in-Err-Ra c = (
  λ are. absurd (false≢true are),
  λ has. absurd (not_refused c.args.bytes.now c.as_slice.result.now c.in-Err-Ra.field-0 c.in-Err-Ra.field-0-0 (c.as_slice.ensures.value ∙ c.in_ok-whole.ensures)
      c.in-Err-Ra.field-0-is c.in-Err-Ra.ensures.at_advert has),
)
