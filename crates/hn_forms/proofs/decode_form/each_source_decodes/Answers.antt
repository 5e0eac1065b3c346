use Rattle.hn_forms.proofs.Decodes.{decodes}
use Rattle.hn_forms.proofs.decode_form.each_source_decodes.Goals as goal

pub returns : goal.returns
returns c = decodes c.list_or_first_fault.ensures c.decode_text_exists.ensures
