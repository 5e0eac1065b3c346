use Rattle.hn_tlv.proofs.OneReading.{same_begin}
use Rattle.hn_tlv.proofs.laws.spelling_is_prefix_free.Goals as goal

pub returns : goal.returns
returns c = same_begin
