use Rattle.hn_spacing.proofs.SpacedPlays.{are_spaced}
use Rattle.hn_spacing.proofs.laws.ra_lines_are_spaced.Goals as goal

pub returns : goal.returns
returns c = are_spaced
