use Rattle.hn_store.proofs.WhatWasBrought.{true_kept}
use Rattle.hn_store.proofs.laws.true_data_are_kept.Goals as goal

pub returns : goal.returns
returns c = true_kept
