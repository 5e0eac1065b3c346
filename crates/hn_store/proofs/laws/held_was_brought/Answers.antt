use Rattle.hn_store.proofs.WhatWasBrought.{was_brought, marked_was, remembered_was}
use Rattle.hn_store.proofs.laws.held_was_brought.Goals as goal

pub returns-clause-state : goal.returns-clause-state
returns-clause-state c = was_brought

pub returns-clause-marks : goal.returns-clause-marks
returns-clause-marks c = marked_was

pub returns-clause-forgetting : goal.returns-clause-forgetting
returns-clause-forgetting c = remembered_was
