use Rattle.hn_base.proofs.Names.{not}
use Rattle.hn_store.proofs.Names.{is_forgotten}
use Rattle.hn_store.proofs.TableStays.{IsTable-none, IsTable-filter}
use Rattle.hn_store.proofs.Losses.{IsTable-marked}
use Rattle.hn_store.proofs.laws.loss_keeps_table.Goals as goal

pub returns-clause-none : goal.returns-clause-none
returns-clause-none c = IsTable-none

pub returns-clause-marks : goal.returns-clause-marks
returns-clause-marks c reach now nodes are = IsTable-marked nodes.limit reach now nodes.entries are

pub returns-clause-forgetting : goal.returns-clause-forgetting
returns-clause-forgetting c now nodes are = IsTable-filter nodes.limit (λ node. not (is_forgotten now node)) nodes.entries are
