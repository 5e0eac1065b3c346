use Rattle.hn_base.proofs.Names.{err_from_is_err_and}
use Rattle.hn_script.proofs.NodeFiles.{caps_fault}
use Rattle.hn_script.proofs.node_file.read_capabilities.Goals as goal

pub returns-in_err-capabilities : goal.returns-in_err-capabilities
returns-in_err-capabilities c =
    let exit = err_from_is_err_and c.from_residual.result c.from_residual.ensures.1 in
    rw (exit.1, exit.2) (caps_fault _ _ c.in_err-capabilities.ensures)
