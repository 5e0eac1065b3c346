-- The words of each line fail as the words after its first do.
use Rattle.hn_base.proofs.Names.{inl, refl, err_from_is_err_and}
use Rattle.hn_script.proofs.LineWords.{word_fault, router_lines, router_follows, attach_lines, attach_follows, caps_lines, caps_follows, elect_lines, elect_follows}
use Rattle.hn_script.proofs.reader.read_sole.Goals as goal

pub returns-in_err-name-in-router : goal.returns-in_err-name-in-router
returns-in_err-name-in-router c =
    let exit = err_from_is_err_and c.from_residual.result c.from_residual.ensures.1 in
    rw (exit.1, exit.2) (word_fault router_lines 2 _ (λ _. refl) router_follows _ (inl c.in-router.is) _ _ c.in_err-name-in-router.ensures)

pub returns-in_err-name-in-attach : goal.returns-in_err-name-in-attach
returns-in_err-name-in-attach c =
    let exit = err_from_is_err_and c.from_residual-in_err-name-in-attach.result c.from_residual-in_err-name-in-attach.ensures.1 in
    rw (exit.1, exit.2) (word_fault attach_lines 3 _ (λ _. refl) attach_follows _ (inl c.in-attach.is) _ _ c.in_err-name-in-attach.ensures)

pub returns-in_err-name-in-caps : goal.returns-in_err-name-in-caps
returns-in_err-name-in-caps c =
    let exit = err_from_is_err_and c.from_residual-in_err-name-in-caps.result c.from_residual-in_err-name-in-caps.ensures.1 in
    rw (exit.1, exit.2) (word_fault caps_lines 5 _ (λ _. refl) caps_follows _ (inl c.in-caps.is) _ _ c.in_err-name-in-caps.ensures)

pub returns-in_err-name-in-elect : goal.returns-in_err-name-in-elect
returns-in_err-name-in-elect c =
    let exit = err_from_is_err_and c.from_residual-in_err-name-in-elect.result c.from_residual-in_err-name-in-elect.ensures.1 in
    rw (exit.1, exit.2) (word_fault elect_lines 3 _ (λ _. refl) elect_follows _ (inl c.in-elect.is) _ _ c.in_err-name-in-elect.ensures)

pub read_prefixed-requires : goal.read_prefixed-requires
read_prefixed-requires c = (c.in_default.not-router, (c.in_default.not-attach, (c.in_default.not-caps, (c.in_default.not-elect, c.requires))))
