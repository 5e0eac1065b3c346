-- The names that proofs of this crate cite most, handed on from one place. Declares nothing.
pub use Rattle.core.proofs.alloc.Calls.{Goes-blank, handle_tells}
pub use Rattle.core.proofs.cell.Inside.{Good}
pub use Rattle.hn_slot.specs.Held.{held_by, heap_owns}
pub use Rattle.std.proofs.Common.{List, [], ap, refl, subst, sym, ◌++◌, ◌∙◌, ◌∷◌, ◌≡◌}
pub use Rattle.std.proofs.raw_atomic.Walks.{leaves, proved_at}
pub use Rattle.std.specs.Prelude.{IsSome, Option, is_none}
pub use Rattle.std_alloc.proofs.BoxSteps.Form.{B, box_typed}
pub use Rattle.std_alloc.proofs.BoxSteps.Steps.{box_in, box_out}
pub use Rattle.std_alloc.proofs.ResultValues.{and_tt}
pub use Rattle.std_alloc.specs.Box.Ownership.{box_owns}
pub use base.Fml.{flft, ftrue}
pub use base.Logic.{SProp, emp, ent, fst∗, id⊢, never}
pub use contract.Monad.{fact, fact_i}
pub use contract.Running.{tables}
pub use denote.Builtin.{RawPtr}
pub use denote.Exit.{no}
pub use denote.Memory.{lone}
pub use denote.Param.{layout, param}
pub use denote.Param.Laws.{param_laws}
pub use denote.RattleType.{Valss, owns}
pub use denote.RawPtr.{Ptr, block_ptr, in_a_block, null_ptr, ptr_val, rawptr_Lawful}
pub use denote.Signature.{plain, types_at}
pub use denote.Steps.{heard, nothing, only}
pub use denote.Struct.Owning.{shape}
pub use denote.Struct.Struct.{within}
pub use denote.Struct.Tuple.{Tuple}
pub use denote.Triple.Spec.{triple_of}
pub use denote.Triple.Table.{framed}
pub use denote.Triple.Walked.{Goes-dropped, Stays, stay_dropped, walk_of}
pub use lib.Dec.{T}
pub use mathlib.Core.Bool.{true, ◌&&◌}
pub use mir.MapTy.{inst_fn}
pub use mir.Syntax.{ty_ptr}
pub use mir.Val.{Val, WT, has_ty, of_list, vbool, vcons, vnil, vptr, vstruct}
pub use prog.Wp.{WpFn}
pub use seplogic.Ra.Ura.{Ura}
pub use types.ByLocal.{alloc_all, free_all, get, get_in, look_at, pass_all, sets}
pub use types.Kit.{ !, await, by, drop, feq_i, feq_l, fjoin, fpack, fpick, fsplit, join, keep, later, move, pick, qed, raw, rewrite, some, split, split3, suffices, use0, use1, ‵, ◌$◌, ◌∵◌, ◌⊛◌}
pub use types.Logic.{Logic, sem}
pub use types.Part.{agg, sub, whole}
pub use types.Run.{and_then, enter, fld, no_more, of_opd, returns, stop}
