-- `into_slot`: the place goes out of the one field of the handle, with what that owned, and into the slot.
use Rattle.std.proofs.Common.{◌≡◌, List, [], ◌∷◌, ◌++◌, refl, sym, subst, ◌∙◌}
use Rattle.std.proofs.raw_atomic.Walks.{leaves, proved_at}
use Rattle.std_alloc.proofs.ResultValues.{and_tt}
use mathlib.Core.Bool.{true, ◌&&◌}
use lib.Dec.{T}
use mir.Syntax.{ty_ptr}
use mir.Val.{Val, WT, has_ty, of_list, vstruct, vcons, vnil}
use base.Fml.{ftrue}
use base.Logic.{SProp, ent, emp, id⊢}
use prog.Wp.{WpFn}
use contract.Monad.{fact, fact_i}
use contract.Running.{tables}
use types.Kit.{‵, raw, ◌⊛◌, ◌$◌, ◌∵◌, !, qed, by, move, keep, drop, split, fsplit, fjoin, fpick, fpack, suffices, use0, feq_i, feq_l}
use types.Part.{agg, sub, whole}
use types.Run.{stop, fld, of_opd, no_more, and_then, returns, enter}
use types.ByLocal.{alloc_all, pass_all, free_all, look_at, get, get_in, sets}
use denote.Builtin.{RawPtr}
use denote.RattleType.{Valss, owns}
use denote.RawPtr.{ptr_val, rawptr_Lawful}
use denote.Signature.{plain, types_at}
use denote.Steps.{nothing}
use denote.Struct.Owning.{shape}
use denote.Struct.Struct.{within}
use denote.Triple.Walked.{Stays, stay_dropped, walk_of, Goes-dropped}
use Rattle.hn_slot.specs.contracts.slot.Slot as slot
use Rattle.hn_lab.specs.contracts.open.OpenPlay.{the_row as R}
use Rattle.hn_lab_c.specs.contracts.handle.Handle as handle
use Rattle.hn_lab_c.specs.contracts.handle.Handle.into_slot as f
use Rattle.hn_lab_c.proofs.handle.Handle.into_slot.Statement.{statement}
use Rattle.hn_lab_c.proofs.handle.Handle.into_slot.Code as code

abbrev stayed : Stays f.ended.signature.params f.ended.kept
stayed = (stay_dropped (plain (λ _. handle.the_row)) (f.ended).kept.0, tt)

pub into_slot_spec : {M : Type 1} → statement M
into_slot_spec 𝓤 𝓛 𝓜 𝓡 wired =
    let 𝓣 = tables 𝓤 𝓛.H 𝓜 𝓡 𝓡.env in let clauses = f.clauses 𝓛 𝓜.mem 𝓡.returns in
    proved_at 𝓛 f.ended stayed clauses 𝓜 𝓡 (Goes-dropped 𝓛 0 (plain (λ _. handle.the_row)) (f.ended).kept.0 (λ κs p w. refl), tt)
    f.Key.name code.function (code.unfolded 𝓤 𝓛.H 𝓜 𝓡 wired) (λ y are.
    let x = y.0.3.0 in
    let Post : Val → SProp 𝓤 = (walk_of 𝓛 f.ended stayed clauses).post y in
    let Run : List Val → SProp 𝓤 = λ vs. WpFn 𝓤 𝓛.H 𝓣.C 𝓣.Λ code.function vs Post in
    let place : Val = ptr_val x.at in let v : Val = vstruct (vcons place vnil) in
    let typed = (rawptr_Lawful 𝓛).typed x.at _ refl in
    let fits : T (has_ty ty_ptr place && true) × WT v = (and_tt (has_ty ty_ptr place) typed.0.0, (typed.0.1, tt)) in
    qed 𝓛 ((‵ ftrue ⊛ ‵ (owns (types_at f.ended.signature.params y.0.0) y.0.3 y.0.4)) ∷ raw (emp 𝓤) ∷ []) ∵
    split ! $ move ! (1 ∷ []) $ fsplit ! $ fsplit ! $ fpick ! (λ fields. fsplit ! $ feq_l ! (λ is_struct. fsplit ! $ feq_l ! (λ is_place. drop ! $
    -- [what it owns; nothing; nothing; no `requires`]
    suffices ! (Run (v ∷ [])) (subst (λ (us : List Val). ent 𝓤 (Run (v ∷ [])) (Run (us ++ []))) (sym (is_struct ∙ (λ i. vstruct (of_list (is_place i ++ [])) ∷ []))) (id⊢ 𝓤 (Run (v ∷ [])))) $
    enter ! 𝓣.C 𝓣.Λ code.function (v ∷ []) Post $ alloc_all ! (λ l. pass_all ! refl (fits, tt) $
    sets ! (of_opd ! (get_in ! (fld ! refl (stop !)) (sub ! 0 refl (whole !)))) refl typed.0 $
    sets ! (of_opd ! (get ! refl)) refl typed.0 $
    sets ! (agg ! (and_then ! (get ! refl) (no_more !))) refl fits $
    -- what the field owns, and then the struct
    nothing ! $ feq_i ! (List Val) (place ∷ []) (place ∷ []) refl $ fjoin ! $ feq_i ! (List Val) (v ∷ []) (v ∷ []) refl $ fjoin ! $
    fpack ! (Valss (RawPtr ∷ [])) (within (shape (slot.the_type R)) (x.at, tt) (v ∷ [])) (place ∷ [], tt) $ fjoin ! $
    use0 𝓛 (raw (fact 𝓤 (x.held ≡ x.held))) (fact_i 𝓤 (x.held ≡ x.held) (emp 𝓤) refl) $ nothing ! $ nothing ! $ fjoin ! $
    returns ! (look_at ! 0 refl) $ free_all ! refl $ keep ! (4 ∷ 0 ∷ 2 ∷ 1 ∷ []) $
    by ! (leaves 𝓛 f.ended stayed clauses y v (record { at = x.at; held = x.held }) (tt, tt) (tt, tt)))))))
