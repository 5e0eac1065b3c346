-- `look`: the place goes out of the one field, is compared with null, and goes into a handle again.
use Rattle.hn_handle.proofs.Names.{◌≡◌, List, [], ◌∷◌, ◌++◌, refl, ◌∙◌, is_none, true, ◌&&◌, T, ty_ptr, Val, vbool, vstruct, vcons, vnil, of_list, has_ty, WT, SProp, emp, ftrue, WpFn, ‵, raw, ◌⊛◌}
use Rattle.hn_handle.proofs.Names.{◌$◌, ◌∵◌, !, qed, by, move, keep, drop, split, fsplit, fjoin, fpick, fpack, suffices, use0, use1, feq_i, feq_l, stop, fld, of_opd, no_more, and_then, returns, enter}
use Rattle.hn_handle.proofs.Names.{alloc_all, pass_all, free_all, look_at, get, get_in, sets, agg, sub, whole, fact, fact_i, tables, RawPtr, Valss, owns, ptr_val, rawptr_Lawful, types_at, plain}
use Rattle.hn_handle.proofs.Names.{nothing, within, shape, Stays, stay_dropped, walk_of, Goes-dropped, proved_at, leaves, and_tt, held_at}
use types.Kit.{given, learn}
use types.Run.{bin, lit}
use types.ByLocal.{is}
use denote.Builtin.{bool}
use denote.RawPtr.{tests_null}
use Rattle.hn_handle.proofs.Held.{is_null, answered, Tells, tested}
use Rattle.hn_handle.proofs.Parts.{both, one_argument, paired}
use Rattle.hn_handle.specs.contracts.handle.Handle as handle
use Rattle.hn_handle.specs.contracts.handle.Handle.{the_row as Held}
use Rattle.hn_handle.specs.contracts.handle.Handle.look as f
use Rattle.hn_handle.proofs.handle.Handle.look.Statement.{statement}
use Rattle.hn_handle.proofs.handle.Handle.look.Code as code

abbrev stayed : Stays f.ended.signature.params f.ended.kept
stayed = (stay_dropped (plain (λ _. Held)) (f.ended).kept.0, tt)

pub look_spec : {M : Type 1} → statement M
look_spec 𝓤 𝓛 𝓜 𝓡 wired =
    let 𝓣 = tables 𝓤 𝓛.H 𝓜 𝓡 𝓡.env in let clauses = f.clauses 𝓛 𝓜.mem 𝓡.returns in
    proved_at 𝓛 f.ended stayed clauses 𝓜 𝓡 (Goes-dropped 𝓛 0 (plain (λ _. Held)) (f.ended).kept.0 (λ κs x w. refl), tt)
    f.Key.name code.function (code.unfolded 𝓤 𝓛.H 𝓜 𝓡 wired) (λ y are.
    let self = y.0.3.0 in
    let Post : Val → SProp 𝓤 = (walk_of 𝓛 f.ended stayed clauses).post y in
    let Run : List Val → SProp 𝓤 = λ vs. WpFn 𝓤 𝓛.H 𝓣.C 𝓣.Λ code.function vs Post in
    let place : Val = ptr_val self.at in let h : Val = vstruct (vcons place vnil) in let null = is_null self.at in
    let typed = (rawptr_Lawful 𝓛).typed self.at _ refl in
    let fits : T (has_ty ty_ptr place && true) × WT h = (and_tt (has_ty ty_ptr place) typed.0.0, (typed.0.1, tt)) in
    qed 𝓛 ((‵ ftrue ⊛ ‵ (owns (types_at f.ended.signature.params y.0.0) y.0.3 y.0.4)) ∷ raw (emp 𝓤) ∷ []) ∵
    split ! $ move ! (1 ∷ []) $ fsplit ! $ fsplit ! $ fpick ! (λ fields. fsplit ! $ feq_l ! (λ is_handle. fsplit ! $ feq_l ! (λ is_place. drop ! $
    -- [what the handle owns; nothing; nothing; no `requires`]
    use1 𝓛 (given (Tells self.at self.held) (‵ (held_at self.at self.held))) (tested 𝓛 self.at self.held) $ learn ! (λ tells.
    suffices ! (Run (h ∷ [])) (one_argument 𝓤 Run h y.0.4.0 (is_handle ∙ (λ i. vstruct (of_list (is_place i ++ [])) ∷ []))) $
    enter ! 𝓣.C 𝓣.Λ code.function (h ∷ []) Post $ alloc_all ! (λ l. pass_all ! refl (fits, tt) $
    sets ! (of_opd ! (get_in ! (fld ! refl (stop !)) (sub ! 0 refl (whole !)))) refl typed.0 $
    sets ! (is ! (bin ! (get ! refl) (lit ! tt) (tests_null self.at tells.testable)) (answered self.at)) refl (tt, tt) $
    sets ! (agg ! (and_then ! (get ! refl) (no_more !))) refl fits $
    sets ! (agg ! (and_then ! (get ! refl) (and_then ! (get ! refl) (no_more !)))) refl (and_tt (has_ty ty_ptr place && true) fits.0, (tt, (fits.1, tt))) $
    -- what the fields own, then the handle, and then the pair
    nothing ! $ feq_i ! (List Val) (place ∷ []) (place ∷ []) refl $ fjoin ! $ feq_i ! (List Val) (h ∷ []) (h ∷ []) refl $ fjoin ! $
    fpack ! (Valss (RawPtr ∷ [])) (within (shape handle.the_type) (self.at, tt) (h ∷ [])) (place ∷ [], tt) $ fjoin ! $
    feq_i ! (List Val) (vbool null ∷ []) (vbool null ∷ []) refl $ paired bool Held ! null self (vbool null) h $
    use0 𝓛 (raw (fact 𝓤 ((self.held ≡ self.held) × (null ≡ is_none self.held)))) (fact_i 𝓤 ((self.held ≡ self.held) × (null ≡ is_none self.held)) (emp 𝓤) (refl, tells.is)) $
    nothing ! $ nothing ! $ fjoin ! $ returns ! (look_at ! 0 refl) $ free_all ! refl $ keep ! (4 ∷ 0 ∷ 2 ∷ 1 ∷ []) $
    by ! (leaves 𝓛 f.ended stayed clauses y (both (vbool null) h) (null, self) (tt, tt) (tt, tt))))))))
