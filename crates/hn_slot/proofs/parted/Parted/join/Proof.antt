-- `join`: the two fields are read, and `Box::from_raw` makes the box of them.
use Rattle.hn_slot.proofs.Names.{◌≡◌, List, [], ◌∷◌, refl, sym, ap, subst, Val, vptr, inst_fn, SProp, id⊢, ftrue, flft, WpFn, ‵, raw, ◌⊛◌, some, later, ◌$◌, ◌∵◌, !, qed, by, move, keep, drop, split}
use Rattle.hn_slot.proofs.Names.{split3, join, fsplit, fjoin, pick, suffices, use1, await, rewrite, feq_i, stop, fld, of_opd, no_more, and_then, returns, enter, alloc_all, pass_all, free_all}
use Rattle.hn_slot.proofs.Names.{look_at, get, get_in, sets, sub, whole, fact, tables, no, owns, types_at, plain, block_ptr, nothing, only, param, layout, param_laws, triple_of, framed, Stays}
use Rattle.hn_slot.proofs.Names.{stay_dropped, walk_of, Goes-blank, Good, B, box_typed, box_out, box_in, proved_at, leaves}
use types.Kit.{at_ret}
use types.Run.{first, blocks, exec}
use types.ByLocal.{lands_last, env}
use contract.BorrowLft.{◌⊑◌}
use denote.Triple.Clauses.{Lasts, lasts}
use denote.Triple.Call.{calls_at_last}
use Rattle.std.proofs.VecSteps.Shapes.{after}
use Rattle.std_alloc.specs.contracts.boxed.Box.from_raw as made
use Rattle.std_alloc.proofs.boxed.Box.from_raw.Met.{met}
use Rattle.hn_slot.proofs.Parts.{both, one_argument, Apart, boxed, given, fits, parts_out}
use Rattle.hn_slot.specs.contracts.parted.Parted.join as f
use Rattle.hn_slot.proofs.parted.Parted.join.Statement.{statement}
use Rattle.hn_slot.proofs.parted.Parted.join.Code as code

pub join_spec : {M : Type 1} → statement M
join_spec 𝓤 𝓛 𝓜 𝓡 wired V H LV LH g methods value_drop heap_drop allocator value_glue heap_glue =
    let 𝓣 = tables 𝓤 𝓛.H 𝓜 𝓡 𝓡.env in
    let ended = f.ended V H g methods value_drop heap_drop in
    let clauses = f.clauses V H g methods value_drop heap_drop 𝓛 𝓜.mem 𝓡.returns in
    let R = param 0 V in let Z = param 1 H in let LZ = param_laws 1 H LH in
    let E = boxed V H LV LH g methods heap_drop in
    let P = Apart R Z LZ g in
    let args = given V H methods value_drop heap_drop in
    let fn = inst_fn args code.function in
    let stayed : Stays ended.signature.params ended.kept = (stay_dropped (plain (λ _. P)) no, tt) in
    proved_at 𝓛 ended stayed clauses 𝓜 𝓡 (Goes-blank 𝓛 2 (plain (λ _. P)) no (λ κs x ok. tt), tt)
    (f.Key.name args) fn (code.unfolded 𝓤 𝓛.H 𝓜 𝓡 wired (V, (H, tt)) methods value_drop heap_drop) (λ y are.
    let κs = y.0.0 in let qs = y.0.1 in let p = y.0.3.0 in
    let Post : Val → SProp 𝓤 = (walk_of 𝓛 ended stayed clauses).post y in
    let Run : List Val → SProp 𝓤 = λ vs. WpFn 𝓤 𝓛.H 𝓣.C 𝓣.Λ fn vs Post in
    let tokens = ‵ (flft κs.0 qs.0) ⊛ ‵ (flft κs.1.0 qs.1.0) ⊛ ‵ ftrue in
    qed 𝓛 ((tokens ⊛ ‵ (owns (types_at ended.signature.params κs) y.0.3 y.0.4)) ∷ raw ((clauses κs y.0.3).requires y.1) ∷ []) ∵
    split ! $ move ! (1 ∷ []) $ fsplit ! $ parts_out R Z LZ g ! p y.0.4.0 (λ b o h is_block is_pair good.
    -- [what the place owns; the allocator; nothing; the tokens; the `requires`]
    let v : Val = both h (vptr b o) in
    let callee = triple_of 𝓛 (made.signature V H g methods heap_drop) (made.spec V H g methods heap_drop 𝓛 𝓜.mem 𝓡.returns) in
    let z : callee.Ghost = ((κs, qs, tt, (p.alloc, (block_ptr b o, tt)), (h ∷ [], (vptr b o ∷ [], tt))), p.value) in
    move ! (4 ∷ []) $ use1 𝓛 (raw (fact 𝓤 (κs.0 ⊑ V.lives)) ⊛ raw (fact 𝓤 (κs.1.0 ⊑ H.lives)) ⊛ ‵ ftrue) (id⊢ 𝓤 _) $ split3 ! $ move ! (2 ∷ []) $ drop ! $
    move ! (1 ∷ 2 ∷ []) $ join ! $ move ! (1 ∷ 0 ∷ []) $ join ! $
    -- [the `requires` of the callee; the allocator; nothing; the tokens]
    move ! (2 ∷ []) $ feq_i ! (List Val) (vptr b o ∷ []) (vptr b o ∷ []) refl $ fjoin ! $ move ! (2 ∷ 0 ∷ []) $ fjoin ! $ move ! (2 ∷ 0 ∷ []) $ join ! $ join ! $
    use1 𝓛 (raw (callee.pre z)) (id⊢ 𝓤 _) $
    suffices ! (Run (v ∷ [])) (one_argument 𝓤 Run v y.0.4.0 is_pair) $
    enter ! 𝓣.C 𝓣.Λ fn (v ∷ []) Post $ alloc_all ! (λ l. pass_all ! refl (fits R Z LZ g b o h good, tt) $
    sets ! (of_opd ! (get_in ! (fld ! refl (stop !)) (sub ! 0 refl (whole !)))) refl good $
    sets ! (of_opd ! (get_in ! (fld ! refl (stop !)) (sub ! 1 refl (whole !)))) refl (tt, tt) $
    first ! $ blocks ! $ sets ! (of_opd ! (get ! refl)) refl good $
    calls_at_last ! (framed 𝓤 𝓛.H 𝓜 𝓣) callee (met 𝓤 𝓛 𝓜 𝓡 (code.calls-std_alloc::boxed::Box::from_raw 𝓡.env wired) V H LV LH g methods heap_drop allocator heap_glue) z
    (and_then ! (get ! refl) (and_then ! (get ! refl) (no_more !))) (λ u.
    use1 𝓛 (later (some (λ (r : (B E).Denot). (tokens ⊛ ‵ ((B E).own_val r (u ∷ []))) ⊛
    some (λ (ls : Lasts (made.ended V H g methods heap_drop) κs z.0.3).
    ‵ (lasts (made.ended V H g methods heap_drop) κs z.0.3 ls) ⊛ (raw (fact 𝓤 (r.value ≡ p.value)) ⊛ raw (fact 𝓤 (r.alloc ≡ p.alloc))))))) (id⊢ 𝓤 (callee.post z u)) $
    await ! tt $ pick ! (λ r. split ! $ move ! (1 ∷ []) $ pick ! (λ _. split3 ! $ drop ! $ move ! (2 ∷ []) $ split ! $ move ! (1 ∷ []) $
    -- [the box; the tokens; that it has the value; that it has the allocator]
    box_out E ! r (u ∷ []) (λ b' o' h' is_block' is_word good'. box_in E ! r b' o' r.value is_block' refl $
    rewrite ! 0 (λ (vs : List Val). ‵ ((B E).own_val r vs)) (sym is_word) refl $
    let typed : Good (layout (B E)) u = subst (Good (layout (B E))) (sym (ap only is_word)) (box_typed E h' b' o' good') in
    lands_last ! refl typed $ exec ! 𝓣.C 𝓣.Λ (env fn.locals l) (after 3 fn.body) (at_ret (env fn.locals l) Post) $ sets ! (of_opd ! (get ! refl)) refl typed $
    nothing ! $ nothing ! $ fjoin ! $
    returns ! (look_at ! 0 refl) $ free_all ! refl $ keep ! (2 ∷ 0 ∷ 1 ∷ 3 ∷ []) $ by ! (leaves 𝓛 ended stayed clauses y u r ((tt, tt), tt) (tt, tt)))))))))
