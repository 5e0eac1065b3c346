-- Prefixes inside usable prefixes are in the order of these.
use Rattle.hn_base.proofs.Names.{◌≡◌, ◌-◌, ◌<◌, ◌≤◌, List, Contains, ⊎_elim, arith, Less, cases_lt, pow_pos, PlainPrefix, IsPrefix, IsWithin, last_address, prefix_cmp}
use Rattle.hn_deleg.proofs.Names.{PlainView, Delegated, prefixes_of, AreUsable, prefix_total}
use Rattle.hn_base.proofs.AscendingLists.{not_below_itself}
use Rattle.hn_deleg.proofs.Fits.{candidate_is_prefix}
use Rattle.hn_deleg.proofs.Prefixes.{WithinIsRange, OverlapIsRange, OverlapIsNesting, less_bits, cmp_from_bits}
use Rattle.hn_deleg.proofs.OneUsableList.{outermost_of, apart}

pub inside_ordered : WithinIsRange → OverlapIsRange → OverlapIsNesting → (view : PlainView) (list : List Delegated) (d f p q : PlainPrefix) → AreUsable view list → Contains (prefixes_of list) d
    → Contains (prefixes_of list) f → IsPrefix p → IsPrefix q → IsWithin p d → IsWithin q f → prefix_cmp d f ≡ Less → prefix_cmp p q ≡ Less
inside_ordered within_range overlap_range nesting view list d f p q are hd hf valid_p valid_q in_d in_f less =
    let valid_d = candidate_is_prefix view d (outermost_of view list d are hd).candidate in
    let valid_f = candidate_is_prefix view f (outermost_of view list f are hf).candidate in
    let first : d.bits ≤ f.bits = less_bits d f less in
    let range_p = (within_range d p valid_d valid_p).0 in_d in
    let range_q = (within_range f q valid_f valid_q).0 in_f in
    let end_f = pow_pos (128 - f.len) in
    let end_p = pow_pos (128 - p.len) in
    ⊎_elim (λ (after : last_address d < f.bits). cmp_from_bits p q (omega arith))
    (λ (before : f.bits ≤ last_address d).
    let same : d ≡ f = apart nesting view list d f are hd hf ((overlap_range d f valid_d valid_f).1 (omega arith, before)) in
    absurd (not_below_itself prefix_cmp prefix_total d f same less))
    (cases_lt (last_address d) f.bits)
