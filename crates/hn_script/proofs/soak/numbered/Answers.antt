use Rattle.hn_base.proofs.Names.{◌++◌, ℕ, List, [], ◌∷◌, ◌∙◌, ap, sym, arith, map, Some, append_assoc, length-append}
use Rattle.hn_script.proofs.Names.{numbered, Line}
use Rattle.hn_script.proofs.SoakScripts.{numbered_more}
use Rattle.hn_script.proofs.soak.numbered.Goals as goal

pub loop-line-preserved : goal.loop-line-preserved
loop-line-preserved c =
    let before = c.loop-line.invariant in
    let line = c.in-Some.line in
    let yielded = c.loop-line.yielded in
    record {
      so_far = c.in_ok-push.ensures.ok ∙ ap (λ (found : List (ℕ × Line)). found ++ (c.loop-line.number, line) ∷ []) before.so_far
          ∙ ap (λ (k : ℕ). numbered 2 (map Some yielded) ++ (k, line) ∷ []) before.next ∙ sym (numbered_more 2 yielded line);
      next = omega (arith, length-append yielded (line ∷ []), before.next);
      left = before.left ∙ ap (λ (xs : List Line). yielded ++ xs) c.in-Some.ensures.steps.0 ∙ sym (append_assoc yielded (line ∷ []) _);
    }
