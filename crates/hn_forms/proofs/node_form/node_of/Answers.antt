use Rattle.hn_base.proofs.Names.{◌∙◌, ℕ, List, Err, inl, refl, sym, ap, subst}
use Rattle.hn_forms.proofs.Names.{NodeLine, IsOverfull}
use Rattle.hn_forms.proofs.Nodes.{not_done, unserved}
use Rattle.hn_forms.proofs.node_form.node_of.Goals as goal

pub returns-in-Ok-clause-only : goal.returns-in-Ok-clause-only
returns-in-Ok-clause-only g c =
    let lines = c.in-Ok.lines in
    let file = c.in-Ok.ensures.file in
    record {
      no_file = λ fault is. absurd (c.fault_excludes_node_file.ensures c.args.bytes.now fault lines is file);
      overfull = λ others now number is full.
          let same = c.node_file_is_unique.ensures c.args.bytes.now others lines is file in
          c.serve_lines.ensures.overfull now number (subst (λ (x : List (ℕ × NodeLine)). IsOverfull c.args.call.now.id x now number) (same ∙ sym c.as_slice.ensures) full);
      done = λ others is free.
          let same = c.node_file_is_unique.ensures c.args.bytes.now others lines is file in
          c.serve_lines.ensures.done (λ now number full. free now number (subst (λ (x : List (ℕ × NodeLine)). IsOverfull c.args.call.now.id x now number) (c.as_slice.ensures ∙ sym same) full));
    }

pub returns-in-Err-Script-clause-only : goal.returns-in-Err-Script-clause-only
returns-in-Err-Script-clause-only g c =
    record {
      no_file = λ fault is. not_done c.refuse.result.status c.refuse.ensures.statuses;
      overfull = λ lines now number file full. not_done c.refuse.result.status c.refuse.ensures.statuses;
      done = λ lines file free. absurd (c.fault_excludes_node_file.ensures c.args.bytes.now c.in-Err-Script.fault lines
          (c.in-Err-Script.ensures.fault c.in-Err-Script.fault (ap Err c.in-Err-Script.field-0-is)) file);
    }

pub returns-in-Err-NoMemory-clause-node : goal.returns-in-Err-NoMemory-clause-node
returns-in-Err-NoMemory-clause-node g c = unserved _ _ _ _ _ _ _ c.of.ensures.status c.of.ensures.not_served (inl refl)
