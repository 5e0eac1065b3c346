use Rattle.std.proofs.Common.{List, subst, sym}
use Rattle.std.specs.Prelude.{Contains}
use Rattle.hn_data.specs.declared.said.AssignedPrefix.{AssignedPrefix}
use Rattle.hn_assign.proofs.kept_index.advertise_same.Goals as goal

pub returns-then-are_versions_alike : goal.returns-then-are_versions_alike
returns-then-are_versions_alike c is =
    let same = c.say_same.ensures.0 is in
    record {
      id = c.is_same.ensures c.if-is_same.true;
      version = c.are_versions_alike.ensures c.if-are_versions_alike.true;
      assigned = λ a. (
        λ has. (c.assigned-then-are_versions_alike.ensures a).0 (subst (λ (said : List AssignedPrefix). Contains said a) same ((c.assigned.ensures a).1 has)),
        λ has. (c.assigned.ensures a).0 (subst (λ (said : List AssignedPrefix). Contains said a) (sym same) ((c.assigned-then-are_versions_alike.ensures a).1 has)),
      );
    }
