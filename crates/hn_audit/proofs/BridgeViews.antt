-- Of a settled set each router sees each other as it is, and nobody else.
use Rattle.hn_base.proofs.Names.{List, Contains, subst}
use Rattle.hn_audit.proofs.Names.{NodeId, Member, Parts, IsReached}
use Rattle.hn_audit.specs.Laws.{SeesTheSet, SettledSeeEachOther}
use Rattle.hn_audit.proofs.BridgeSets.{IsKnown, reach_is, one_member, member_of, in_view, of_view}
use Rattle.hn_audit.proofs.BridgeWorlds.{WorldLaws, known_of}

are_seen : (w : Parts) (r s : Member) → IsKnown w r → IsReached w r s → SeesTheSet w r s
are_seen w r s known s_in = record {
  each_member = λ u u_in. let found = in_view w r known s u s_in u_in in (found.0, found.1, found.2.id, found.2.body);
  nobody_else = λ n there. let found = of_view w r known s n s_in there in (found.0, found.1, found.2.id, found.2.body);
  reach_is_theirs = λ id there. member_of w r known id (subst (λ (ids : List NodeId). Contains ids id) (reach_is w r known s s_in) there);
  one_of_an_id = λ u v u_in v_in same. one_member w r known u v u_in v_in same;
}

pub see_each_other : WorldLaws → SettledSeeEachOther
see_each_other laws w r s replayed runs settled s_in = are_seen w r s (known_of laws w r replayed runs settled) s_in
