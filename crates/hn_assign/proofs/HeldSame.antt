-- When two assignments are the same, and two prefixes that nodes assign.
use Rattle.std.proofs.Common.{◌≡◌, Bool, Decides, ap}
use Rattle.std.specs.Prelude.{◌==◌, ◌&&◌, nat_eq}
use Rattle.std.specs.Cmp.{booleans_Decides}
use Rattle.std.specs.Option.{option_eq}
use Rattle.std.proofs.Math.Bool.{beq}
use Rattle.std.proofs.lemmas.Bool.Decides.{Decides-and, Decides-like, Decides-eqb}
use Rattle.hn_base.proofs.DecidingTests.{option_decided}
use Rattle.hn_base.proofs.Prefixes.{is_one_prefix, prefix_decided}
use Rattle.hn_data.specs.declared.said.AssignedPrefix.{AssignedPrefix}
use Rattle.hn_pair.specs.declared.assigned.Assigned.{Assigned}

-- ---- when assignments are the same

abbrev SameParts : Assigned → Assigned → Type 0
SameParts a b =
    (a.delegated ≡ b.delegated) × ((a.endpoint.0 ≡ b.endpoint.0) × ((a.prefix ≡ b.prefix) × ((a.published ≡ b.published) × ((a.since ≡ b.since) × (a.applied ≡ b.applied)))))

abbrev same_test : Assigned → Assigned → Bool
same_test a b =
    is_one_prefix a.delegated b.delegated && (a.endpoint.0 == b.endpoint.0 &&
    (is_one_prefix a.prefix b.prefix && (option_eq nat_eq a.published b.published && (a.since == b.since && beq a.applied b.applied))))

pub assigned_decided : (a b : Assigned) → Decides (same_test a b) (a ≡ b)
assigned_decided a b =
    Decides-like _
    (λ (same : SameParts a b). λ i. record {
      delegated = same.0 i;
      endpoint = record { 0 = same.1.0 i };
      prefix = same.1.1.0 i;
      published = same.1.1.1.0 i;
      since = same.1.1.1.1.0 i;
      applied = same.1.1.1.1.1 i;
    })
    (λ (same : a ≡ b). (
      ap (λ (c : Assigned). c.delegated) same,
      (
        ap (λ (c : Assigned). c.endpoint.0) same,
        (
          ap (λ (c : Assigned). c.prefix) same,
          (ap (λ (c : Assigned). c.published) same, (ap (λ (c : Assigned). c.since) same, ap (λ (c : Assigned). c.applied) same)),
        ),
      ),
    ))
    (Decides-and _ _ (prefix_decided a.delegated b.delegated) (Decides-and _ _ (Decides-eqb a.endpoint.0 b.endpoint.0) (Decides-and _ _ (prefix_decided a.prefix b.prefix)
    (Decides-and _ _ (option_decided a.published b.published) (Decides-and _ _ (Decides-eqb a.since b.since) (booleans_Decides a.applied b.applied))))))

-- ---- when the assigned prefixes of nodes are the same

pub said_decided : (a b : AssignedPrefix) → Decides (a.endpoint.0 == b.endpoint.0 && (a.priority == b.priority && is_one_prefix a.prefix b.prefix)) (a ≡ b)
said_decided a b =
    Decides-like _
    (λ (same : (a.endpoint.0 ≡ b.endpoint.0) × ((a.priority ≡ b.priority) × (a.prefix ≡ b.prefix))).
    λ i. record { endpoint = record { 0 = same.0 i }; priority = same.1.0 i; prefix = same.1.1 i })
    (λ (same : a ≡ b). (ap (λ (p : AssignedPrefix). p.endpoint.0) same, (ap (λ (p : AssignedPrefix). p.priority) same, ap (λ (p : AssignedPrefix). p.prefix) same)))
    (Decides-and _ _ (Decides-eqb a.endpoint.0 b.endpoint.0) (Decides-and _ _ (Decides-eqb a.priority b.priority) (prefix_decided a.prefix b.prefix)))
