-- Endpoints, prefixes and keys are known by their fields, and so it can be told whether two are one.
use Rattle.hn_base.proofs.Names.{◌≡◌, ◌⊎◌, inl, inr, ap, subst, Equal, cases_eq, tied_itself, key_cmp, PlainPrefix}
use Rattle.hn_sound.proofs.Names.{Key, NodeId, EpId, same_node, same_id, key_total, Endpoint}
use Rattle.hn_base.proofs.Prefixes.{same_prefix}

pub same_endpoint : (e f : Endpoint) → e.node ≡ f.node → e.id ≡ f.id → e.link ≡ f.link → e ≡ f
same_endpoint e f node id link = λ i. record { node = node i; id = id i; link = link i }

pub cases_node : (a b : NodeId) → (a ≡ b) ⊎ ¬ (a ≡ b)
cases_node a b =
    elim (cases_eq a.0 b.0) [
      | inl same ↦ inl (same_node a b same)
      | inr differ ↦ inr (λ e. differ (ap (λ (n : NodeId). n.0) e))
    ]

pub cases_id : (a b : EpId) → (a ≡ b) ⊎ ¬ (a ≡ b)
cases_id a b =
    elim (cases_eq a.0 b.0) [
      | inl same ↦ inl (same_id a b same)
      | inr differ ↦ inr (λ e. differ (ap (λ (n : EpId). n.0) e))
    ]

pub cases_prefix : (p q : PlainPrefix) → (p ≡ q) ⊎ ¬ (p ≡ q)
cases_prefix p q =
    elim (cases_eq p.bits q.bits) [
      | inl bits ↦
          elim (cases_eq p.len q.len) [
            | inl len ↦ inl (same_prefix p q bits len)
            | inr differ ↦ inr (λ e. differ (ap (λ (r : PlainPrefix). r.len) e))
          ]
      | inr differ ↦ inr (λ e. differ (ap (λ (r : PlainPrefix). r.bits) e))
    ]

pub key_cmp_itself : (k other : Key) → k ≡ other → key_cmp k other ≡ Equal
key_cmp_itself k other same = subst (λ x. key_cmp k x ≡ Equal) same (tied_itself key_total k)
