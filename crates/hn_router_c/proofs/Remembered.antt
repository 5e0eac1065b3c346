-- What is preferred, and what was told in an earlier life: where it is taken, and where it is refused.
use Rattle.std.specs.Prelude.{◌≡◌, ◌≢◌, ℕ, Option, Some, None, IfSome}
use Rattle.hn_base.proofs.Names.{refl, subst, arith}
use Rattle.hn_base.specs.Prefix.{PlainPrefix, IsPrefix}
use Rattle.hn_base.specs.declared.ids.EpId.{EpId}
use Rattle.hn_departed.specs.Departed.{with_earlier}
use Rattle.hn_kept.specs.declared.preferred.Preferred.{Preferred}
use Rattle.hn_kept.specs.Preferred.{with_preferred}
use Rattle.hn_kept.specs.Kept.{Kept}
use Rattle.hn_router_c.specs.Calls.{MayBePreferred, HasRoomToPrefer, PrefersIn, HasRoomToDepart, DepartsIn}

pub not_preferred : (f : Preferred) (held : Option Kept) → ¬ (MayBePreferred f) → IfSome held (λ before. PrefersIn f before held 2)
not_preferred f None may_not = tt
not_preferred f (Some kept) may_not = record {
  after = kept;
  has = refl;
  preferred = λ done. absurd (omega (arith, done));
  refused = λ _ may. absurd (may_not may);
  as_before = λ _. refl;
}

pub prefers : (f given : Preferred) (k before after : Kept) (held : Option Kept) (status : ℕ) → given ≡ f → k ≡ before → held ≡ Some after → MayBePreferred given
    → (status ≡ 0 → HasRoomToPrefer given k × (after ≡ record k { preferred = with_preferred given k.preferred })) → (status ≡ 2 → ¬ (HasRoomToPrefer given k))
    → (status ≢ 0 → after ≡ k) → PrefersIn f before held status
prefers f given k before after held status is same has may preferred refused as_before =
    subst (λ (g : Preferred). PrefersIn g before held status) is (subst (λ (b : Kept). PrefersIn given b held status) same (record {
      after = after;
      has = has;
      preferred = λ done. (may, (preferred done).0, (preferred done).1);
      refused = λ full _. refused full;
      as_before = as_before;
    }))

pub not_departed : (at : EpId) (prefix : PlainPrefix) (valid : ℕ) (held : Option Kept) → ¬ (IsPrefix prefix) → IfSome held (λ before. DepartsIn at prefix valid before held 2)
not_departed at prefix valid None is_not = tt
not_departed at prefix valid (Some kept) is_not = record {
  after = kept;
  has = refl;
  departed = λ done. absurd (omega (arith, done));
  refused = λ _ is. absurd (is_not is);
  as_before = λ _. refl;
}

pub departs : (at : EpId) (prefix given : PlainPrefix) (valid : ℕ) (k before after : Kept) (held : Option Kept) (status : ℕ) → given ≡ prefix → k ≡ before → held ≡ Some after
    → IsPrefix given → (status ≡ 0 → HasRoomToDepart at given k × (after ≡ record k { told = with_earlier k.router.moment at given valid k.told }))
    → (status ≡ 2 → ¬ (HasRoomToDepart at given k)) → (status ≢ 0 → after ≡ k) → DepartsIn at prefix valid before held status
departs at prefix given valid k before after held status is same has is_prefix departed refused as_before =
    subst (λ (p : PlainPrefix). DepartsIn at p valid before held status) is (subst (λ (b : Kept). DepartsIn at given valid b held status) same (record {
      after = after;
      has = has;
      departed = λ done. (is_prefix, (departed done).0, (departed done).1);
      refused = λ full _. refused full;
      as_before = as_before;
    }))
