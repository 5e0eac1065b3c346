-- What an endpoint advertises of one assignment.
use Rattle.std.specs.Prelude.{◌≡◌, ◌^◌, ◌<◌, IsTrue, List, Contains}
use Rattle.hn_base.specs.declared.ids.EpId.{EpId}
use Rattle.hn_advert.specs.declared.advert.Info.{Info}
use Rattle.hn_pair.specs.declared.assigned.Assigned.{Assigned}
use Rattle.hn_deleg.specs.declared.delegated.Delegated.{Delegated}
use Rattle.hn_deleg.specs.Used.{whole_seconds}

-- the lifetimes in whole seconds fit the fields of a Prefix Information option
abbrev pub FitsFields : Delegated → Type 0
FitsFields d = (whole_seconds d.valid < 2 ^ 32) × (whole_seconds d.preferred < 2 ^ 32)

-- the assignment is of the endpoint and applied, and its delegated prefix is a used one, of which it has the lifetimes
pub record IsInfoFrom (usable : List Delegated) (e : EpId) (c : Assigned) (i : Info) : Type 0 where
  pub of_endpoint : c.endpoint ≡ e
  pub applied : IsTrue c.applied
  pub delegated : Delegated
  pub is_used : Contains usable delegated
  pub of_delegated : delegated.prefix ≡ c.delegated
  pub prefix : i.prefix ≡ c.prefix
  pub valid : i.valid ≡ whole_seconds delegated.valid
  pub preferred : i.preferred ≡ whole_seconds delegated.preferred

-- nothing is advertised of it
abbrev pub HasNoInfo : List Delegated → EpId → Assigned → Type 0
HasNoInfo usable e c = (i : Info) → ¬ (IsInfoFrom usable e c i)
