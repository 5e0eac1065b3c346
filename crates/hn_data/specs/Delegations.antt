-- Delegated prefixes inside External-Connections (RFC 7788, sections 10.2 and 10.2.1).
use Rattle.std.specs.Prelude.{◌≡◌, ℕ, List, [], ◌∷◌, ◌++◌, Option, Some, None, Contains}
use Rattle.std.specs.List.{filter_map}
use Rattle.hn_typed.specs.Item.{PlainItem, External, Delegated}
use Rattle.hn_data.specs.Items.{HasItems}
use Rattle.hn_data.specs.declared.said.Delegation.{Delegation}

-- the delegation that a Delegated-Prefix has
abbrev pub delegation_of : PlainItem → Option Delegation
delegation_of (Delegated valid preferred prefix subs) = Some (record { valid = valid; preferred = preferred; prefix = prefix })
delegation_of _ = None

-- what an External-Connection has inside
abbrev pub external_of : PlainItem → Option (List ℕ)
external_of (External subs) = Some subs
external_of _ = None

-- one of the items is an External-Connection in which a Delegated-Prefix is this one
pub record IsDelegatedIn (items : List PlainItem) (d : Delegation) : Type 0 where
  pub subs : List ℕ
  pub external : Contains items (External subs)
  pub inside : HasItems subs (λ inner. Contains (filter_map delegation_of inner) d)

-- one of the items is an External-Connection
abbrev pub IsConnected : List PlainItem → Type 0
IsConnected items = (subs : List ℕ) × Contains items (External subs)

-- the node data have that delegated prefix
abbrev pub HasDelegation : List ℕ → Delegation → Type 0
HasDelegation bytes d = HasItems bytes (λ items. IsDelegatedIn items d)

-- the node data have an External-Connection
abbrev pub HasExternal : List ℕ → Type 0
HasExternal bytes = HasItems bytes IsConnected

-- the delegated prefixes inside External-Connections that have these inside: in their order, each as often as it stands there
abbrev pub AreInsideInOrder : List (List ℕ) → List Delegation → Type 0
AreInsideInOrder [] list = list ≡ []
AreInsideInOrder (subs ∷ others) list =
    (here rest : List Delegation) × HasItems subs (λ inner. here ≡ filter_map delegation_of inner) × AreInsideInOrder others rest × (list ≡ here ++ rest)

-- the delegated prefixes that the node data have, in their order
abbrev pub HasDelegations : List ℕ → List Delegation → Type 0
HasDelegations bytes list = HasItems bytes (λ items. AreInsideInOrder (filter_map external_of items) list)
