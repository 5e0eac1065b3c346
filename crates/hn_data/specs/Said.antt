-- What others ask of node data beside its peers: version, keep-alive intervals, assigned prefixes, addresses.
use Rattle.std.specs.Prelude.{◌≡◌, ℕ, List, ◌==◌, if◌then◌else◌, Option, Some, None, Contains, unwrap_or}
use Rattle.std.specs.List.{filter_map}
use Rattle.hn_typed.specs.Item.{PlainCaps, PlainItem, Version, KeepAlive, Assigned, Address}
use Rattle.hn_base.specs.declared.ids.EpId.{EpId}
use Rattle.hn_data.specs.Items.{HasItems, first_of}
use Rattle.hn_data.specs.declared.said.Interval.{Interval}
use Rattle.hn_data.specs.declared.said.AssignedPrefix.{AssignedPrefix}

-- the capabilities that an HNCP-Version has (RFC 7788, section 10.1)
abbrev pub caps_of : PlainItem → Option PlainCaps
caps_of (Version caps agent) = Some caps
caps_of _ = None

-- the capabilities of the first HNCP-Version, if there is one
abbrev pub version_of : List PlainItem → Option PlainCaps
version_of items = first_of (filter_map caps_of items)

-- the interval that a Keep-Alive Interval has (RFC 7787, section 7.3.2)
abbrev pub interval_of : PlainItem → Option Interval
interval_of (KeepAlive endpoint interval subs) = Some (record { endpoint = record { 0 = endpoint }; interval = interval })
interval_of _ = None

-- the same, where it is for this endpoint
abbrev pub interval_at : ℕ → Interval → Option ℕ
interval_at e i = if i.endpoint.0 == e then Some i.interval else None

-- the first interval for an endpoint, else the first for all endpoints (number 0), else 20,000 ms (RFC 7787,
-- section 6.1.5; RFC 7788, section 3)
abbrev pub keep_alive_of : List Interval → ℕ → ℕ
keep_alive_of intervals e =
    unwrap_or (first_of (filter_map (interval_at e) intervals)) (unwrap_or (first_of (filter_map (interval_at 0) intervals)) 20000)

-- the prefix that an Assigned-Prefix has (RFC 7788, section 10.3)
abbrev pub assigned_prefix_of : PlainItem → Option AssignedPrefix
assigned_prefix_of (Assigned endpoint priority prefix subs) = Some (record { endpoint = record { 0 = endpoint }; priority = priority; prefix = prefix })
assigned_prefix_of _ = None

-- the node data have that assigned prefix
abbrev pub HasAssigned : List ℕ → AssignedPrefix → Type 0
HasAssigned bytes a = HasItems bytes (λ items. Contains (filter_map assigned_prefix_of items) a)

-- the endpoint and the address that a Node-Address has (RFC 7788, section 10.4)
abbrev pub node_address_of : PlainItem → Option (EpId × ℕ)
node_address_of (Address endpoint address subs) = Some (record { 0 = endpoint }, address)
node_address_of _ = None

-- the node data have that address
abbrev pub HasAddress : List ℕ → EpId × ℕ → Type 0
HasAddress bytes a = HasItems bytes (λ items. Contains (filter_map node_address_of items) a)

-- the node data have an HNCP-Version
abbrev pub HasVersion : List ℕ → Type 0
HasVersion bytes = (caps : PlainCaps) × HasItems bytes (λ items. version_of items ≡ Some caps)
