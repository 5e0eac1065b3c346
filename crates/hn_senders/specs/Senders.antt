-- Those that send Router Advertisements in a play.
use Rattle.std.specs.Prelude.{◌≡◌, ℕ, Bool, ◌&&◌, ◌==◌, not, nat_lt, nat_le, List, ◌∷◌, ◌++◌, map, filter, position, Some}
use Rattle.std.specs.List.{slice_get}
use Rattle.std.specs.List.Sorted.{IsNonDecreasingBy}
use Rattle.std.specs.Str.{bytes_eq}
use Rattle.hn_advert.specs.declared.advert.Advert.{Advert}
use Rattle.hn_base.specs.Name.{name_text}
use Rattle.hn_base.specs.declared.ids.EpId.{EpId}
use Rattle.hn_base.specs.declared.name.Name.{Name}
use Rattle.hn_senders.specs.declared.senders.Sending.{Sending}
use Rattle.hn_senders.specs.declared.senders.Shape.{Shape}

-- the shape of an advertisement: its two flags, its lifetime, and its prefixes in order, without their lifetimes
abbrev pub shape_of : Advert → Shape
shape_of a = record { managed = a.managed; other = a.other; lifetime = a.lifetime; prefixes = map (λ i. i.prefix) a.infos }

-- the number of its endpoint
abbrev pub sender_number : Sending → ℕ
sender_number s = s.endpoint.0

-- they are in ascending order of their endpoints
abbrev pub AreInOrder : List Sending → Type 0
AreInOrder senders = IsNonDecreasingBy sender_number senders

-- whether it is one of the router of a name; and that of an endpoint of this router
abbrev pub is_sender_of : Name → Sending → Bool
is_sender_of name s = bytes_eq (name_text s.name) (name_text name)

abbrev pub sends_at : Name → EpId → Sending → Bool
sends_at name e s = is_sender_of name s && (s.endpoint.0 == e.0)

-- the endpoints of the router of a name that send
abbrev pub sender_endpoints : Name → List Sending → List EpId
sender_endpoints name senders = map (λ s. s.endpoint) (filter (is_sender_of name) senders)

-- that of an endpoint, and its place
pub record IsSenderAt (name : Name) (e : EpId) (senders : List Sending) (place : ℕ) (sending : Sending) : Type 0 where
  pub is_first : position (sends_at name e) senders ≡ Some place
  pub is_there : slice_get senders place ≡ Some sending

-- without that of an endpoint; without those of a router
abbrev pub without_sender : Name → EpId → List Sending → List Sending
without_sender name e senders = filter (λ s. not (sends_at name e s)) senders

abbrev pub without_senders : Name → List Sending → List Sending
without_senders name senders = filter (λ s. not (is_sender_of name s)) senders

-- a new one, between those of lower and those of higher endpoints
abbrev pub placed : Sending → List Sending → List Sending
placed s senders = filter (λ t. nat_le (sender_number t) (sender_number s)) senders ++ s ∷ filter (λ t. nat_lt (sender_number s) (sender_number t)) senders

-- with this one, in place of that of its endpoint
abbrev pub with_sender : Sending → List Sending → List Sending
with_sender s senders = placed s (without_sender s.name s.endpoint senders)
