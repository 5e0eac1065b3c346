-- What two routers with equal network state hashes have in common.
use Rattle.std.specs.Prelude.{◌≡◌, ◌≢◌, ◌⊎◌, List, Contains, Option}
use Rattle.std.specs.Option.{option_and_then, option_map}
use Rattle.std.specs.List.{slice_get}
use Rattle.hn_hash.specs.declared.leaf.Leaf.{Leaf}
use Rattle.hn_hash.specs.declared.agreement.Agreement.{Agreement}
use Rattle.hn_hash.specs.declared.agreement.Agreement.TheVariants.{Differ, Same, Collide}
use Rattle.hn_hash.specs.Agreement.{IsCollision, IsExhibited}
use Rattle.hn_hash.specs.Network.{network_hash}
use Rattle.hn_rules.specs.Nodes.{leaves_of}
use Rattle.hn_world.specs.declared.member.Member.{Member}
use Rattle.hn_world.specs.declared.parts.Parts.{Parts}
use Rattle.hn_world.specs.declared.copies.MailCopy.{MailCopy}
use Rattle.hn_world.specs.declared.copies.CopyInfo.{CopyInfo}

-- Two routers with equal network state hashes hold equal sequence numbers and node data in node order, or a collision
-- of the hash is among what they hash.
abbrev pub EqualHashesAgree : Parts → Type 0
EqualHashesAgree w =
    (a b : Member) → Contains w.members a → Contains w.members b → a.router.net ≡ b.router.net
    → (leaves_of a.router ≡ leaves_of b.router) ⊎ IsCollision (leaves_of a.router) (leaves_of b.router)

-- how two lists of leaves agree
abbrev pub Agrees : List Leaf → List Leaf → Agreement → Type 0
Agrees a b Differ = network_hash a ≢ network_hash b
Agrees a b Same = a ≡ b
Agrees a b (Collide left right) = IsExhibited a b left right

-- where a copy goes, from where, and whether it waits
abbrev pub info_of_copy : MailCopy → Member → CopyInfo
info_of_copy c m = record { to = m.name; endpoint = c.to.endpoint; from = c.from; multicast = c.multicast; waiting = c.waiting }

abbrev pub HasInfo : Parts → Option MailCopy → Option CopyInfo → Type 0
HasInfo w copy info = info ≡ option_and_then (λ c. option_map (info_of_copy c) (slice_get w.members c.to.place)) copy
