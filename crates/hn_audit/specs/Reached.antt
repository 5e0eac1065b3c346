-- The set of a router: the running routers that it reaches. And where routers are attached.
use Rattle.std.specs.Prelude.{◌≡◌, ℕ, Bool, ◌==◌, ◌&&◌, false, IsTrue, List, Some, count_by, Contains}
use Rattle.std.specs.Option.{option_map_or}
use Rattle.hn_base.specs.declared.ids.NodeId.{NodeId}
use Rattle.hn_base.specs.declared.ids.EpId.{EpId}
use Rattle.hn_world.specs.declared.member.Member.{Member}
use Rattle.hn_world.specs.declared.parts.Parts.{Parts}
use Rattle.hn_world.specs.Names.{link_of, member_named}

-- whether the router of a name is one that runs
abbrev pub runs : List ℕ → Parts → Bool
runs name w = option_map_or (λ m. m.running) (member_named name w) false

-- a running router of the world
pub record IsRunning (w : Parts) (m : Member) : Type 0 where
  pub there : Contains w.members m
  pub running : IsTrue m.running

-- whether it runs and has that identifier
abbrev pub runs_as : NodeId → Member → Bool
runs_as id m = m.running && m.router.id.0 == id.0

-- the identifier is that of exactly one running router
abbrev pub IsOfOne : Parts → NodeId → Type 0
IsOfOne w id = count_by (runs_as id) w.members ≡ 1

-- one of the set of r: a running router whose identifier r reaches
pub record IsReached (w : Parts) (r m : Member) : Type 0 where
  pub runs : IsRunning w m
  pub reached : Contains r.router.reach m.router.id

-- an endpoint of a router is attached to a link
abbrev pub IsOnLink : ℕ → Member → EpId → Type 0
IsOnLink link m e = link_of e m ≡ Some link

-- endpoints of two routers are attached to one link
pub record AreOnOneLink (m : Member) (e : EpId) (n : Member) (f : EpId) : Type 0 where
  pub link : ℕ
  pub one : IsOnLink link m e
  pub other : IsOnLink link n f
