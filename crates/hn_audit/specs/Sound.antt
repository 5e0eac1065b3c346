-- A sound router: each link of its set, also each private link, is served with one prefix inside each used delegated
-- prefix, unless none was free or wanted, prefixes of different links never overlap, and the elections on a link are equal.
use Rattle.std.specs.Prelude.{◌≡◌, ◌≢◌, ◌⊎◌, ℕ, IsTrue, List, Option, Some, IsSome, slice_get, Contains}
use Rattle.hn_base.specs.declared.ids.NodeId.{NodeId}
use Rattle.hn_base.specs.declared.ids.EpId.{EpId}
use Rattle.hn_base.specs.declared.letter.Letter.{Letter}
use Rattle.hn_base.specs.Prefix.{PlainPrefix, IsWithin, Overlaps}
use Rattle.hn_assign.specs.declared.advertised.Advertised.{Advertised}
use Rattle.hn_pair.specs.declared.assigned.Assigned.{Assigned}
use Rattle.hn_assign.specs.Best.{HasNoFree}
use Rattle.hn_assign.specs.Gathered.{AreAdvertised}
use Rattle.hn_deleg.specs.declared.delegated.Delegated.{Delegated}
use Rattle.hn_deleg.specs.Used.{AreUsable, IsUnwanted, prefixes_of}
use Rattle.hn_own.specs.Ports.{is_attached}
use Rattle.hn_own.specs.Posts.{length_at, private_post}
use Rattle.hn_rules.specs.declared.state.State.{State}
use Rattle.hn_rules.specs.Seen.{seen_by, IsElectedAt}
use Rattle.hn_world.specs.declared.member.Member.{Member}
use Rattle.hn_world.specs.declared.parts.Parts.{Parts}
use Rattle.hn_audit.specs.Reached.{IsRunning, IsReached, IsOnLink}

-- a router uses the delegated prefix
pub record UsesByRules (s : State) (d : PlainPrefix) : Type 0 where
  pub usable : List Delegated
  pub are_usable : AreUsable (seen_by s) usable
  pub there : Contains (prefixes_of usable) d

-- a router uses the delegated prefix, and does not want it
pub record DoesNotWantByRules (s : State) (d : PlainPrefix) : Type 0 where
  pub usable : List Delegated
  pub are_usable : AreUsable (seen_by s) usable
  pub place : ℕ
  pub at : slice_get (prefixes_of usable) place ≡ Some d
  pub unwanted : IsUnwanted usable place

-- nothing in the delegated prefix is free for the post, as its router sees it
pub record SeesNoFreeByRules (s : State) (e : EpId) (d : PlainPrefix) : Type 0 where
  pub advertised : List Advertised
  pub are_advertised : AreAdvertised (seen_by s) s.held.assigned advertised
  pub none_free : HasNoFree advertised d (length_at s.private e)

-- a link: one of the world, by its place, or the private link of a router, which has that router's private post and no
-- other post
pub data Link : Type 0 where
  Joint : (place : ℕ) → Link
  Private : (router : Member) → Link

-- a post of a router is on the link: an attached endpoint on one of the world, the private post on its router's own
abbrev pub IsPostOn : Link → Member → EpId → Type 0
IsPostOn (Joint place) m e = IsTrue (is_attached e m.router.ports) × IsOnLink place m e
IsPostOn (Private n) m e = (m ≡ n) × (e ≡ private_post) × IsSome m.router.private

-- a link of the set of r: a post of one of the set is on it
pub record IsLinkOfSet (w : Parts) (r : Member) (link : Link) : Type 0 where
  pub router : Member
  pub reached : IsReached w r router
  pub post : EpId
  pub on_link : IsPostOn link router post

-- a post of a running router is on the link, which is one of the set of r
pub record IsThereByRules (w : Parts) (r : Member) (link : Link) (s : Member) (e : EpId) : Type 0 where
  pub runs : IsRunning w s
  pub on_link : IsPostOn link s e
  pub of_set : IsLinkOfSet w r link

-- a post of a router has the assignment, which is for the delegated prefix d
pub record HasAssignment (s : State) (e : EpId) (d : PlainPrefix) (c : Assigned) : Type 0 where
  pub held : Contains s.held.assigned c
  pub of_endpoint : c.endpoint ≡ e
  pub of_delegated : c.delegated ≡ d

-- each post on the link has an assignment for d, all with one prefix, and exactly one of them is published
pub record IsServedLink (w : Parts) (r : Member) (link : Link) (d : PlainPrefix) : Type 0 where
  pub every : (s : Member) (e : EpId) → IsThereByRules w r link s e → (c : Assigned) × HasAssignment s.router e d c
  pub prefix : PlainPrefix
  pub one_prefix :
      (s : Member) (e : EpId) (c : Assigned) → IsThereByRules w r link s e → HasAssignment s.router e d c → c.prefix ≡ prefix
  pub publisher : Member
  pub post : EpId
  pub there : IsThereByRules w r link publisher post
  pub assignment : Assigned
  pub has : HasAssignment publisher.router post d assignment
  pub published : IsSome assignment.published
  pub no_other :
      (s : Member) (e : EpId) (c : Assigned) → IsThereByRules w r link s e → HasAssignment s.router e d c → IsSome c.published
      → (s ≡ publisher) × (e ≡ post) × (c ≡ assignment)

-- no post on the link has an assignment for d, and for each its router does not want d or sees nothing free in it
pub record IsWithout (w : Parts) (r : Member) (link : Link) (d : PlainPrefix) : Type 0 where
  pub none : (s : Member) (e : EpId) (c : Assigned) → IsThereByRules w r link s e → ¬ HasAssignment s.router e d c
  pub no_use : (s : Member) (e : EpId) → IsThereByRules w r link s e → DoesNotWantByRules s.router d ⊎ SeesNoFreeByRules s.router e d

-- a post on the link, which is one of the set of r, has the prefix
pub record IsHeldOn (w : Parts) (r : Member) (link : Link) (p : PlainPrefix) : Type 0 where
  pub router : Member
  pub assignment : Assigned
  pub there : IsThereByRules w r link router assignment.endpoint
  pub held : Contains router.router.held.assigned assignment
  pub prefix : assignment.prefix ≡ p

-- on two endpoints the same router is elected for the capability, or nobody on both
pub record ElectSame (s : State) (e : EpId) (u : State) (f : EpId) (letter : Letter) : Type 0 where
  pub who : Option NodeId
  pub one : IsElectedAt s e letter who
  pub other : IsElectedAt u f letter who

pub record IsSoundByRules (w : Parts) (r : Member) : Type 0 where
  -- each assignment of the set is for a used delegated prefix, and its prefix is inside that
  pub inside :
      (s : Member) (c : Assigned) → IsReached w r s → Contains s.router.held.assigned c
      → UsesByRules r.router c.delegated × IsWithin c.prefix c.delegated
  -- each link of the set is served inside each used delegated prefix, or has no use of it
  pub each_link :
      (link : Link) (s : Member) (e : EpId) (d : PlainPrefix) → IsThereByRules w r link s e → UsesByRules r.router d
      → IsServedLink w r link d ⊎ IsWithout w r link d
  -- prefixes on different links do not overlap
  pub links_apart :
      (link other : Link) (p q : PlainPrefix) → IsHeldOn w r link p → IsHeldOn w r other q → link ≢ other
      → ¬ Overlaps p q
  -- on one link of the world the elections are equal
  pub one_elected :
      (letter : Letter) (place : ℕ) (s u : Member) (e f : EpId) → IsThereByRules w r (Joint place) s e → IsThereByRules w r (Joint place) u f
      → ElectSame s.router e u.router f letter
