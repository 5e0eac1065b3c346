-- A router at rest that lets an arrival pass is at rest after it.
use Rattle.hn_base.proofs.Names.{◌≡◌, ◌≤◌, ◌++◌, ℕ, List, Contains, sym, ap, subst}
use Rattle.hn_audit.proofs.Names.{EpId, IsLater, PlainView, UsableIsUnique, CommonLinkOfLater, AdvertisedOfLater, endpoints_of, posts_of, private_posts, Passing, State, AreAsked, after_passing}
use Rattle.hn_audit.proofs.Names.{ViewOfLater, IsRouter, seen_by, IsRouterAtRest, AreSame, UseSame}
use Rattle.hn_audit.proofs.BridgeUsed.{used_same}
use Rattle.hn_audit.proofs.EqualInPlace.{same_back}
use Rattle.hn_audit.proofs.StayingRests.{GoOn, same_wish}

-- the laws of the crates below on which it rests
pub record PassLaws : Type 0 where
  pub unique : UsableIsUnique
  pub common : CommonLinkOfLater
  pub advertised : AdvertisedOfLater
  pub view : ViewOfLater

module _ (laws : PassLaws) (now : ℕ) (s : State) (p : Passing) (router : IsRouter s) (begun : s.moment ≤ now) (rest : IsRouterAtRest s)
    (ends : endpoints_of (after_passing p now s).ports ≡ endpoints_of s.ports) (same : UseSame s (after_passing p now s)) where
  abbrev next : State
  next = after_passing p now s

  abbrev before : PlainView
  before = seen_by s

  abbrev at : PlainView
  at = seen_by next

  later : IsLater before at
  later = laws.view now s router begun

  goes : GoOn before at
  goes e common = (laws.common before at e common later).0

  goes_back : GoOn at before
  goes_back e common = (laws.common before at e common later).1

  used_next : AreSame rest.usable same.other
  used_next = used_same laws.unique s next rest.usable same.other same rest.are_usable same.is_other

  posts_are : posts_of s.private next.ports ≡ posts_of s.private s.ports
  posts_are = ap (λ (es : List EpId). private_posts s.private ++ es) ends

  asked_next : AreAsked next same.other rest.wishes
  asked_next = record {
    ascending = rest.are_asked.ascending;
    exact = λ wish. (
      λ there.
          let w = (rest.are_asked.exact wish).0 there in
          record {
            place = w.place;
            asked = same_wish s.private before at rest.usable same.other used_next goes w.place wish w.asked;
            post = subst (λ (posts : List EpId). Contains posts wish.endpoint) (sym posts_are) w.post;
          },
      λ w.
          (rest.are_asked.exact wish).1 (record {
            place = w.place;
            asked = same_wish s.private at before same.other rest.usable (same_back rest.usable same.other used_next) goes_back w.place wish w.asked;
            post = subst (λ (posts : List EpId). Contains posts wish.endpoint) posts_are w.post;
          }),
    );
  }

  pub rests_passed : IsRouterAtRest next
  rests_passed = record {
    usable = same.other;
    are_usable = same.is_other;
    wishes = rest.wishes;
    are_asked = asked_next;
    advertised = rest.advertised;
    are_advertised = (laws.advertised before at s.held.assigned rest.advertised later).0 rest.are_advertised;
    wished = rest.wished;
    at_rest = rest.at_rest;
  }
