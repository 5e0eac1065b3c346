-- The routers of a settled set are sound alike.
use Rattle.hn_base.proofs.Names.{◌≡◌, ◌↔◌, List, Contains, inl, inr, sym, subst, PlainPrefix}
use Rattle.hn_audit.proofs.Names.{NodeId, EpId, Delegated, prefixes_of, UsableIsUnique, seen_by, Member, Parts, IsReached, UseSame, UsesByRules, Link, Joint, IsThereByRules, IsServedLink, IsWithout, IsHeldOn}
use Rattle.hn_audit.proofs.Names.{IsSoundByRules}
use Rattle.hn_audit.proofs.BridgeSets.{IsKnown, itself, reach_is}

-- where one router uses what the other uses, it uses each prefix that the other uses
uses_too : (unique : UsableIsUnique) (r s : Member) (d : PlainPrefix)
    → UseSame r.router s.router → UsesByRules r.router d → UsesByRules s.router d
uses_too unique r s d same uses =
    let one = subst (λ (list : List Delegated). Contains (prefixes_of list) d) (unique (seen_by r.router) uses.usable same.one uses.are_usable same.is_one) uses.there in
    record { usable = same.other; are_usable = same.is_other; there = subst (λ (ps : List PlainPrefix). Contains ps d) same.same.prefixes one }

-- of two routers that reach the same and use the same
module _ (w : Parts) (r s : Member) (reach : s.router.reach ≡ r.router.reach)
    (uses_to : (d : PlainPrefix) → UsesByRules r.router d → UsesByRules s.router d) (uses_from : (d : PlainPrefix) → UsesByRules s.router d → UsesByRules r.router d) where
  reached_from : (m : Member) → IsReached w s m → IsReached w r m
  reached_from m h = record { runs = h.runs; reached = subst (λ (ids : List NodeId). Contains ids m.router.id) reach h.reached }

  reached_to : (m : Member) → IsReached w r m → IsReached w s m
  reached_to m h = record { runs = h.runs; reached = subst (λ (ids : List NodeId). Contains ids m.router.id) (sym reach) h.reached }

  there_from : (link : Link) (m : Member) (e : EpId) → IsThereByRules w s link m e → IsThereByRules w r link m e
  there_from link m e h =
      let set = h.of_set in
      record { runs = h.runs; on_link = h.on_link; of_set = record { router = set.router; reached = reached_from set.router set.reached; post = set.post; on_link = set.on_link } }

  there_to : (link : Link) (m : Member) (e : EpId) → IsThereByRules w r link m e → IsThereByRules w s link m e
  there_to link m e h =
      let set = h.of_set in
      record { runs = h.runs; on_link = h.on_link; of_set = record { router = set.router; reached = reached_to set.router set.reached; post = set.post; on_link = set.on_link } }

  served_to : (link : Link) (d : PlainPrefix) → IsServedLink w r link d → IsServedLink w s link d
  served_to link d is = record {
    every = λ m e there. is.every m e (there_from link m e there);
    prefix = is.prefix;
    one_prefix = λ m e c there has. is.one_prefix m e c (there_from link m e there) has;
    publisher = is.publisher;
    post = is.post;
    there = there_to link is.publisher is.post is.there;
    assignment = is.assignment;
    has = is.has;
    published = is.published;
    no_other = λ m e c there has some. is.no_other m e c (there_from link m e there) has some;
  }

  without_to : (link : Link) (d : PlainPrefix) → IsWithout w r link d → IsWithout w s link d
  without_to link d is = record {
    none = λ m e c there has. is.none m e c (there_from link m e there) has;
    no_use = λ m e there. is.no_use m e (there_from link m e there);
  }

  held_from : (link : Link) (p : PlainPrefix) → IsHeldOn w s link p → IsHeldOn w r link p
  held_from link p is = record {
    router = is.router;
    assignment = is.assignment;
    there = there_from link is.router is.assignment.endpoint is.there;
    held = is.held;
    prefix = is.prefix;
  }

  sound_too : IsSoundByRules w r → IsSoundByRules w s
  sound_too is = record {
    inside = λ m c m_in held. let both = is.inside m c (reached_from m m_in) held in (uses_to c.delegated both.0, both.1);
    each_link = λ link m e d there uses. elim (is.each_link link m e d (there_from link m e there) (uses_from d uses)) [
      | inl served ↦ inl (served_to link d served)
      | inr without ↦ inr (without_to link d without)
    ];
    links_apart = λ link other p q one two differ. is.links_apart link other p q (held_from link p one) (held_from other q two) differ;
    one_elected = λ letter place m u e f one other. is.one_elected letter place m u e f (there_from (Joint place) m e one) (there_from (Joint place) u f other);
  }

pub sound_alike : (unique : UsableIsUnique) (w : Parts) (r : Member) → IsKnown w r
    → IsSoundByRules w r ↔ ((s : Member) → IsReached w r s → IsSoundByRules w s)
sound_alike unique w r known = (
  λ is s s_in.
      let r_in = itself w r known in
      sound_too w r s (reach_is w r known s s_in) (λ d. uses_too unique r s d (known.settled.used r s r_in s_in))
      (λ d. uses_too unique s r d (known.settled.used s r s_in r_in)) is,
  λ all. all r (itself w r known),
)
