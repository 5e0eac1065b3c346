-- Routers at rest: their lists and their wishes are one.
use Rattle.hn_base.proofs.Names.{◌≡◌, List, subst, IsTotalOrder, on, on_total, HaveSame}
use Rattle.hn_audit.proofs.Names.{All, ascending_unique, PlainView, Advertised, Assigned, Wish, AreAtRest, AreAdvertised, IsWished, assigned_pair, pair_cmp, wish_pair, Delegated, AreUsable}
use Rattle.hn_audit.proofs.Names.{UsableIsUnique, State, AreAsked, seen_by, RestKnowsNoOrder, IsRouterAtRest}

-- the same advertised prefixes in another order
pub advertised_same : (view : PlainView) (assigned : List Assigned) (a b : List Advertised) → HaveSame a b → AreAdvertised view assigned b → AreAdvertised view assigned a
advertised_same view assigned a b same are x = let both = same x in let here = are x in (λ h. here.0 (both.0 h), λ h. both.1 (here.1 h))

-- a router asks one list of wishes
pub one_wishes : IsTotalOrder pair_cmp → (s : State) (usable : List Delegated) (a b : List Wish) → AreAsked s usable a → AreAsked s usable b → a ≡ b
one_wishes total s usable a b h k =
    ascending_unique (on wish_pair pair_cmp) (on_total wish_pair total) a b h.ascending k.ascending
    (λ wish. let p = h.exact wish in let q = k.exact wish in (λ x. q.1 (p.0 x), λ y. p.1 (q.0 y)))

-- the lists of a router at rest are those of any other look at it
module _ (unique : UsableIsUnique) (total : IsTotalOrder pair_cmp) (s : State) (usable : List Delegated) (are_usable : AreUsable (seen_by s) usable)
    (wishes : List Wish) (are_asked : AreAsked s usable wishes)
    (rest : IsRouterAtRest s) where
  one_list : rest.usable ≡ usable
  one_list = unique (seen_by s) rest.usable usable rest.are_usable are_usable

  same_wishes : rest.wishes ≡ wishes
  same_wishes = one_wishes total s usable rest.wishes wishes (subst (λ (us : List Delegated). AreAsked s us rest.wishes) one_list rest.are_asked) are_asked

  pub wished_there : All (λ c. IsWished wishes (assigned_pair c)) s.held.assigned
  wished_there = subst (λ (ws : List Wish). All (λ c. IsWished ws (assigned_pair c)) s.held.assigned) same_wishes rest.wished

  pub rests_there : AreAtRest rest.advertised s.id.0 wishes s.held.assigned
  rests_there = subst (λ (ws : List Wish). AreAtRest rest.advertised s.id.0 ws s.held.assigned) same_wishes rest.at_rest

  -- and advertised prefixes in any order
  pub rests_in_order : RestKnowsNoOrder → (adv : List Advertised) → AreAdvertised (seen_by s) s.held.assigned adv → AreAtRest adv s.id.0 wishes s.held.assigned
  rests_in_order law adv are wish there c has =
      law rest.advertised adv s.id.0 wish wish.common c
      (λ a. (λ h. (are a).1 ((rest.are_advertised a).0 h), λ h. (rest.are_advertised a).1 ((are a).0 h)))
      (λ at. (λ h. h, λ h. h)) (rests_there wish there c has)
