-- What was told on an endpoint, and on the others.
use Rattle.hn_base.proofs.Names.{◌≡◌, ◌≢◌, ℕ, Bool, true, false, not, cond, nat_lt, List, [], ◌∷◌, ◌++◌, map, refl, sym, ap, ◌∙◌, eqb-true, eq-eqb, ne_eqb}
use Rattle.hn_departed.proofs.Names.{◌&&◌, filter, Told}
use Rattle.std.proofs.Common.{◌==◌}
use Rattle.hn_base.proofs.Keys.{same_id}
use Rattle.hn_base.specs.declared.ids.EpId.{EpId}
use Rattle.hn_departed.specs.Departed.{told_at, told_beside}
use Rattle.hn_departed.specs.Laws.{EndpointsKeepTheirs}

abbrev placed : EpId → List Told → List (EpId × Told)
placed at here = map (λ t. (at, t)) here

abbrev is_on : EpId → EpId × Told → Bool
is_on at t = t.0.0 == at.0

-- of what is placed on an endpoint that has all of it
all_there : (at : EpId) (here : List Told) → told_at at (map (λ t. (at, t)) here) ≡ here
all_there at [] = refl
all_there at (t ∷ ts) =
    ap (λ (b : Bool). map (λ (u : EpId × Told). u.1) (cond b ((at, t) ∷ filter (is_on at) (placed at ts)) (filter (is_on at) (placed at ts)))) (eq-eqb at.0 at.0 refl)
    ∙ ap (λ (rest : List Told). t ∷ rest) (all_there at ts)

-- and another one has nothing of it
none_there : (at other : EpId) → other ≢ at → (here : List Told) → told_at other (map (λ t. (at, t)) here) ≡ []
none_there at other apart [] = refl
none_there at other apart (t ∷ ts) =
    ap (λ (b : Bool). map (λ (u : EpId × Told). u.1) (cond b ((at, t) ∷ filter (is_on other) (placed at ts)) (filter (is_on other) (placed at ts))))
    (ne_eqb at.0 other.0 (λ same. apart (same_id other at (sym same))))
    ∙ none_there at other apart ts

-- what was told on an endpoint is not among what was told on others
only_last : (now : ℕ) (at : EpId) (told last : List (EpId × Told)) → told_at at (told_beside now at told ++ last) ≡ told_at at last
only_last now at [] last = refl
only_last now at (t ∷ ts) last = go (t.0.0 == at.0) (nat_lt now t.1.until) refl (only_last now at ts last)
  where
    rest : List (EpId × Told)
    rest = told_beside now at ts ++ last

    go : (b lasts : Bool) → (t.0.0 == at.0) ≡ b → told_at at rest ≡ told_at at last
        → told_at at (cond (not b && lasts) (t ∷ told_beside now at ts) (told_beside now at ts) ++ last) ≡ told_at at last
    go true lasts e later = later
    go false false e later = later
    go false true e later =
        ap (λ (b : Bool). map (λ (u : EpId × Told). u.1) (cond b (t ∷ filter (is_on at) rest) (filter (is_on at) rest))) e ∙ later

-- and what was told on another one is as it was, without what has ended
others_stay : (now : ℕ) (at other : EpId) → other ≢ at → (told last : List (EpId × Told)) → told_at other last ≡ []
    → told_at other (told_beside now at told ++ last) ≡ filter (λ t. nat_lt now t.until) (told_at other told)
others_stay now at other apart [] last none = none
others_stay now at other apart (t ∷ ts) last none = go (t.0.0 == at.0) (nat_lt now t.1.until) refl refl (others_stay now at other apart ts last none)
  where
    rest : List (EpId × Told)
    rest = told_beside now at ts ++ last

    lasting : List Told → List Told
    lasting us = filter (λ u. nat_lt now u.until) us

    heads : List (EpId × Told) → List Told
    heads us = map (λ (u : EpId × Told). u.1) us

    with_head : Bool → List Told → List Told
    with_head true us = t.1 ∷ us
    with_head false us = us

    parted : (b : Bool) (us : List (EpId × Told)) → heads (cond b (t ∷ us) us) ≡ with_head b (heads us)
    parted true us = refl
    parted false us = refl

    -- without the first one, where it has ended
    ended : (b : Bool) (us : List Told) → nat_lt now t.1.until ≡ false → lasting (with_head b us) ≡ lasting us
    ended true us e = ap (λ (l : Bool). cond l (t.1 ∷ lasting us) (lasting us)) e
    ended false us e = refl

    -- with the first one, where it lasts
    lasts_on : (b : Bool) (us : List Told) → nat_lt now t.1.until ≡ true → lasting (with_head b us) ≡ with_head b (lasting us)
    lasts_on true us e = ap (λ (l : Bool). cond l (t.1 ∷ lasting us) (lasting us)) e
    lasts_on false us e = refl

    go : (b lasts : Bool) → (t.0.0 == at.0) ≡ b → nat_lt now t.1.until ≡ lasts → told_at other rest ≡ lasting (told_at other ts)
        → told_at other (cond (not b && lasts) (t ∷ told_beside now at ts) (told_beside now at ts) ++ last) ≡ lasting (told_at other (t ∷ ts))
    go true lasts e l later =
        let there : t.0.0 ≡ at.0 = eqb-true t.0.0 at.0 e in
        let absent : (t.0.0 == other.0) ≡ false = ne_eqb t.0.0 other.0 (λ same. apart (same_id other at (sym same ∙ there))) in
        later
        ∙ sym (ap (λ (b : Bool). lasting (heads (cond b (t ∷ filter (is_on other) ts) (filter (is_on other) ts)))) absent)
    go false false e l later =
        later
        ∙ sym (ap lasting (parted (t.0.0 == other.0) (filter (is_on other) ts)) ∙ ended (t.0.0 == other.0) (told_at other ts) l)
    go false true e l later =
        parted (t.0.0 == other.0) (filter (is_on other) rest)
        ∙ ap (with_head (t.0.0 == other.0)) later
        ∙ sym (ap lasting (parted (t.0.0 == other.0) (filter (is_on other) ts)) ∙ lasts_on (t.0.0 == other.0) (told_at other ts) l)

pub endpoints_keep : EndpointsKeepTheirs
endpoints_keep now at here told = (
  only_last now at told (placed at here) ∙ all_there at here,
  λ other apart. others_stay now at other apart told (placed at here) (none_there at other apart here),
)
