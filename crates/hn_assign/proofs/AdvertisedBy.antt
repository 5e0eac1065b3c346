-- What is advertised of nodes and of the router's own assignments.
use Rattle.hn_base.proofs.Names.{◌≡◌, ◌↔◌, ◌⊎◌, ◌∙◌, ℕ, List, [], Contains, Option, None, Some, refl, sym, ap, subst, inl, inr, ⊎_elim}
use Rattle.hn_assign.proofs.Names.{nothing_in, PlainView, HasAssigned, AssignedPrefix, Entry, Advertised, Assigned, IsSaidByNode, IsOfOther, IsOwn, IsAdvertised, own_advertised}
use Rattle.hn_base.specs.declared.ids.NodeId.{NodeId}
use Rattle.hn_assign.proofs.GrownByEach.{Of}

-- what a node says by an Assigned-Prefix
abbrev pub said_by : NodeId → AssignedPrefix → Advertised
said_by node said = record { key = record { priority = said.priority; node = node; endpoint = said.endpoint }; prefix = said.prefix }

pub of_node : (entry : Entry) (said : List AssignedPrefix) (old : List Advertised) (a : Advertised) → ((s : AssignedPrefix) → Contains said s ↔ HasAssigned entry.body s)
    → (Contains old a ⊎ Of (λ s b. said_by entry.id s ≡ b) said a) ↔ (Contains old a ⊎ IsSaidByNode entry a)
of_node entry said old a are = (⊎_elim (λ o. inl o) (λ s. inr (there s)), ⊎_elim (λ o. inl o) (λ h. inr (back h)))
  where
    there : Of (λ s b. said_by entry.id s ≡ b) said a → IsSaidByNode entry a
    there s = subst (IsSaidByNode entry) s.2 (record { node = refl; assigned = (are s.0).0 s.1 })

    back : IsSaidByNode entry a → Of (λ s b. said_by entry.id s ≡ b) said a
    back h =
        let s : AssignedPrefix = record { endpoint = a.key.endpoint; priority = a.key.priority; prefix = a.prefix } in
        let named : NodeId → Advertised = λ n. record { key = record { priority = a.key.priority; node = n; endpoint = a.key.endpoint }; prefix = a.prefix } in
        (s, (are s).1 h.assigned, ap named (sym h.node))

-- an assignment that is not published is not advertised
pub own_none : (own : ℕ) (c : Assigned) (old : List Advertised) (a : Advertised) → c.published ≡ None → Contains old a ↔ (Contains old a ⊎ IsOwn own c a)
own_none own c old a none = (λ h. inl h, ⊎_elim (λ h. h) (λ h. let clash = sym none ∙ h.published in absurd (cc)))

-- one that is, is advertised once
pub own_some : (own priority : ℕ) (c : Assigned) (old : List Advertised) (a : Advertised)
    → c.published ≡ Some priority → (Contains old a ⊎ (own_advertised own priority c ≡ a)) ↔ (Contains old a ⊎ IsOwn own c a)
own_some own priority c old a is = (
  ⊎_elim (λ h. inl h) (λ e. inr (record { priority = priority; published = is; is = sym e })),
  ⊎_elim (λ h. inl h) (λ h. let same : ◌≡◌ {A = Option ℕ} (Some h.priority) (Some priority) = sym h.published ∙ is in let number : h.priority ≡ priority = cc in
      inr (ap (λ p. own_advertised own p c) (sym number) ∙ sym h.is)),
)

-- a node that is this one, or has no HNCP-Version, adds nothing
pub other_none : (own : ℕ) (entry : Entry) (old : List Advertised) (a : Advertised) → ¬ (IsOfOther own entry a) → Contains old a ↔ (Contains old a ⊎ IsOfOther own entry a)
other_none own entry old a none = (λ h. inl h, ⊎_elim (λ h. h) (λ h. absurd (none h)))

-- any other one adds what its data say
pub other_some : (own : ℕ) (entry : Entry) (old : List Advertised) (a : Advertised)
    → (IsSaidByNode entry a → IsOfOther own entry a) → (Contains old a ⊎ IsSaidByNode entry a) ↔ (Contains old a ⊎ IsOfOther own entry a)
other_some own entry old a some = (⊎_elim (λ h. inl h) (λ h. inr (some h)), ⊎_elim (λ h. inl h) (λ h. inr h.says))

pub both : {P Q R : Type 0} → P ↔ Q → Q ↔ R → P ↔ R
both f g = (λ p. g.0 (f.0 p), λ r. f.1 (g.1 r))

-- what others advertise, and what the router itself does
pub advertised_all : (view : PlainView) (assigned : List Assigned) (none others all : List Advertised) (a : Advertised) → none ≡ []
    → Contains others a ↔ (Contains none a ⊎ ((entry : Entry) × Contains view.nodes entry × IsOfOther view.own entry a))
    → Contains all a ↔ (Contains others a ⊎ ((c : Assigned) × Contains assigned c × IsOwn view.own c a)) → Contains all a ↔ IsAdvertised view assigned a
advertised_all view assigned none others all a is first second = (
  λ h. ⊎_elim (λ o. ⊎_elim (λ n. absurd (nothing_in a (subst (λ (xs : List Advertised). Contains xs a) is n))) (λ e. inl e) (first.0 o)) (λ c. inr c) (second.0 h),
  ⊎_elim (λ e. second.1 (inl (first.1 (inr e)))) (λ c. second.1 (inr c)),
)
