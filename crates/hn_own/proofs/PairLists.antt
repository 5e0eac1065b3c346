-- What a router publishes of its assignments.
use Rattle.hn_base.proofs.Names.{◌≡◌, ◌<◌, ◌≤◌, ◌+◌, ◌∙◌, ℕ, List, [], ◌∷◌, ◌++◌, length, take, get_or, Option, Some, None, refl, sym, ap, arith, All, cons_option, All-cons, All-head, All-nil}
use Rattle.hn_base.proofs.Names.{All-tail, filter_map-append, take_more}
use Rattle.hn_own.proofs.Names.{Assigned, HasOwnPriority, AssignedPrefix, published_in}
use Rattle.hn_own.specs.HeldPairs.{publication_of}

-- of one more assignment it publishes one more, or nothing
pub published_in-more : (assigned : List Assigned) (i : ℕ) (c : Assigned) → i < length assigned → c ≡ get_or assigned i c
    → published_in (take (i + 1) assigned) ≡ published_in (take i assigned) ++ cons_option (publication_of c) []
published_in-more assigned i c within here =
    ap published_in (take_more assigned i c within)
    ∙ filter_map-append publication_of (take i assigned) (get_or assigned i c ∷ [])
    ∙ ap (λ x. published_in (take i assigned) ++ cons_option (publication_of x) []) (sym here)

-- it publishes as many as it has at most
pub published_in-few : (assigned : List Assigned) → length (published_in assigned) ≤ length assigned
published_in-few [] = omega arith
published_in-few (c ∷ assigned) = by_published c.published (published_in-few assigned)
  where
    by_published : (published : Option ℕ) → length (published_in assigned) ≤ length assigned
        → length (published_in (record c { published = published } ∷ assigned)) ≤ length (c ∷ assigned)
    by_published None rest = omega arith
    by_published (Some priority) rest = omega arith

-- and each with priority 2
pub published_in-priority : (assigned : List Assigned) → All HasOwnPriority assigned → All (λ a. a.priority ≡ 2) (published_in assigned)
published_in-priority [] own = All-nil (λ (a : AssignedPrefix). a.priority ≡ 2)
published_in-priority (c ∷ assigned) own =
    by_published c.published (All-head HasOwnPriority c assigned own) (published_in-priority assigned (All-tail HasOwnPriority c assigned own))
  where
    by_published : (published : Option ℕ) → ((priority : ℕ) → published ≡ Some priority → priority ≡ 2) → All (λ a. a.priority ≡ 2) (published_in assigned)
        → All (λ a. a.priority ≡ 2) (published_in (record c { published = published } ∷ assigned))
    by_published None two rest = rest
    by_published (Some priority) two rest =
        All-cons (λ (a : AssignedPrefix). a.priority ≡ 2) (record { endpoint = c.endpoint; priority = priority; prefix = c.prefix }) (published_in assigned) (two priority refl) rest
