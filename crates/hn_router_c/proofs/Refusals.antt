-- Where an event does not happen, and where a handle has no router.
use Rattle.std.specs.Prelude.{◌≡◌, ◌≢◌, ℕ, Option, Some, None, IfSome}
use Rattle.hn_base.proofs.Names.{refl, subst}
use Rattle.hn_router.specs.Act.{PlainEvent}
use Rattle.hn_kept.specs.Kept.{Kept}
use Rattle.hn_router_c.specs.Calls.{Acted}

pub not_acted : (now : ℕ) (event : PlainEvent) (held : Option Kept) (status : ℕ) → status ≢ 0 → IfSome held (λ before. Acted now event before held status)
not_acted now event None status refused = tt
not_acted now event (Some kept) status refused = record { after = kept; has = refl; happened = λ done. absurd (refused done); as_before = λ _. refl }

-- of a handle that has this router
pub of_some : {held : Option Kept} (kept : Kept) → Some kept ≡ held → (Holds : Kept → Type 0) → Holds kept → IfSome held Holds
of_some kept is Holds holds = subst (λ (h : Option Kept). IfSome h Holds) is holds
