-- What a `Past` owns says only how the machine stores it, so a function that makes one may name any list as its items.
use Rattle.hn_base.proofs.Names.{refl, [], ◌∷◌, ‵, ◌$◌, RattleType}
use mathlib.Core.List.{List}
use seplogic.Ra.Ura.{Ura}
use mir.Val.{Val, vstruct, vcons, vnil}
use types.Logic.{Logic}
use types.Kit.{Goal, Step, step, Item}
use denote.Shadow.{pure_i}
use Rattle.hn_base.specs.contracts.past.Past as past

-- a struct whose one field is a struct without fields
abbrev pub stored : Val
stored = vstruct (vcons (vstruct vnil) vnil)

pub past_owns_nothing : {M : Type 1} {𝓤 : Ura M} {𝓛 : Logic 𝓤} {K : Type 0} {Γ : List (Item 𝓤)} {G : Goal 𝓤 𝓛.H}
    → K → (A : RattleType) (x : (past.the_row A).Denot) → Step K 𝓛 (‵ ((past.the_row A).own_val x (stored ∷ [])) ∷ Γ) G Γ G
past_owns_nothing t A x = step (λ s.
    pure_i t ((past.the_row A).own_val x (stored ∷ [])) ((λ fields. (tt, ((λ none. (tt, tt)), tt))), tt)
    (((vstruct vnil ∷ [], tt), (refl, ((tt, (refl, tt)), tt))), tt) $ s)
