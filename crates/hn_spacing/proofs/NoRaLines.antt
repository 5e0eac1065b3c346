-- Lines of text that are no `ra` lines: they begin with other bytes.
use Rattle.hn_base.proofs.Names.{◌≡◌, ◌≢◌, ℕ, Bool, false, List, [], ◌∷◌, map, ap, ◌==◌, ◌&&◌, AllByRecursion, both_ways}
use Rattle.hn_spacing.proofs.Names.{EpId, Name, ra_line}
use Rattle.hn_base.proofs.EachByRecursion.{AllByRecursion-weaker}

-- whether a line begins with `ra `
abbrev pub begins_ra : List ℕ → Bool
begins_ra (a ∷ b ∷ c ∷ rest) = (a == 114) && (b == 97) && (c == 32)
begins_ra _ = false

abbrev pub AreNoRaLines : List (List ℕ) → Type 0
AreNoRaLines lines = AllByRecursion (λ line. begins_ra line ≡ false) lines

-- lines that are no `ra` lines of the endpoint, whenever they come up
abbrev pub AreOther : Name → EpId → List (List ℕ) → Type 0
AreOther name e lines = AllByRecursion (λ line. (now : ℕ) (bytes : List ℕ) → line ≢ ra_line name e now bytes) lines

pub others_of_kind : (name : Name) (e : EpId) (lines : List (List ℕ)) → AreNoRaLines lines → AreOther name e lines
others_of_kind name e =
    AllByRecursion-weaker (λ line. begins_ra line ≡ false) (λ line. (now : ℕ) (bytes : List ℕ) → line ≢ ra_line name e now bytes)
    (λ line other now bytes same. both_ways (begins_ra line) other (ap begins_ra same))

-- lines of one kind
pub no_ra_map : {X : Type 0} (line : X → List ℕ) → ((x : X) → begins_ra (line x) ≡ false) → (xs : List X) → AreNoRaLines (map line xs)
no_ra_map line other [] = tt
no_ra_map line other (x ∷ xs) = (other x, no_ra_map line other xs)
