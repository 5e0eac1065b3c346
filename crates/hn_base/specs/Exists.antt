-- What cannot be missing.

-- it cannot be that there is none
abbrev pub Some! : {A : Type 0} → (A → Type 0) → Type 0
Some! {A} P = ((x : A) → ¬ (P x)) → ⊥
