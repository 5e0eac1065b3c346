-- What came of an event only grows.
use Rattle.std.specs.Prelude.{◌≡◌, List, ◌++◌}
use Rattle.hn_rules.specs.declared.done.Done.{Done}
use Rattle.hn_rules.specs.declared.running.Running.{Running}

-- a list begins with the elements of another
abbrev pub BeginsWith : {A : Type 0} → List A → List A → Type 0
BeginsWith {A} front list = (more : List A) × (list ≡ front ++ more)

-- each list of what came of an event so far begins with what was there
pub record GrowsFrom (done : Done) (r : Running) : Type 0 where
  pub sends : BeginsWith done.sends r.done.sends
  pub notes : BeginsWith done.notes r.done.notes
  pub published : BeginsWith done.published r.done.published
  pub words : BeginsWith done.words r.done.words
