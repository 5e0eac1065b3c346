-- What came of an event.
use Rattle.std.specs.Prelude.{[]}
use Rattle.hn_rules.specs.declared.done.Done.{Done}

-- nothing came of it yet
abbrev pub nothing : Done
nothing = record { sends = []; notes = []; published = []; words = [] }
