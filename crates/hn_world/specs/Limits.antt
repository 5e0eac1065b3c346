-- What depends on the version of a world: how large a home may be.
use Rattle.std.specs.Prelude.{ℕ}
use Rattle.hn_base.specs.declared.version.Version.{Version}
use Rattle.hn_base.specs.declared.version.Version.TheVariants.{One, Two}

-- how many routers a world has at most
abbrev pub most_routers : Version → ℕ
most_routers One = 64
most_routers Two = 128

-- how many other nodes each of its routers holds at most
abbrev pub table_limit : Version → ℕ
table_limit One = 256
table_limit Two = 1024
