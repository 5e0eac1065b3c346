use Rattle.std.specs.Prelude.{List}
use Rattle.hn_io.specs.Memory.{CallCount}
use Rattle.hn_wire.specs.declared.datagram.Datagram.{Datagram}

-- a wire in memory: the datagrams that wait, in the order in which they were sent, and its calls
pub record MemoryWire : Type 0 where
  pub waiting : List Datagram
  pub calls : CallCount
