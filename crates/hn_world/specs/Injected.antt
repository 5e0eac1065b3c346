-- How many events a trace has, and how many bytes its injected datagrams have together.
use Rattle.std.specs.Prelude.{◌≡◌, ◌^◌, ◌-◌, ℕ, List, length, map, min, sum}
use Rattle.hn_world.specs.declared.event.WEvent.{WEvent}
use Rattle.hn_world.specs.declared.event.WEvent.TheVariants as event
use Rattle.hn_world.specs.declared.event.Traced.{Traced}

-- how many bytes an event injected
abbrev pub injected_by : WEvent → ℕ
injected_by (event.Inject name endpoint from multicast bytes) = length bytes
injected_by _ = 0

abbrev pub injected_of : List Traced → ℕ
injected_of trace = sum (map (λ t. injected_by t.event) trace)

-- how many events there were, up to 2^64 - 1, and how many bytes were injected, up to 2^28
pub record CountsTrace (trace : List Traced) (count injected : ℕ) : Type 0 where
  pub count_is : count ≡ min (length trace) (2 ^ 64 - 1)
  pub injected_is : injected ≡ min (injected_of trace) (2 ^ 28)
