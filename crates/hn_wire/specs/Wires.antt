-- What the calls of a wire do to the datagrams that wait. A wire that tells them tells them in the order in which they
-- were sent; those that wait at a port are those among them that go to it.
use Rattle.std.specs.Prelude.{◌≡◌, ℕ, ◌==◌, List, [], ◌∷◌, ◌++◌, take, filter, position, remove, ⊤, Option, None, Some, option_map}
use Rattle.std.specs.List.{slice_get}
use Rattle.hn_wire.specs.declared.datagram.Datagram.{Datagram}

-- what waits at a port, first come first
abbrev pub waiting_at : ℕ → List Datagram → List Datagram
waiting_at at ds = filter (λ d. d.to == at) ds

-- the first that waits at a port, by its place among all
abbrev pub first_at : ℕ → List Datagram → Option ℕ
first_at at ds = position (λ d. d.to == at) ds

-- a datagram was sent
abbrev pub Sends : Datagram → Option (List Datagram) → Option (List Datagram) → Type 0
Sends d None after = ⊤
Sends d (Some before) None = ⊥
Sends d (Some before) (Some after) = after ≡ before ++ d ∷ []

-- what was taken: the port that it came from, and its bytes
pub record Arrived : Type 0 where
  pub from : ℕ
  pub bytes : List ℕ

-- by the answer of a take, and the buffer after it
abbrev pub arrived : Option (ℕ × ℕ) → List ℕ → Option Arrived
arrived None buf = None
arrived (Some got) buf = Some (record { from = got.1; bytes = take got.0 buf })

-- the first datagram that waits at a port was taken away
pub record TakesFirst (at : ℕ) (got : Arrived) (before after : List Datagram) : Type 0 where
  pub place : ℕ
  pub datagram : Datagram
  pub first : first_at at before ≡ Some place
  pub is_first : slice_get before place ≡ Some datagram
  pub from_is : got.from ≡ datagram.from
  pub bytes_are : got.bytes ≡ datagram.bytes
  pub rest : after ≡ remove before place

-- what a take gave: nothing, if and only if nothing waits at the port, or the first that waits there
abbrev pub TakesOf : ℕ → Option Arrived → List Datagram → List Datagram → Type 0
TakesOf at None before after = (first_at at before ≡ None) × (after ≡ before)
TakesOf at (Some got) before after = TakesFirst at got before after

abbrev pub TakesAt : ℕ → Option Arrived → Option (List Datagram) → Option (List Datagram) → Type 0
TakesAt at got None after = ⊤
TakesAt at got (Some before) None = ⊥
TakesAt at got (Some before) (Some after) = TakesOf at got before after

-- the datagram at a place among those that wait at a port, as it would be taken, if there is one
abbrev pub waits_at : ℕ → ℕ → List Datagram → Option Arrived
waits_at at place ds = option_map (λ d. record { from = d.from; bytes = d.bytes }) (slice_get (waiting_at at ds) place)
