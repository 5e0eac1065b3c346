-- What a call of C writes into a room.
use Rattle.std.specs.Prelude.{◌≡◌, ℕ, ◌<◌, List, ◌++◌, drop, length}

-- so many bytes are at the front of a room, and the rest of it is as it was
pub record FillsRoom (bytes : List ℕ) (count : ℕ) (room room_after : List ℕ) : Type 0 where
  pub count_is : count ≡ length bytes
  pub written : room_after ≡ bytes ++ drop (length bytes) room

-- so many bytes are more than a room has
pub record OverflowsRoom (bytes : List ℕ) (count : ℕ) (room : List ℕ) : Type 0 where
  pub count_is : count ≡ length bytes
  pub longer : length room < count
