-- What was published stays so when more is published.
use Rattle.hn_base.proofs.Names.{ℕ, List, ◌++◌, inl, inr, Contains-append_left}
use Rattle.hn_world.proofs.Names.{Publication, State, TextsCollide, BytesSayPublished}
use Rattle.std.specs.Prelude.{Contains}
use Rattle.hn_rules.specs.Genuine.{IsText, WasPublished, HoldsPublished}

abbrev pub Includes : List Publication → List Publication → Type 0
Includes some all = (p : Publication) → Contains some p → Contains all p

pub includes_front : (past more : List Publication) → Includes past (past ++ more)
includes_front past more p there = Contains-append_left past more p there

module _ (some all : List Publication) (includes : Includes some all) where
  text_more : (text : List ℕ) → IsText some text → IsText all text
  text_more text (inl none) = inl none
  text_more text (inr (p, there, is)) = inr (p, includes p there, is)

  pub collide_more : TextsCollide some → TextsCollide all
  collide_more (a, b, is_a, is_b, collides) = (a, b, text_more a is_a, text_more b is_b, collides)

  pub was_more : (id number : ℕ) (body : List ℕ) → WasPublished some id number body → WasPublished all id number body
  was_more id number body was =
      record { publication = was.publication; there = includes was.publication was.there; of_node = was.of_node; of_number = was.of_number; of_body = was.of_body }

  pub holds_more : (s : State) → HoldsPublished some s → HoldsPublished all s
  holds_more s holds id stored is = was_more id stored.number stored.body (holds id stored is)

  pub bytes_more : (bytes : List ℕ) → BytesSayPublished some bytes → BytesSayPublished all bytes
  bytes_more bytes say tlvs are tlv there node number age hash body is =
      let said = say tlvs are tlv there node number age hash body is in
      record { data_of = said.data_of; is_published = was_more node number said.data_of said.is_published; hash_is = said.hash_is; body_is = said.body_is }
