-- What was published stays so when more is published; and what a table holds after a change was published, or texts collide.
use Rattle.hn_base.proofs.Names.{◌≡◌, ◌⊎◌, ◌∙◌, ℕ, List, [], ◌++◌, Option, Some, None, inl, inr, refl, sym, subst, Contains-append_left, Contains-append_right, Contains-append_cases}
use Rattle.hn_rules.proofs.Names.{Contains, hash_of, PlainTlv, PlainState, HeldIsOfAnEntry, Nodes, held, IsIntact, IsTable, Took, Stored, Answer, Publication, State, TableChange, Accept, Mark, Forget}
use Rattle.hn_rules.proofs.Names.{Empty, MayChangeTable, table_after, TextsCollide, HoldsPublished, SaysPublished, TlvSaysPublished, TlvsSayPublished, BytesSayPublished, IsGenuineAnswer}
use Rattle.hn_base.proofs.DecidingTests.{texts_cases}
use Rattle.hn_store.specs.Brought.{WasHeld, BroughtData, BroughtNumber}
use Rattle.hn_store.specs.Laws.{HeldWasBrought, MarkedWasHeld, RememberedWasHeld}
use Rattle.hn_rules.specs.Genuine.{IsText, WasPublished}
use Rattle.hn_rules.proofs.LawsFromBelow.{held_all}

-- ---- more is published

abbrev pub Includes : List Publication → List Publication → Type 0
Includes some all = (p : Publication) → Contains some p → Contains all p

pub includes_front : (past more : List Publication) → Includes past (past ++ more)
includes_front past more p there = Contains-append_left past more p there

pub includes_more : (past published more : List Publication) → Includes (past ++ published) (past ++ (published ++ more))
includes_more past published more p there =
    elim (Contains-append_cases past published p there) [
      | inl before ↦ Contains-append_left past (published ++ more) p before
      | inr since ↦ Contains-append_right past (published ++ more) p (Contains-append_left published more p since)
    ]

module _ (some all : List Publication) (includes : Includes some all) where
  text_more : (text : List ℕ) → IsText some text → IsText all text
  text_more text (inl none) = inl none
  text_more text (inr (p, there, is)) = inr (p, includes p there, is)

  pub collide_more : TextsCollide some → TextsCollide all
  collide_more (a, b, is_a, is_b, collides) = (a, b, text_more a is_a, text_more b is_b, collides)

  pub was_more : (id number : ℕ) (body : List ℕ) → WasPublished some id number body → WasPublished all id number body
  was_more id number body was =
      record { publication = was.publication; there = includes was.publication was.there; of_node = was.of_node; of_number = was.of_number; of_body = was.of_body }

  pub holds_more : (s : State) → HoldsPublished some s → HoldsPublished all s
  holds_more s holds id stored is = was_more id stored.number stored.body (holds id stored is)

  pub tlv_more : (tlv : PlainTlv) → TlvSaysPublished some tlv → TlvSaysPublished all tlv
  tlv_more tlv says node number age hash body is =
      let said = says node number age hash body is in
      record { data_of = said.data_of; is_published = was_more node number said.data_of said.is_published; hash_is = said.hash_is; body_is = said.body_is }

  pub tlvs_more : (tlvs : List PlainTlv) → TlvsSayPublished some tlvs → TlvsSayPublished all tlvs
  tlvs_more tlvs say tlv there = tlv_more tlv (say tlv there)

  pub bytes_more : (bytes : List ℕ) → BytesSayPublished some bytes → BytesSayPublished all bytes
  bytes_more bytes say tlvs are = tlvs_more tlvs (say tlvs are)

  pub answer_more : (a : Answer) → IsGenuineAnswer some a → IsGenuineAnswer all a
  answer_more a is = record { tlv = is.tlv; is_tlv = is.is_tlv; spelled = is.spelled; says = tlv_more is.tlv is.says }

-- ---- what the table holds

-- the laws of the table
pub record TableLaws : Type 0 where
  pub of_entry : HeldIsOfAnEntry
  pub brought : HeldWasBrought
  pub marks : MarkedWasHeld
  pub forgetting : RememberedWasHeld

module _ (laws : TableLaws) (published : List Publication) where
  -- what these nodes hold was published
  abbrev Holds : Nodes → Type 0
  Holds nodes = (id : ℕ) (stored : Stored) → held nodes.entries id ≡ Some stored → WasPublished published id stored.number stored.body

  -- what was held before
  was_held : (nodes : Nodes) → Holds nodes → (id : ℕ) (stored : Stored) → WasHeld nodes id stored → WasPublished published id stored.number stored.body
  was_held nodes holds id stored was =
      let before = holds id was.before was.was in
      record { publication = before.publication; there = before.there; of_node = before.of_node; of_number = before.of_number ∙ sym was.number_is; of_body = before.of_body ∙ sym was.body_is }

  -- published node data with the hash of a text are the text, or the two collide
  same_or_collide : (id number : ℕ) (body text : List ℕ) → WasPublished published id number body → IsText published text → hash_of body ≡ hash_of text → (body ≡ text) ⊎ TextsCollide published
  same_or_collide id number body text was is hashes =
      elim (texts_cases body text) [
        | inl same ↦ inl same
        | inr other ↦ inr (body, text, inr (was.publication, was.there, was.of_body), is, record { differ = other; one_hash = hashes })
      ]

  -- what a state brings, where the state says what was published
  module _ (carried : PlainState) (says : SaysPublished published carried.node carried.number carried.hash carried.body) where
    abbrev IsPublishedOrCollides : Stored → Type 0
    IsPublishedOrCollides stored = WasPublished published carried.node stored.number stored.body ⊎ TextsCollide published

    -- the stored data are those that the state says
    are_said : (stored : Stored) → stored.number ≡ carried.number → stored.body ≡ says.data_of → WasPublished published carried.node stored.number stored.body
    are_said stored number body =
        let was = says.is_published in
        record { publication = was.publication; there = was.there; of_node = was.of_node; of_number = was.of_number ∙ sym number; of_body = was.of_body ∙ sym body }

    -- they are a text with the same hash
    are_text : (stored : Stored) (text : List ℕ) → stored.number ≡ carried.number → stored.body ≡ text → IsText published text → hash_of text ≡ carried.hash → IsPublishedOrCollides stored
    are_text stored text number body is hash =
        elim (same_or_collide carried.node carried.number says.data_of text says.is_published is (sym says.hash_is ∙ sym hash)) [
          | inl same ↦ inl (are_said stored number (body ∙ sym same))
          | inr collide ↦ inr collide
        ]

    brought_data : (stored : Stored) → stored.number ≡ carried.number → BroughtData carried stored → IsPublishedOrCollides stored
    brought_data stored number brought = by_body says.body_is
      where
        by_body : (carried.body ≡ says.data_of) ⊎ (carried.body ≡ []) → IsPublishedOrCollides stored
        by_body (inl whole) = inl (are_said stored number (brought.body_is ∙ whole))
        by_body (inr none) = are_text stored carried.body number brought.body_is (inl none) brought.hash_is

    brought_number : (nodes : Nodes) → IsTable nodes → Holds nodes → (stored : Stored) → stored.number ≡ carried.number → BroughtNumber nodes carried stored → IsPublishedOrCollides stored
    brought_number nodes table holds stored number brought =
        let before = holds carried.node brought.before brought.was in
        let intact : IsIntact brought.before = held_all laws.of_entry IsIntact nodes.entries carried.node brought.before table.intact brought.was in
        are_text stored brought.before.body number brought.body_is (inr (before.publication, before.there, before.of_body)) (sym intact.hashed ∙ brought.hash_is)

    -- what is held of its node
    one_held : (nodes : Nodes) → IsTable nodes → Holds nodes → (stored : Stored)
        → WasHeld nodes carried.node stored ⊎ ((carried.node ≡ carried.node) × (stored.number ≡ carried.number) × (BroughtData carried stored ⊎ BroughtNumber nodes carried stored))
        → IsPublishedOrCollides stored
    one_held nodes table holds stored (inl was) = inl (was_held nodes holds carried.node stored was)
    one_held nodes table holds stored (inr (same, number, inl brought)) = brought_data stored number brought
    one_held nodes table holds stored (inr (same, number, inr brought)) = brought_number nodes table holds stored number brought

    -- what is held of all nodes: nothing or something is held of its node
    all_held : (nodes next : Nodes) → Holds nodes
        → ((id : ℕ) (stored : Stored) → held next.entries id ≡ Some stored
        → WasHeld nodes id stored ⊎ ((id ≡ carried.node) × (stored.number ≡ carried.number) × (BroughtData carried stored ⊎ BroughtNumber nodes carried stored)))
        → ((stored : Stored) → held next.entries carried.node ≡ Some stored → WasPublished published carried.node stored.number stored.body)
        → Holds next
    all_held nodes next holds brought one id stored is = by_case (brought id stored is)
      where
        by_case : WasHeld nodes id stored ⊎ ((id ≡ carried.node) × (stored.number ≡ carried.number) × (BroughtData carried stored ⊎ BroughtNumber nodes carried stored))
            → WasPublished published id stored.number stored.body
        by_case (inl was) = was_held nodes holds id stored was
        by_case (inr (same, number, how)) =
            subst (λ (node : ℕ). WasPublished published node stored.number stored.body) (sym same) (one stored (subst (λ (node : ℕ). held next.entries node ≡ Some stored) same is))

  accepts_holds : (tlvs : List PlainTlv) → TlvsSayPublished published tlvs → (carried : PlainState) (how : Took) (next : Nodes) (s : State)
      → MayChangeTable tlvs (Accept carried how next) s → IsTable s.table → HoldsPublished published s → Holds next ⊎ TextsCollide published
  accepts_holds tlvs say carried how next s ((tlv, there, is), accepts) table holds = by_option (held next.entries carried.node) refl
    where
      says : SaysPublished published carried.node carried.number carried.hash carried.body
      says = say tlv there carried.node carried.number carried.age carried.hash carried.body is

      brought : (id : ℕ) (stored : Stored) → held next.entries id ≡ Some stored
          → WasHeld s.table id stored ⊎ ((id ≡ carried.node) × (stored.number ≡ carried.number) × (BroughtData carried stored ⊎ BroughtNumber s.table carried stored))
      brought id stored found = laws.brought s.table _ carried s.moment next how id stored accepts found

      by_option : (o : Option Stored) → held next.entries carried.node ≡ o → Holds next ⊎ TextsCollide published
      by_option None found = inl (all_held carried says s.table next holds brought (λ stored is. absurd cc))
      by_option (Some stored) found =
          elim (one_held carried says s.table table holds stored (brought carried.node stored found)) [
            | inl was ↦ inl (all_held carried says s.table next holds brought (λ other is.
                let same : stored ≡ other = cc in subst (λ (x : Stored). WasPublished published carried.node x.number x.body) same was))
            | inr collide ↦ inr collide
          ]

  pub table_holds : (tlvs : List PlainTlv) → TlvsSayPublished published tlvs → (how : TableChange) (s : State)
      → MayChangeTable tlvs how s → IsTable s.table → HoldsPublished published s → Holds (table_after how s) ⊎ TextsCollide published
  table_holds tlvs say (Accept carried how next) s may table holds = accepts_holds tlvs say carried how next s may table holds
  table_holds tlvs say Mark s may table holds =
      inl (λ id stored is. was_held s.table holds id stored (laws.marks s.reach s.moment s.table id stored is))
  table_holds tlvs say Forget s may table holds =
      inl (λ id stored is. was_held s.table holds id stored (laws.forgetting s.moment s.table id stored table is))
  table_holds tlvs say Empty s may table holds = inl (λ id stored is. absurd cc)
