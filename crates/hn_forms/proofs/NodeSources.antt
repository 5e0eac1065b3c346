-- What is said of a node file that was read is said of the source that has it.
use Rattle.hn_base.proofs.Names.{◌≡◌, ◌<◌, ◌≤◌, ◌^◌, ℕ, List, Option, None, length, inl, inr, refl, arith, Appends, Consumes, IsWhole}
use Rattle.hn_forms.proofs.Names.{Served, ScriptFault, PlainCall, Outside, MakesNode, LineHolds, StatusOfNode, IsNodeRun}
use Rattle.hn_script.specs.NodeFile.{IsFirstNodeFault}
use Rattle.hn_forms.specs.Node.{IsNodeRefusal}
use Rattle.hn_forms.proofs.Nodes.{unserved, nothing_excluded}
use Rattle.hn_forms.proofs.WatchSources.{some_source, any_source}

-- ---- a source that is too long, of which one byte more was read

long_fault : (fault : ScriptFault) (whole read : List ℕ) → 2 ^ 24 < length read → length read ≤ length whole → IsFirstNodeFault fault read → IsFirstNodeFault fault whole
long_fault fault whole read long front (inl is) = inl (omega arith, is.1, is.2)
long_fault fault whole read long front (inr is) = let short = is.0 in absurd (omega arith)

long_refusal : (call : PlainCall) (number code : ℕ) (readings rest : Option (List ℕ)) (whole read : List ℕ) → 2 ^ 24 < length read → length read ≤ length whole
    → IsNodeRefusal call read number code readings rest → IsNodeRefusal call whole number code readings rest
long_refusal call number code readings rest whole read long front (inl is) = inl (is.0, long_fault is.0 whole read long front is.1, is.2, is.3, is.4)
long_refusal call number code readings rest whole read long front (inr is) = let short = is.2.small in absurd (omega arith)

long_makes : (call : PlainCall) (status : ℕ) (served : Option Served) (before after : Outside) (text whole read : List ℕ) → 2 ^ 24 < length read
    → length read ≤ length whole → MakesNode call read status served before after text
    → MakesNode call whole status served before after text
long_makes call status served before after text whole read long front (inl is) = inl (record {
  number = is.number;
  code = is.code;
  refused = long_refusal call is.number is.code before.readings after.readings whole read long front is.refused;
  status_is = is.status_is;
  unserved = is.unserved;
  unsent = is.unsent;
  text_is = is.text_is;
})
long_makes call status served before after text whole read long front (inr (inl is)) = let short = is.is_served.file.small in absurd (omega arith)
long_makes call status served before after text whole read long front (inr (inr is)) = inr (inr (record {
  status_is = is.status_is;
  unserved = is.unserved;
  text_is = is.text_is;
  wire = elim is.wire [
    | inl unsent ↦ inl unsent
    | inr starves ↦ let short = starves.file.small in absurd (omega arith)
  ];
}))

long_status : (call : PlainCall) (status : ℕ) (whole read : List ℕ) → 2 ^ 24 < length read → length read ≤ length whole → StatusOfNode call read status → StatusOfNode call whole status
long_status call status whole read long front only = record {
  no_file = λ fault is. only.no_file (record { line = 0; code = 15 }) (inl (long, refl, refl));
  overfull = λ lines now number file full. let short = file.small in absurd (omega arith);
  done = λ lines file free. let short = file.small in absurd (omega arith);
}

-- ---- what is said of it

-- what is made, what of it a sink holds, and what is excluded
abbrev NodeHolds : PlainCall → ℕ → Option Served → Outside → Outside → Option (List ℕ) → Option (List ℕ) → List ℕ → Type 0
NodeHolds call status served before after a b bytes =
    ((text : List ℕ) × MakesNode call bytes status served before after text × ((written : List ℕ) × LineHolds status text written × Appends a b written))
    × StatusOfNode call bytes status

holds_longer : (call : PlainCall) (status : ℕ) (served : Option Served) (before after : Outside) (a b : Option (List ℕ)) (whole read : List ℕ) → 2 ^ 24 < length read → length read ≤ length whole
    → NodeHolds call status served before after a b read → NodeHolds call status served before after a b whole
holds_longer call status served before after a b whole read long front (made, only) =
    ((made.0, long_makes call status served before after made.0 whole read long front made.1, made.2), long_status call status whole read long front only)

node_from : (call : PlainCall) (left : Option (List ℕ)) (status : ℕ) (served : Option Served) (before after : Outside) (a b : Option (List ℕ))
    → (bytes : List ℕ) × IsWhole left bytes × NodeHolds call status served before after a b bytes
    → IsNodeRun call left status served before after a b
node_from call left status served before after a b h = record {
  bytes = h.0;
  are_whole = h.1;
  text = h.2.0.0;
  makes = h.2.0.1;
  only = h.2.1;
  written = h.2.0.2.0;
  holds = h.2.0.2.1;
  appends = h.2.0.2.2;
}

pub node_read : (call : PlainCall) (left rest : Option (List ℕ)) (read : List ℕ) (status : ℕ) (served : Option Served) (before after : Outside) (a b : Option (List ℕ))
    → Consumes left rest read → (length read ≤ 2 ^ 24 → IsWhole left read)
    → ((text : List ℕ) × MakesNode call read status served before after text × ((written : List ℕ) × LineHolds status text written × Appends a b written)) → StatusOfNode call read status
    → IsNodeRun call left status served before after a b
node_read call left rest read status served before after a b consumed whole made only =
    node_from call left status served before after a b
    (some_source (NodeHolds call status served before after a b) (holds_longer call status served before after a b) left rest read consumed whole (made, only))

pub node_unread : (call : PlainCall) (left : Option (List ℕ)) (status : ℕ) (served : Option Served) (before after : Outside) (held : Option (List ℕ))
    → status ≡ 6 → served ≡ None → after.waiting ≡ before.waiting → IsNodeRun call left status served before after held held
node_unread call left status served before after held six none unsent =
    node_from call left status served before after held held
    (any_source (NodeHolds call status served before after held held)
    (λ bytes. (unserved call bytes status served before after held six none (inl unsent), nothing_excluded call bytes status six)) left)
