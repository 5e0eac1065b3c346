-- What `udp` leaves where the wire failed.
use Rattle.hn_base.proofs.Names.{◌≡◌, ◌∙◌, inl, inr, ℕ, List, Option, Some, refl, sym, subst, arith, IsWhole}
use Rattle.hn_run.proofs.Names.{IsLabRun, IsNumberText, Parts, IsFormOf, Udp}
use Rattle.hn_io.specs.declared.fault.IoFault.TheVariants.{NoMemory}
use Rattle.hn_play.specs.declared.end.End.{End}
use Rattle.hn_play.specs.declared.end.End.TheVariants as end
use Rattle.hn_lab.specs.Breaking.{WireFailsAtACopy}
use Rattle.hn_lab.specs.Lab.{status_of, IsLineWritten, IsLabOf, IsWholePlay, Plays}
use Rattle.hn_play.specs.Stage.{begun, OverWire}
use Rattle.hn_lab.specs.Play.{IsPlay}
use Rattle.hn_script.specs.Script.{IsScript}
use Rattle.hn_script.specs.declared.script.Script.{Script}
use Rattle.hn_streams.specs.Refusal.{refused_line}
use Rattle.hn_wire.specs.declared.datagram.Datagram.{Datagram}
use Rattle.hn_run.specs.Outcome.{LeavesOnWire}

-- only a failed wire has status 5
wire_failed : (e : End) → 5 ≡ status_of e → e ≡ end.WireFailed
wire_failed end.Done h = absurd (omega (arith, h))
wire_failed (end.Refused line code) h = absurd (omega (arith, h))
wire_failed end.WireFailed h = refl

not_written : (line : List ℕ) (written : List ℕ) → IsLineWritten line 5 written → ⊥
not_written line written (inl h) = let two = h.0 in omega (arith, two)
not_written line written (inr (inl h)) = let four = h.0 in omega (arith, four)
not_written line written (inr (inr h)) = let six = h.0 in omega (arith, six)

module _ (fails : WireFailsAtACopy) (base : ℕ) (waiting : List Datagram) (last : Option (List Datagram)) (left : Option (List ℕ)) (world : Option Parts) where
  whole : (script : Script) (written : List ℕ) → IsWholePlay (OverWire base (Some waiting)) (OverWire base last) script 5 world written
      → (bytes : List ℕ) → IsScript script bytes → IsWhole left bytes → LeavesOnWire base waiting left world last
  whole script written h bytes is_script are_whole =
      let play = subst (λ (e : End). IsPlay script.lines e (begun (OverWire base (Some waiting)) script.version) h.after) (wire_failed h.end h.status_is) h.play in
      let failed = fails NoMemory script.lines (begun (OverWire base (Some waiting)) script.version) h.after (waiting, refl) play in
      record {
        bytes = bytes;
        are_whole = are_whole;
        script = script;
        is_script = is_script;
        at = failed.0;
        played = failed.1;
        end = h.after;
        fails = failed.2;
        world_is = h.world_is;
        left_is = sym h.route_is;
      }

  of_run : (before after : Option (List ℕ)) → IsLabRun (OverWire base (Some waiting)) (OverWire base last) left 5 world before after → LeavesOnWire base waiting left world last
  of_run before after run = by_end run.comes
    where
      by_play : (script : Script) → IsScript script run.bytes → Plays (OverWire base (Some waiting)) (OverWire base last) script 5 world run.written
          → LeavesOnWire base waiting left world last
      by_play script is (inl h) = whole script run.written h run.bytes is run.are_whole
      by_play script is (inr (inl h)) = let four = h.status_is in absurd (omega (arith, four))
      by_play script is (inr (inr h)) = let six = h.status_is in absurd (omega (arith, six))

      by_end : IsLabOf (OverWire base (Some waiting)) (OverWire base last) run.bytes 5 world run.written → LeavesOnWire base waiting left world last
      by_end (inl h) = absurd (not_written (refused_line h.fault.line h.fault.code) run.written h.written_is)
      by_end (inr (inl h)) = by_play h.script h.is_script h.plays
      by_end (inr (inr h)) = let six = h.0 in absurd (omega (arith, six))

-- the words ask for one base
one_base : (m n : ℕ) (words : List (List ℕ)) → IsFormOf (Udp m) words → IsFormOf (Udp n) words → m ≡ n
one_base m n words h k =
    let word : k.1 ≡ h.1 = cc in
    let same = subst (λ (w : List ℕ). IsNumberText 1024 65534 w n) word k.3 in
    sym h.3.numeral.value ∙ same.numeral.value

pub leaves_of_base : WireFailsAtACopy → (read base : ℕ) (waiting : List Datagram) (first last : Option (List Datagram)) (words : List (List ℕ)) (left : Option (List ℕ)) (status : ℕ)
    (world : Option Parts) (before after : Option (List ℕ)) → IsFormOf (Udp read) words → IsFormOf (Udp base) words → first ≡ Some waiting → status ≡ 5
    → IsLabRun (OverWire read first) (OverWire read last) left status world before after → LeavesOnWire base waiting left world last
leaves_of_base fails read base waiting first last words left status world before after h asked tells five run =
    let same = one_base read base words h asked in
    let there = subst (λ (b : ℕ). IsLabRun (OverWire b first) (OverWire b last) left status world before after) same run in
    let told = subst (λ (o : Option (List Datagram)). IsLabRun (OverWire base o) (OverWire base last) left status world before after) tells there in
    of_run fails base waiting last left world before after (subst (λ (s : ℕ). IsLabRun (OverWire base (Some waiting)) (OverWire base last) left s world before after) five told)
