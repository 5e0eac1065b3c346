use Rattle.hn_base.proofs.Names.{◌∙◌, ◌<◌, ◌^◌, List, ◌++◌, refl, subst, err_from_is_err_and, All-append}
use Rattle.hn_watch.proofs.Names.{Shown, Remembers}
use Rattle.hn_base.proofs.Results.{tells_passed, tells_unfound}
use Rattle.hn_tlv.specs.declared.fault.TlvFault.{TlvFault}
use Rattle.hn_tlv.specs.declared.list_fault.ListFault.TheVariants.{Malformed}
use Rattle.hn_tlv.specs.Grammar.{FirstFault}
use Rattle.hn_watch.proofs.ShownLemmas.{shown_fit}
use Rattle.hn_watch.proofs.Steps.{remembers_same}
use Rattle.hn_watch.proofs.watch.Watch.feed.Goals as goal

pub returns-in-Err-clause-refused : goal.returns-in-Err-clause-refused
returns-in-Err-clause-refused c = λ place why.
    tells_passed Malformed (λ (f : TlvFault). FirstFault c.args.datagram.now f.place f.why) (λ f g e. cc) _ c.in-Err.found refl c.in-Err.ensures.fault
    (λ f. c.in-Err.ensures.at_fault f.place f.why) (record { place = place; why = why })

pub returns-in_err-shown-clause-refused : goal.returns-in_err-shown-clause-refused
returns-in_err-shown-clause-refused c = λ place why.
    let passed = err_from_is_err_and c.from_residual.result c.from_residual.ensures.1 in
    tells_unfound Malformed (λ (f : TlvFault). FirstFault c.args.datagram.now f.place f.why) c.from_residual.result _ (λ g e. cc)
    (λ f. c.in_default.ensures.at_fault f.place f.why) (record { place = place; why = why })

pub returns-in_err-make_room-clause-refused : goal.returns-in_err-make_room-clause-refused
returns-in_err-make_room-clause-refused c = λ place why.
    let passed = err_from_is_err_and c.from_residual-in_err-make_room.result c.from_residual-in_err-make_room.ensures.1 in
    tells_unfound Malformed (λ (f : TlvFault). FirstFault c.args.datagram.now f.place f.why) c.from_residual-in_err-make_room.result _ (λ g e. cc)
    (λ f. c.in_default.ensures.at_fault f.place f.why) (record { place = place; why = why })

pub returns-clause-refused : goal.returns-clause-refused
returns-clause-refused c = λ place why.
    tells_unfound Malformed (λ (f : TlvFault). FirstFault c.args.datagram.now f.place f.why) _ _ (λ g e. cc) (λ f. c.in_default.ensures.at_fault f.place f.why) (record { place = place; why = why })

pub returns-clause-shown : goal.returns-clause-shown
returns-clause-shown c = λ shown before by holds.
    let fits = λ (s : Shown). s.number < 2 ^ 32 in
    let same = c.as_slice-2.ensures ∙ c.shown_is_unique.ensures c.args.datagram.now c.in_ok-shown.shown shown c.in_ok-shown.ensures by in
    let held = remembers_same before c.args.self.now.remembered c.make_room.new.self c.in_ok-make_room.ensures.same holds.remembered in
    record {
      numbers = All-append fits before shown holds.numbers (shown_fit c.args.datagram.now shown by);
      remembered = subst (λ (xs : List Shown). Remembers (before ++ xs) c.note_all.new.self) same (c.note_all.ensures before held);
    }
