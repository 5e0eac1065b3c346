use Rattle.hn_base.proofs.Names.{◌≡◌, ◌≢◌, ◌∙◌, sym, arith, map, length, eqb-true, eqb-false, length-map}
use Rattle.hn_forms.proofs.Names.{string_bytes}
use Rattle.hn_forms.proofs.Forms.{word_at}
use Rattle.hn_forms.proofs.Ported.{as_many}
use Rattle.hn_forms.proofs.Ported.{one_more, no_peers, all_ported}
use Rattle.hn_forms.proofs.words.ports_of.Goals as goal

pub returns-then-is_empty-clause-none : goal.returns-then-is_empty-clause-none
returns-then-is_empty-clause-none c count ports are =
    let many = as_many _ count ports are in
    let some = are.some in
    let long = length-map c.args.words.now string_bytes in
    let none : length c.args.words.now ≡ 0 = eqb-true _ _ (sym c.is_empty.ensures ∙ c.if-is_empty.true) in
    absurd (omega arith)

pub returns-then-words-gt-MOST_PEERS-clause-none : goal.returns-then-words-gt-MOST_PEERS-clause-none
returns-then-words-gt-MOST_PEERS-clause-none c count ports are =
    let many = as_many _ count ports are in
    let most = are.most in
    let long = length-map c.args.words.now string_bytes in
    let over = c.if-words-gt-MOST_PEERS.true in
    absurd (omega arith)

pub returns-in_err-ports-clause-none : goal.returns-in_err-ports-clause-none
returns-in_err-ports-clause-none c =
    let words = c.args.words.now in
    let long = length-map words string_bytes in
    let within = c.loop-place-test.true in
    rw c.from_residual.ensures (no_peers (map string_bytes words) c.loop-place.place _ (omega arith)
    (word_at string_bytes words _ _ _ within c.index-words-place.is c.as_bytes.ensures.value) c.in_err-ports.ensures.none)

pub loop-place-preserved : goal.loop-place-preserved
loop-place-preserved c =
    let words = c.args.words.now in
    let long = length-map words string_bytes in
    let within = c.loop-place-test.true in
    let few = c.if-words-gt-MOST_PEERS.false in
    one_more (map string_bytes words) c.loop-place.place c.loop-place.ports c.in_ok-ports.field-0 _ (omega arith) (omega arith)
    (word_at string_bytes words _ _ _ within c.index-words-place.is c.as_bytes.ensures.value) c.in_ok-ports.ensures.found c.loop-place.invariant

pub returns-clause-found : goal.returns-clause-found
returns-clause-found c =
    let words = c.args.words.now in
    let past = c.loop-place-test.false in
    let end = c.loop-place.auto.place-end in
    let few = c.if-words-gt-MOST_PEERS.false in
    let some : length words ≢ 0 = eqb-false _ _ (sym c.is_empty.ensures ∙ c.if-is_empty.false) in
    all_ported (map string_bytes words) c.loop-place.place (length words) c.loop-place.ports (omega arith) (length-map words string_bytes) (omega arith) (omega arith) c.loop-place.invariant
