use Rattle.hn_base.proofs.Names.{◌≡◌, ◌≢◌, refl, rules}
use Rattle.hn_store.proofs.Names.{BadHash, Own, plain_state, CarriesData}
use Rattle.hn_store.proofs.Answering.{unchanged, bad_hash, own_claimed, of_number, of_data_ok}
use Rattle.hn_store.proofs.table.Table.take.Goals as goal

pub returns-then-has_wrong_hash-clause-accepts : goal.returns-then-has_wrong_hash-clause-accepts
returns-then-has_wrong_hash-clause-accepts c =
    let s = plain_state c.args.state.now in
    unchanged c.args.self.now c.args.own.now s c.args.now BadHash refl (bad_hash c.args.self.now c.args.own.now s c.in_default.ensures.passed c.if-has_wrong_hash.ensures.wrong)

pub returns-then-eq-clause-accepts : goal.returns-then-eq-clause-accepts
returns-then-eq-clause-accepts c =
    let s = plain_state c.args.state.now in
    let same : s.node ≡ c.args.own.now.id.0 = search rules in
    unchanged c.args.self.now c.args.own.now s c.args.now Own refl (own_claimed c.args.self.now c.args.own.now s c.in_default.ensures.passed c.if-has_wrong_hash.ensures.right same)

pub returns-then-not-carries_data-clause-accepts :
    goal.returns-then-not-carries_data-clause-accepts
returns-then-not-carries_data-clause-accepts c =
    let s = plain_state c.args.state.now in
    let other : s.node ≢ c.args.own.now.id.0 = search rules in
    let none : ¬ (CarriesData s) = search rules in
    record {
      answer = of_number c.args.self.now c.args.own.now s c.renumber.result c.in_default.ensures.passed c.if-has_wrong_hash.ensures.right other none c.renumber.ensures.took;
      after = c.renumber.ensures.after;
    }

pub returns-clause-accepts : goal.returns-clause-accepts
returns-clause-accepts c =
    let s = plain_state c.args.state.now in
    let other : s.node ≢ c.args.own.now.id.0 = search rules in
    let carries = c.carries_data.ensures.0 c.if-not-carries_data.false in
    of_data_ok c.args.self.now c.args.own.now s c.args.now c.keep.new.self c.keep.result c.in_default.ensures.passed c.if-has_wrong_hash.ensures.right
    other carries c.keep.ensures.took c.keep.ensures.after

pub returns-in-Some-clause-accepts : goal.returns-in-Some-clause-accepts
returns-in-Some-clause-accepts c = c.in-Some.ensures.accepts c.args.now
