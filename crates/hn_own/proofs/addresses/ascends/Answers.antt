use Rattle.hn_base.proofs.Names.{rules, tests, is_lt, answers_always}
use Rattle.hn_own.proofs.Names.{OwnAddress, address_cmp}
use Rattle.hn_own.proofs.AddressLists.{ascends_from_answer}
use Rattle.hn_own.proofs.addresses.ascends.Goals as goal

pub returns : goal.returns
returns c =
    ascends_from_answer c.args.list.now c.is_sorted_by.result
    (c.is_sorted_by.ensures.cases (λ (x y : OwnAddress). is_lt (address_cmp x y)) (answers_always _ _ _ (λ f a r f' called. search (rules, tests))))
