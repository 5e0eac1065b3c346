use Rattle.hn_base.proofs.Names.{◌≡◌, sym, ◌∙◌, rules, tests, list_any, YieldsList-from_slice}
use Rattle.hn_own.proofs.Names.{OwnPrefix, has_ended}
use Rattle.std.proofs.lemmas.Iterator.Search.{any_from_yields_List}
use Rattle.hn_own.proofs.PrefixLists.{filter_none_passes}
use Rattle.hn_own.proofs.own_prefixes.OwnPrefixes.needs_end.Goals as goal

pub returns-clause-ended : goal.returns-clause-ended
returns-clause-ended c =
    let ended = λ (p : OwnPrefix). has_ended c.args.now p.valid_until in
    any_from_yields_List ended _ _ c.any.result c.any.ensures.ran (YieldsList-from_slice c.args.self.now cc) (λ x b q k. search (rules, tests))

pub returns-clause-kept : goal.returns-clause-kept
returns-clause-kept c none =
    let ended = λ (p : OwnPrefix). has_ended c.args.now p.valid_until in
    let any : c.any.result ≡ list_any ended c.args.self.now =
    any_from_yields_List ended _ _ c.any.result c.any.ensures.ran (YieldsList-from_slice c.args.self.now cc) (λ x b q k. search (rules, tests)) in
    filter_none_passes ended c.args.self.now (sym any ∙ none)
