use Rattle.hn_base.proofs.Names.{List, [], ◌∷◌, ◌++◌, option_to_list, sym, ap, ◌∙◌, on_ok_weaker, append-nil}
use Rattle.hn_data.proofs.Names.{filter_map-push, plain, plain_item, delegation_of}
use Rattle.hn_data.proofs.OneMoreItem.{reads_one, reads_none}
use Rattle.hn_data.proofs.delegations.add_delegation.Goals as goal

pub returns-in-Ok : goal.returns-in-Ok
returns-in-Ok c =
    let item = plain_item c.in-Ok.item in
    on_ok_weaker c.push_said.result (λ more. (
      item ∷ [],
      reads_one (plain c.args.tlv.now) item c.in-Ok.ensures.item,
      more ∙ ap (λ o. c.args.list.now.items ++ option_to_list o) c.delegation_of.ensures ∙ ap (λ (xs : List _). c.args.list.now.items ++ xs) (sym (filter_map-push delegation_of [] item)),
    )) c.push_said.ensures

pub returns-in-Err : goal.returns-in-Err
returns-in-Err c = ([], reads_none (plain c.args.tlv.now) c.in-Err.ensures.at_item, sym (append-nil c.args.list.now.items))
