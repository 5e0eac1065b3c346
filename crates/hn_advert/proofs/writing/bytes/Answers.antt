use Rattle.hn_base.proofs.Names.{◌≡◌, ◌<◌, ◌≤◌, length, get_or, List, ap, ◌∙◌}
use Rattle.hn_advert.proofs.Names.{Info}
use Rattle.hn_advert.proofs.Written.{writes_more, all_written}
use Rattle.hn_advert.proofs.writing.bytes.Goals as goal

pub loop-info-preserved : goal.loop-info-preserved
loop-info-preserved c =
    let advert = c.args.advert.now in
    let i = c.loop-info.info-index in
    let info : Info = c.info-item.result in
    let infos = c.as_slice-info-items.ensures in
    let here : i < length advert.infos = rw infos at c.loop-info-test.true in
    let is : info ≡ get_or advert.infos i info = c.info-item.is ∙ ap (λ (xs : List Info). get_or xs i info) infos in
    writes_more c.loop-info.out.items c.push_option.new.out.items advert i info c.loop-info.invariant here is c.in_ok-push_option.ensures.in_range c.in_ok-push_option.ensures.written

pub returns-clause-read_back : goal.returns-clause-read_back
returns-clause-read_back c =
    let advert = c.args.advert.now in
    let i = c.loop-info.info-index in
    let infos = c.as_slice-info-items.ensures in
    let ends : length advert.infos ≤ i = rw infos at c.loop-info-test.false in
    rw c.from.ensures ((all_written c.loop-info.out.items advert i c.loop-info.invariant ends c.in_ok-push_header.ensures.in_range).1)
