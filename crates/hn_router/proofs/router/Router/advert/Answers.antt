use Rattle.hn_base.proofs.Names.{◌≡◌, IfOk-weaker}
use Rattle.hn_router.proofs.Names.{advert_bytes, IsAdvertBytes}
use Rattle.hn_router.proofs.router.Router.advert.Goals as goal

pub returns : goal.returns
returns c =
    let advert = c.in_ok-advertisement.field-0 in
    IfOk-weaker c.bytes.result (λ bytes. bytes ≡ advert_bytes advert) (IsAdvertBytes c.args.self.now c.args.e) (λ bytes is. (advert, c.in_ok-advertisement.ensures, is)) c.bytes.ensures.written
