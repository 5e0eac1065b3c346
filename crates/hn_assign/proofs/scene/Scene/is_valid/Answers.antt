use Rattle.hn_base.proofs.Names.{◌↔◌, IsTrue, subst}
use Rattle.hn_assign.proofs.Names.{LinkEndpoints, IsValid}
use Rattle.hn_assign.proofs.scene.Scene.is_valid.Goals as goal

pub returns : goal.returns
returns c =
    let at = c.args.self.now in
    subst (λ (link : LinkEndpoints). IsTrue c.valid.result ↔ IsValid at.known.now at.own.0 link c.args.c.now) c.as_slice.ensures c.valid.ensures
