use Rattle.hn_router.proofs.router.Router.advertisement.Goals as goal

pub returns : goal.returns
returns c =
    let managed = c.in_ok-managed.ensures in
    record {
      who = managed.0;
      is_elected = managed.1;
      managed = managed.2;
      other = managed.2;
      lifetime = c.lifetime.ensures;
      infos = c.in_ok-infos.ensures;
    }
