use Rattle.hn_base.proofs.Names.{refl}
use Rattle.hn_watch.proofs.Names.{number_of}
use Rattle.hn_watch.proofs.remembered.Remembered.make_place.Goals as goal

pub returns-in_err-make_place-clause-same : goal.returns-in_err-make_place-clause-same
returns-in_err-make_place-clause-same c = record {
  claims = λ node number. c.make_place.ensures.same (record { node = node; number = number });
  kept = λ node. refl;
}

pub returns-in_err-make_place-clause-stays : goal.returns-in_err-make_place-clause-stays
returns-in_err-make_place-clause-stays c one room = record {
  claim = c.make_place.ensures.stays (number_of one) room.claim;
  kept = room.kept;
}

pub returns-clause-same : goal.returns-clause-same
returns-clause-same c = record {
  claims = λ node number. c.make_place.ensures.same (record { node = node; number = number });
  kept = λ node. c.make_place-2.ensures.same node;
}

pub returns-clause-stays : goal.returns-clause-stays
returns-clause-stays c one room = record {
  claim = c.make_place.ensures.stays (number_of one) room.claim;
  kept = c.make_place-2.ensures.stays one.node room.kept;
}
