use Rattle.hn_world.proofs.parts.Parts.empty.Goals as goal

pub returns : goal.returns
returns c = λ i. record {
  version = c.args.version;
  moment = c.new.ensures i;
  links = c.new-2.ensures i;
  members = c.new-3.ensures i;
  copies = c.new-4.ensures i;
  published = c.new-5.ensures i;
  trace = c.new-6.ensures i;
}
