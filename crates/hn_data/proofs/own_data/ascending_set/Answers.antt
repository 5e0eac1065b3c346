use Rattle.hn_base.proofs.Names.{map, ap, ◌∙◌, concat}
use Rattle.hn_data.proofs.own_data.ascending_set.Goals as goal

pub returns : goal.returns
returns c = record {
  ascending = map (λ p. p.now) c.in_ok-sorted.sorted.items;
  in_order = c.in_ok-sorted.ensures.ascending;
  same = c.in_ok-sorted.ensures.same;
  joined = c.from.ensures ∙ c.in_ok-joined.ensures ∙ ap (λ ps. concat (map (λ p. p.now) ps)) c.as_slice.ensures.value;
}
