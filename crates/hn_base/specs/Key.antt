use Rattle.std.specs.Prelude.{◌≡◌}
use Rattle.std.specs.declared.cmp.Ordering.{Ordering}
use Rattle.std.specs.declared.cmp.Ordering.TheVariants.{Less}
use Rattle.std.specs.Ordering.{on, then_cmp, nat_cmp}
use Rattle.hn_base.specs.declared.key.Key.{Key}

-- keys in order: by their priority, then their node, then their endpoint
abbrev pub key_cmp : Key → Key → Ordering
key_cmp = then_cmp (on (λ k. k.priority) nat_cmp) (then_cmp (on (λ k. k.node.0) nat_cmp) (on (λ k. k.endpoint.0) nat_cmp))

-- the first key is greater than the second
abbrev pub IsAbove : Key → Key → Type 0
IsAbove k other = key_cmp other k ≡ Less
