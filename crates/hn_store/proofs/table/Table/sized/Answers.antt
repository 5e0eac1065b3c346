use Rattle.hn_base.proofs.Names.{ℕ, List, sym, subst}
use Rattle.hn_store.proofs.Names.{HeldNode, IsTable, AreAgesUndueBefore}
use Rattle.hn_store.proofs.AgesOfNodes.{ages_none}
use Rattle.hn_store.proofs.TableStays.{IsTable-none}
use Rattle.hn_store.proofs.table.Table.sized.Goals as goal

pub invariant_of-result : goal.invariant_of-result
invariant_of-result c =
    let latest : ℕ = 18446744073709551615 in
    subst (λ (entries : List HeldNode). IsTable (record { limit = c.args.limit; entries = entries }) × AreAgesUndueBefore latest entries)
    (sym c.new.ensures.items) (IsTable-none c.args.limit c.requires, ages_none latest)
