use Rattle.hn_base.proofs.Names.{◌≡◌, sym, suc, arith, ◌==◌, list_any}
use Rattle.hn_io.proofs.CountedFaults.{caused}
use Rattle.hn_io.proofs.memory.Calls.fails_now.Goals as goal

pub returns-in-Some-clause-caused : goal.returns-in-Some-clause-caused
returns-in-Some-clause-caused c =
    let made = c.self.inside.made in
    let fails = c.self.inside.fails.items in
    let number_is : c.in-Some.number ≡ suc made = omega (arith, c.in-Some.ensures.1) in
    let listed : list_any (λ number. number == suc made) fails ≡ c.contains.result =
    rw (← number_is, ← c.deref.ensures.value) (sym c.contains.ensures.value)
    in
    rw (← c.self.view_is, number_is) (caused fails made c.contains.result listed (omega arith))
