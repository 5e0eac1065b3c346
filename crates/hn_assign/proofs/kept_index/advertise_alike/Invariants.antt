use Rattle.std.proofs.Common.{ℕ, ◌<◌, get_or}
use Rattle.hn_data.specs.declared.view.Entry.{Entry}
use Rattle.hn_assign.specs.Alike.{AdvertisesAs}
use Rattle.hn_assign.proofs.kept_index.advertise_alike.Given as goal

abbrev pub invariant-loop-place : goal.invariant-loop-place
invariant-loop-place l = (k : ℕ) (d : Entry) → k < l.place → AdvertisesAs (get_or l.before k d) (get_or l.after k d)
