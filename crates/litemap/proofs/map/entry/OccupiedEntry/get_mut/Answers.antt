use Rattle.litemap.proofs.Common.{refl}
use Rattle.litemap.proofs.Entries.{same_entry, written}
use Rattle.litemap.proofs.map.entry.OccupiedEntry.get_mut.Goals as goal

pub returns : goal.returns
returns g c = (
  (refl, λ w. same_entry c.args.self.now w _),
  record { writes_back = tt; value = c.value_in_mut.ensures.value; written = written c.args.self.now },
)
