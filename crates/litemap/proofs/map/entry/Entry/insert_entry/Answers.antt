use Rattle.litemap.proofs.Entries.{inserted}
use Rattle.litemap.proofs.map.entry.Entry.insert_entry.Goals as goal

pub returns-in-Occupied-clause-inserted : goal.returns-in-Occupied-clause-inserted
returns-in-Occupied-clause-inserted g c =
    rw c.in-Occupied.is (inserted c.in-Occupied.entry c.args.value c.insert.new.self c.insert.ensures.written)
