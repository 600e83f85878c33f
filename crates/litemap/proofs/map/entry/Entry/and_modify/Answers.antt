use Rattle.litemap.proofs.Common.{refl}
use Rattle.litemap.proofs.map.entry.Entry.and_modify.Goals as goal

pub returns-in-Occupied-clause-update : goal.returns-in-Occupied-clause-update
returns-in-Occupied-clause-update g c =
    rw (c.in-Occupied.is, (c.get_mut.ensures.written c.f.new.arg2).value, c.get_mut.ensures.value)
    (record {
      lent = c.get_mut.result;
      result = c.f.result;
      left = record c.get_mut.result { now = c.f.new.arg2 };
      before = refl;
      met = c.f.ensures;
      after = refl;
    })
