use Rattle.litemap.proofs.Common.{refl}
use Rattle.litemap.proofs.map.LiteMap.get_mut_by.Goals as goal

pub returns-in-Ok : goal.returns-in-Ok
returns-in-Ok g c = (
  (refl, λ w. (c.in-Ok.index, c.in-Ok.ensures.found, c.value_in_mut.ensures.value, refl), tt),
  record {
    writes_back = tt;
    found = (c.in-Ok.index, c.in-Ok.ensures.found, c.value_in_mut.ensures.value);
    none = tt;
  },
)
