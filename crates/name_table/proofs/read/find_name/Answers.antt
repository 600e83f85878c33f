use Rattle.name_table.proofs.read.find_name.Goals as goal

pub returns-in-Some-clause-found : goal.returns-in-Some-clause-found
returns-in-Some-clause-found c =
    let g = rw (c.in-Some.is, c.as_sliced.ensures) at c.const_get_with_index.ensures in
    record { pairs = _; size = _; read = c.in_ok-map.ensures.read; value = g.value; index = g.place }

pub returns-clause-found : goal.returns-clause-found
returns-clause-found c =
    let g = rw (c.in-None.is, c.as_sliced.ensures) at c.const_get_with_index.ensures in
    record { pairs = _; size = _; read = c.in_ok-map.ensures.read; value = g.value; index = tt }
