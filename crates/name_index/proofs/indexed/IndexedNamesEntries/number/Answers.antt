use Rattle.name_index.proofs.indexed.IndexedNamesEntries.number.Goals as goal

pub returns-clause-rises : goal.returns-clause-rises
returns-clause-rises c = rw (← c.self.view_is) c.self.invariant.1.rises
