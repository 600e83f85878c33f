use Rattle.name_index.proofs.index.NameIndexEntries.number.Goals as goal

pub returns-clause-rises : goal.returns-clause-rises
returns-clause-rises c = rw (← c.self.view_is) c.self.invariant.rises
