use Rattle.example_store.proofs.fixed_room.FixedRoomStoreBulkMut.lm_retain.Goals as goal

pub lm_retain-requires : goal.lm_retain-requires
lm_retain-requires g c = rw (← c.self.view_is) at c.requires

pub returns-clause-kept : goal.returns-clause-kept
returns-clause-kept g c = rw (← c.self.view_is) c.lm_retain.ensures.kept
