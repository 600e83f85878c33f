use Rattle.litemap_short.proofs.short_store.ShortStoreStore.lm_binary_search_by.Goals as goal

pub lm_binary_search_by-requires : goal.lm_binary_search_by-requires
lm_binary_search_by-requires g c = rw (c.new.ensures, c.as_slice.ensures) (rw (← c.self.view_is) at c.requires)

pub returns-clause-found : goal.returns-clause-found
returns-clause-found g c = rw (← c.self.view_is) (rw (c.new.ensures, c.as_slice.ensures) at c.lm_binary_search_by.ensures.found)

pub returns-clause-cost : goal.returns-clause-cost
returns-clause-cost g c = rw (← c.self.view_is) (rw (c.new.ensures, c.as_slice.ensures) at c.lm_binary_search_by.ensures.cost)

pub returns-clause-within : goal.returns-clause-within
returns-clause-within g c = rw (← c.self.view_is) (rw (c.new.ensures, c.as_slice.ensures) at c.lm_binary_search_by.ensures.within)
