use Rattle.litemap_short.proofs.short_store.ShortStoreStoreFromIterator.lm_from_pairs.Goals as goal

pub returns-clause-made : goal.returns-clause-made
returns-clause-made g c = rw c.from_vec-storage.ensures c.in_ok-lm_from_pairs.ensures.made
