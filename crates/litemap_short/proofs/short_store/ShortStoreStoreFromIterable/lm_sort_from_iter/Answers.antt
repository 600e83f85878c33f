use Rattle.litemap_short.proofs.short_store.ShortStoreStoreFromIterable.lm_sort_from_iter.Goals as goal

pub returns-clause-made : goal.returns-clause-made
returns-clause-made g c = rw c.from_vec-storage.ensures c.in_ok-lm_sort_from_iter.ensures.made
