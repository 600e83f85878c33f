use Rattle.std.proofs.Common.{subst, sym}
use Rattle.litemap_store.specs.Search.{CallableOnKeys, Found}
use Rattle.litemap_columns.proofs.column_store.ColumnStoreStore.lm_binary_search_by.Goals as goal

pub find-requires : goal.find-requires
find-requires g c = subst (λ L. CallableOnKeys g.F.FnMut L c.args.f) (sym c.lm_iter.ensures) c.requires

pub returns-clause-found : goal.returns-clause-found
returns-clause-found g c = subst (λ L. Found g.F.FnMut L c.args.f c.find.result) c.lm_iter.ensures c.find.ensures.found
