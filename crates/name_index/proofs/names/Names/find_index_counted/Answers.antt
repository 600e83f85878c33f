use Rattle.litemap_store.proofs.Search.Splitting.{index_of-from_Splits}
use Rattle.name_index.specs.{text_order}
use Rattle.name_index.proofs.names.Names.find_index_counted.Goals as goal

pub returns-clause-index : goal.returns-clause-index
returns-clause-index g c = index_of-from_Splits text_order _ c.args.key.now c.search.result c.search.ensures.splits
