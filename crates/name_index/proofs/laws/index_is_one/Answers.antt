use Rattle.name_index.proofs.AtIndex.{index_unique}
use Rattle.name_index.proofs.laws.index_is_one.Goals as goal

pub returns : goal.returns
returns c = index_unique
