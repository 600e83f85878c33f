use Rattle.name_index.proofs.Tables.{written}
use Rattle.name_index.proofs.laws.written_is_opened.Goals as goal

pub returns : goal.returns
returns c = written
