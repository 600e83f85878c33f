use Rattle.name_table.proofs.EachRead.{table_read}
use Rattle.name_table.proofs.laws.each_is_read.Goals as goal

pub returns : goal.returns
returns c = table_read
