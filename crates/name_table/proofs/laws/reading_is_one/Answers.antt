use Rattle.name_table.specs.{table_parts}
use Rattle.name_table.proofs.OneReading.{agree_tables, fault_unique, table_no_fault, table_unique}
use Rattle.name_table.proofs.laws.reading_is_one.Goals as goal

pub returns-clause-table : goal.returns-clause-table
returns-clause-table c = table_unique

pub returns-clause-no_fault : goal.returns-clause-no_fault
returns-clause-no_fault c = table_no_fault

pub returns-clause-error : goal.returns-clause-error
returns-clause-error c = λ bytes J K f g p q. fault_unique (table_parts J) (table_parts K) bytes 0 f g (agree_tables J K) p q
