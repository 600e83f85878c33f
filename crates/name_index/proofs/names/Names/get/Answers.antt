use Rattle.std.proofs.Common.{sym}
use Rattle.name_table.specs.Positions.{shown}
use Rattle.name_index.proofs.AtIndex.{value_at_none, value_at_split}
use Rattle.name_index.proofs.names.Names.get.Goals as goal

pub returns-in-Ok : goal.returns-in-Ok
returns-in-Ok g c = sym (value_at_split _ c.args.key.now c.in-Ok.index (shown c.entry_at.result) c.in-Ok.ensures.splits c.entry_at.ensures)

pub returns-in-Err : goal.returns-in-Err
returns-in-Err g c = sym (value_at_none _ c.args.key.now c.in-Err.field-0 c.in-Err.ensures.splits)
