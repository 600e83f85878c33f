use Rattle.name_index.proofs.Tables.{text_no_fault}
use Rattle.name_index.proofs.table.read_valid_string.Goals as goal

pub unreachable-requires : goal.unreachable-requires
unreachable-requires c =
    text_no_fault c.args.bytes.now c.requires.1 c.requires.0 c.new.result.place c.in-Err.field-0 c.requires.2 (rw (← c.new.ensures.rest) c.in-Err.ensures.error)
