use Rattle.name_table.specs.Parts.{text_parts}
use Rattle.name_table.specs.ReadOn.{begins_then}
use Rattle.name_table.proofs.PartLemmas.{begins_split}
use Rattle.name_index.proofs.Tables.{text_next}
use Rattle.name_index.proofs.table.read_valid_pair.Goals as goal

pub read_valid_string-requires : goal.read_valid_string-requires
read_valid_string-requires c =
    let d = begins_split c.args.bytes.now c.requires.1 (text_parts c.requires.0.0) (text_parts c.requires.0.1) c.requires.2 in
    (c.requires.0.0, d.0, d.1)

pub read_valid_string-requires-2 : goal.read_valid_string-requires-2
read_valid_string-requires-2 c =
    let n = text_next c.args.bytes.now c.requires.1 c.read_valid_string.result.1.now c.read_valid_string.result.0.now c.requires.0.0
    (text_parts c.requires.0.1) c.requires.2 c.read_valid_string.ensures in
    (c.requires.0.1, c.requires.1, n.1)

pub returns : goal.returns
returns c =
    begins_then c.args.bytes.now c.read_valid_string.result.1.now c.read_valid_string-2.result.1.now (text_parts c.read_valid_string.result.0.now)
    (text_parts c.read_valid_string-2.result.0.now) c.read_valid_string.ensures c.read_valid_string-2.ensures
