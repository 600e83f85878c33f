use Rattle.name_index.proofs.Tables.{key_there, text_begins}
use Rattle.name_index.proofs.index.NameIndexEntries.key_at.Goals as goal

pub read_valid_string-requires : goal.read_valid_string-requires
read_valid_string-requires c = text_begins c.args.self.now c.args.index c.bytes_from.result.now c.bytes_from.ensures

pub returns : goal.returns
returns c =
    key_there c.args.self.now c.args.index c.bytes_from.result.now c.bytes_from.ensures
    c.read_valid_string.result.0.now c.read_valid_string.result.1.now c.read_valid_string.ensures
