use Rattle.name_table.proofs.Writing.{appends_then}
use Rattle.name_table.specs.{text_parts}
use Rattle.name_table.proofs.write.put_pair.Goals as goal

pub returns-clause-ok : goal.returns-clause-ok
returns-clause-ok c =
    appends_then c.args.bytes.now.items c.put_string.new.bytes.items c.put_string-2.new.bytes.items (text_parts c.args.pair.now.0.now)
    (text_parts c.args.pair.now.1.now) c.in_ok-put_string.ensures.ok c.in_ok-put_string-2.ensures.ok
