use Rattle.name_table.proofs.Writing.{appends_number}
use Rattle.name_table.proofs.write.put_length.Goals as goal

pub returns-clause-ok : goal.returns-clause-ok
returns-clause-ok c = appends_number c.args.bytes.now.items c.put_number.new.bytes.items c.args.size c.if-size-ge-NUMBER_LIMIT.false c.in_ok-put_number.ensures
