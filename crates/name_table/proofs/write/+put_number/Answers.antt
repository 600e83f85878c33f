use Rattle.std.proofs.lemmas.Result.{on_ok_weaker}
use Rattle.name_table.proofs.Writing.{number_more}
use Rattle.name_table.proofs.write.+put_number.Goals as goal

pub returns : goal.returns
returns t c = on_ok_weaker c.put_number.result
    (number_more c.args.bytes.now.items c.push-2.new.self.items c.put_number.new.bytes.items c.args.number c.if-number-lt-BASE.false
    c.in_ok-push-2.ensures.items) c.put_number.ensures
