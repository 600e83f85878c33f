use Rattle.std.proofs.Common.{sym, ◌∙◌, arith}
use Rattle.name_table.proofs.name_bytes.NameBytes.new.Goals as goal

pub returns-clause-ok : goal.returns-clause-ok
returns-clause-ok c =
    let b = c.in_ok-left.ensures.ok in
    record {
      spelled = record { front = b.spelled.front; split = sym c.new.ensures.rest ∙ b.spelled.split; spelled = b.spelled.spelled };
      place = omega (arith, b.place, c.new.ensures.place);
    }
