use Rattle.std.proofs.Common.{rules}
use Rattle.names_core.proofs.program.run_with.Goals as goal

pub returns-in-Whole : goal.returns-in-Whole
returns-in-Whole g c = record {
  run = record {
    faults = search rules;
    told = λ fine.
        let (out, told, tells, ends) = c.answer_lines.ensures.told in
        (c.read_input-ending.new.input.items, out, told, search rules, rw c.deref.ensures.value at tells, ends, search rules);
    read_fault = search rules;
    reader_stops = search rules;
    writer_stops = search rules;
    reads_come_first = search rules;
  };
}
