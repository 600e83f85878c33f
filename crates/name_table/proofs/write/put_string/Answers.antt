use Rattle.std.proofs.Common.{◌++◌, ap, ◌∙◌}
use Rattle.name_table.proofs.Writing.{appends_text}
use Rattle.name_table.proofs.write.put_string.Goals as goal

pub returns-clause-ok : goal.returns-clause-ok
returns-clause-ok c =
    appends_text c.args.bytes.now.items c.put_length.new.bytes.items c.extend_from_slice.new.self.items c.args.text.now c.in_ok-put_length.ensures.ok
    (c.in_ok-extend_from_slice.ensures.items ∙ ap (λ t. c.put_length.new.bytes.items ++ t) c.as_bytes.ensures.value) c.utf8.text
