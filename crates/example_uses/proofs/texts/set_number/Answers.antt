use Rattle.litemap.proofs.Texts.{text_write_others}
use Rattle.example_uses.proofs.texts.set_number.Goals as goal

pub returns-in-Some-clause-others : goal.returns-in-Some-clause-others
returns-in-Some-clause-others c = λ other apart. text_write_others c.args.map.now.entries c.args.name.now other c.args.number apart
