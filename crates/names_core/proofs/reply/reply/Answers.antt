use Rattle.names_core.specs.Told.{Obeys}
use Rattle.names_core.proofs.reply.reply.Goals as goal

pub returns-in_ok-obey-in-Some : goal.returns-in_ok-obey-in-Some
returns-in_ok-obey-in-Some g c = Obeys c.in-Some.command c.in-Some.ensures c.in_ok-obey-in-Some.ensures
