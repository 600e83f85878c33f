use Rattle.litemap_json.proofs.Printed.{unread}
use Rattle.litemap_json.proofs.whole.printed.Goals as goal

pub returns-in_default : goal.returns-in_default
returns-in_default c = unread c.args.text.now c.parse.result c.parse.ensures.value.0 c.in_default.not-Ok
