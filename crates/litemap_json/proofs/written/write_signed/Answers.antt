use Rattle.litemap_json.proofs.Tokens.{kept_signed}
use Rattle.litemap_json.proofs.written.write_signed.Goals as goal

pub returns-clause-kept : goal.returns-clause-kept
returns-clause-kept c = kept_signed c.args.number c.ranges.number
