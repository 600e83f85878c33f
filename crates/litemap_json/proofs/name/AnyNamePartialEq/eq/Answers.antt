use Rattle.std.proofs.Common.{sym}
use Rattle.std.specs.Cmp.Lexicographic.{texts_ties}
use Rattle.litemap_json.specs.Written.{name_bytes}
use Rattle.litemap_json.proofs.name.AnyNamePartialEq.eq.Goals as goal

pub returns : goal.returns
returns c = rw (c.is_eq.ensures, c.cmp.ensures) (sym (texts_ties (name_bytes c.args.self.now) (name_bytes c.args.other.now)))
