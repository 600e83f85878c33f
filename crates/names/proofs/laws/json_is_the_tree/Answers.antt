use Rattle.std.proofs.Common.{sym, subst}
use Rattle.names.proofs.Rises.{TextsRise, lines_rise}
use Rattle.names.proofs.Trees.{json_text-tree}
use Rattle.names.proofs.laws.json_is_the_tree.Goals as goal

pub returns : goal.returns
returns c = λ start end said text empty each. json_text-tree end.entries (lines_rise start end said text (subst TextsRise (sym empty) tt) each)
