-- the tokens so far and those that are left are all, and these can be written
use Rattle.std.proofs.Common.{◌≡◌, ◌++◌, length}
use Rattle.json.specs.Lex.{tokens}
use Rattle.json.specs.Print.{ArePrintable}
use Rattle.litemap_json.proofs.written.write_tokens.Given as goal

abbrev pub invariant-loop-token : goal.invariant-loop-token
invariant-loop-token l = (l.out.before ≡ l.fn.out.before) × (l.out.tokens ++ l.reader ≡ l.fn.out.tokens ++ tokens l.text) × ArePrintable l.reader

abbrev pub decreases-loop-token : goal.decreases-loop-token
decreases-loop-token l = length l.reader
