use Rattle.std.proofs.Common.{◌≡◌, List, ◌∷◌, arith}
use Rattle.std.proofs.lemmas.Grind.{common_steps}
use Rattle.json.specs.Print.{ArePrintable, IsPrintable}
use Rattle.json.specs.Token.{Token}
use Rattle.litemap_json.proofs.written.write_tokens.Goals as goal

first_and_rest : (t : Token) (old new : List Token) → old ≡ t ∷ new → ArePrintable old → IsPrintable t × ArePrintable new
unfolding ArePrintable
first_and_rest t old new e h = rw e at h

pub token-requires : goal.token-requires
token-requires c = (first_and_rest _ _ _ c.in-Some.ensures.value c.loop-token.invariant.2).0

pub loop-token-preserved : goal.loop-token-preserved
loop-token-preserved c = grind (arith, common_steps, first_and_rest _ _ _ c.in-Some.ensures.value c.loop-token.invariant.2)
