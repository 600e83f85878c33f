-- The law over runs of calls, which the function of the module `laws` has as its contract.
use Rattle.std.specs.Prelude.{◌≡◌, List, Option}
use Rattle.std.specs.declared.cmp.Ordering.{Ordering}
use Rattle.litemap_store.specs.Contents.{Contents}
use Rattle.litemap_store.specs.Last.{In}
use Rattle.litemap_read.specs.Steps.{Run}
use Rattle.litemap_read.specs.declared.calls.Answer.{Answer}
use Rattle.litemap_read.specs.declared.calls.Answer.TheVariants.{NoRoom}
use Rattle.litemap_read.specs.declared.calls.Call.{Call}

module _ {K : Type 0} (cmp : K → K → Ordering) (V A : Type 0) where
  -- two maps with the same list, whatever their stores, return the same from the same calls, and end with the same list, if no
  -- call fails because memory runs out
  abbrev pub SameResults : Type 0
  SameResults = (start₁ start₂ end₁ end₂ : Contents K V) (calls : List (Call K V A)) (answers₁ answers₂ : List (Answer K V))
      → start₁.entries ≡ start₂.entries → Run cmp start₁ calls answers₁ end₁ → Run cmp start₂ calls answers₂ end₂
      → ((back : Option (K × V)) → ¬ In (NoRoom back) answers₁ × ¬ In (NoRoom back) answers₂)
      → (answers₁ ≡ answers₂) × (end₁.entries ≡ end₂.entries)
