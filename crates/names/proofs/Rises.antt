-- Lines leave a map whose keys ascend.
use Rattle.std.proofs.Common.{◌≡◌, List, [], ◌∷◌, ℕ, sym, subst}
use Rattle.std.specs.Cmp.Lexicographic.{nat_list_cmp_total}
use Rattle.litemap_store.specs.Pairs.{Rising}
use Rattle.litemap_store.proofs.Search.Splitting.{Rising-put}
use Rattle.litemap_store.proofs.Callers.Lookups.{Rising-cut}
use Rattle.names_core.specs.Told.{Replies, Does, DoesEach, Nothing, Obeys, ShowsAll, ShowsJson, TextMap}
use Rattle.litemap_store.specs.Queries.{bytes_cmp}
use Rattle.names_core.specs.declared.line.Command.{Command}
use Rattle.names_core.specs.declared.line.Command.TheVariants.{Del, Find, Get, Put}

-- the strings ascend by their bytes
abbrev pub TextsRise : List (List ℕ × List ℕ) → Type 0
TextsRise L = Rising bytes_cmp L

module _ (old next : TextMap) (said text : List ℕ) (rises : TextsRise old.entries) where
  same_rises : next ≡ old → TextsRise next.entries
  same_rises e = subst (λ (m : TextMap). TextsRise m.entries) (sym e) rises

  command_rises : (command : Command) → Replies old command text next → TextsRise next.entries
  command_rises (Put k v) (told, (puts, room, kept)) = subst TextsRise (sym puts) (Rising-put nat_list_cmp_total old.entries k.now v.now rises)
  command_rises (Get k) (told, same) = same_rises same
  command_rises (Del k) (told, cuts, kept) = subst TextsRise (sym cuts) (Rising-cut nat_list_cmp_total old.entries k.now rises)
  command_rises (Find k) (told, same) = same_rises same

  line_rises : Does old said text next → TextsRise next.entries
  line_rises does = elim does [
    | Nothing empty wrote same ↦ same_rises same
    | ShowsAll all wrote same ↦ same_rises same
    | ShowsJson json wrote same ↦ same_rises same
    | Obeys command spells answers ↦ command_rises command answers
  ]

pub lines_rise : (start end : TextMap) (said : List (List ℕ)) (text : List ℕ) → TextsRise start.entries → DoesEach start said text end → TextsRise end.entries
lines_rise start end [] text rises (none, same) = subst (λ (m : TextMap). TextsRise m.entries) (sym same) rises
lines_rise start end (said ∷ more) text rises (first, rest, next, does, each, joined) =
    lines_rise next end more rest (line_rises start next said first rises does) each
