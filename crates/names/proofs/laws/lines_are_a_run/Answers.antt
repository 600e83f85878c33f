use Rattle.std.proofs.Common.{List, ℕ, [], ◌∷◌, inl, inr, refl, subst}
use Rattle.litemap_store.specs.Pairs.{index_of, value_at}
use Rattle.litemap_read.specs.Steps.{Run, Step}
use Rattle.litemap_read.specs.declared.calls.Answer.{Answer}
use Rattle.litemap_read.specs.declared.calls.Answer.TheVariants.{Place, Value}
use Rattle.names_core.specs.Told.{Replies, Nothing, Obeys, ShowsAll, ShowsJson, TextMap}
use Rattle.litemap_store.specs.Queries.{bytes_cmp}
use Rattle.names_core.specs.declared.line.Command.{Command}
use Rattle.names_core.specs.declared.line.Command.TheVariants.{Del, Find, Get, Put}
use Rattle.names.specs.Laws.{LinesAreARun, call_of}
use Rattle.names.proofs.laws.lines_are_a_run.Goals as goal

step : (old next : TextMap) (text : List ℕ) (command : Command) → Replies old command text next
    → (answer : Answer (List ℕ) (List ℕ)) × Step bytes_cmp old (call_of command) answer next
step old next text (Put k v) (told, (puts, room, kept)) = (Value (value_at bytes_cmp old.entries k.now), inl (refl, (puts, room), kept))
step old next text (Get k) (told, same) = (Value (value_at bytes_cmp old.entries k.now), inl (refl, same))
step old next text (Del k) (told, cuts, kept) = (Value (value_at bytes_cmp old.entries k.now), inl (refl, cuts, kept))
step old next text (Find k) (told, same) = (Place (index_of bytes_cmp old.entries k.now), inl (refl, same))

each_step : LinesAreARun
each_step start end [] text (_, same) = ([], [], refl, same)
each_step start end (said ∷ more) text (first, rest, next, does, each, joined) =
    let (calls, answers, spell, run) = each_step next end more rest each in
    elim does [
      | Nothing empty wrote same ↦ (calls, answers, inl (inl empty, spell), subst (λ (m : TextMap). Run bytes_cmp m calls answers end) same run)
      | ShowsAll all wrote same ↦ (calls, answers, inl (inr (inl all), spell), subst (λ (m : TextMap). Run bytes_cmp m calls answers end) same run)
      | ShowsJson json wrote same ↦ (calls, answers, inl (inr (inr json), spell), subst (λ (m : TextMap). Run bytes_cmp m calls answers end) same run)
      | Obeys command spells done ↦
          let (answer, done) = step start next first command done in
          (call_of command ∷ calls, answer ∷ answers, inr (command, calls, spells, refl, spell), (next, done, run))
    ]

pub returns : goal.returns
returns c = each_step
