use Rattle.std.proofs.Common.{◌≡◌, ℕ, ◌<◌, length, suc}
use Rattle.litemap_json.specs.Parse.{all_turns, found_after, turn}
use Rattle.litemap_json.specs.Reading.{seen}
use Rattle.litemap_json.proofs.parse.all_pairs.Given as goal

abbrev pub invariant-pairs : goal.invariant-pairs
invariant-pairs g l = (n : ℕ) × (length l.reader < n)
    × (all_turns (turn g.K.JsonKey.key g.K.JsonItem.item g.V.JsonItem.item l.fn.in_object) 0 (suc (length l.initial.reader)) l.initial.reader
    ≡ found_after (seen g.K.JsonItem.json g.V.JsonItem.json l.found.items)
    (all_turns (turn g.K.JsonKey.key g.K.JsonItem.item g.V.JsonItem.item l.fn.in_object) (length l.found.items) n l.reader))

abbrev pub decreases-pairs : goal.decreases-pairs
decreases-pairs g l = length l.reader
