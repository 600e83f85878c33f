use Rattle.std.proofs.Common.{◌≡◌, ◌+◌, length}
use Rattle.serde_json.specs.View.{members_view}
use Rattle.litemap_json.specs.Json.{member_pairs}
use Rattle.litemap_json.specs.Reading.{after, seen}
use Rattle.litemap_json.proofs.read.read_members.Given as goal

abbrev pub invariant-loop-name : goal.invariant-loop-name
invariant-loop-name g l = (l.place + length l.name-iterator ≡ l._count)
    × (member_pairs g.K.JsonKey.key g.K.JsonItem.item g.V.JsonItem.item 0 (members_view l.members.entries)
    ≡ after (seen g.K.JsonItem.json g.V.JsonItem.json l.found.items)
    (member_pairs g.K.JsonKey.key g.K.JsonItem.item g.V.JsonItem.item l.place (members_view l.name-iterator)))
