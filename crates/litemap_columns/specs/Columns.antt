-- What a contract sees of a store of two columns, a vector of keys and one of values.
use Rattle.std.specs.Prelude.{Vec, min}
use Rattle.std.specs.List.{zip}
use Rattle.litemap_store.specs.Contents.{Contents}
use Rattle.litemap_store.specs.VecStore.{vec_room}

-- each key beside its value, and the smaller room of the two vectors
abbrev pub columns : {K V Y Z : Type 0} → Vec K Y → Vec V Z → Contents K V
columns keys values = record { entries = zip keys.items values.items; room = min (vec_room keys) (vec_room values) }
