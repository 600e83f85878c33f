-- Trees that have elements or members.
use Rattle.std.proofs.Common.{◌<◌, List, [], ◌∷◌, length, arith}
use Rattle.std.specs.Prelude.{String}
use Rattle.std.specs.declared.alloc.Global.{Global}
use Rattle.serde_json.specs.Data.{array, object}
use Rattle.serde_json.specs.View.{items_view, members_view}
use Rattle.serde_json.specs.declared.value.Value.{Value}
use Rattle.litemap_json.specs.Json.{HasElements}

pub elements_some : (L : List Value) → 0 < length L → HasElements (array (items_view L))
elements_some [] some = absurd (omega (arith, some))
elements_some (x ∷ L) some = tt

pub members_some : (L : List (String Global × Value)) → 0 < length L → HasElements (object (members_view L))
members_some [] some = absurd (omega (arith, some))
members_some (x ∷ L) some = tt
