use Rattle.std.proofs.Common.{Some, refl, ℕ, Bool, pos}
use Rattle.serde_json.specs.Data.{boolean}
use Rattle.serde_json.specs.View.{view}
use Rattle.litemap_json.specs.Item.{bool_text, whole_json}
use Rattle.litemap_json.proofs.Floats.{tree_no_float}
use Rattle.names.proofs.flags.flags_text.Goals as goal

pub returns-in-Ok-to_string-clause-text : goal.returns-in-Ok-to_string-clause-text
returns-in-Ok-to_string-clause-text c =
    let value = view c.in-Ok.value in
    let made = c.in-Ok.ensures.tree in
    let whole = tree_no_float (λ (b : Bool). Some (bool_text b)) boolean (λ (n : ℕ). whole_json (pos n)) (λ b. refl)
    (λ n. refl) c.args.flags.now.entries value made in
    (value, made, c.in-Ok-to_string.ensures.text whole)
