use Rattle.std.proofs.Common.{rules, ◌≡◌, sym, ◌∙◌, length}
use Rattle.serde_json.specs.View.{view}
use Rattle.litemap_json.proofs.ArraysOfTwo.{no_array, not_two}
use Rattle.litemap_json.proofs.pairs.two_items.Goals as goal
use Rattle.litemap_json.proofs.pairs.two_items.Goals.{in_default-via-in-Some+else-len-eq2, in_default-via-in_default}

pub returns-in_default : goal.returns-in_default
returns-in_default c =
    elim c.in_default.branch [
      | in_default-via-in-Some+else-len-eq2 w ↦
          (let items = w.in-Some.parts.now.items in
          let counted : w.len.result ≡ length items = search rules in
          not_two (view c.args.value.now) items (sym w.in-Some.ensures) (λ e. w.if-len-eq2.false (counted ∙ e)))
      | in_default-via-in_default w ↦ no_array (view c.args.value.now) (sym w.in_default.ensures)
    ]
