use Rattle.std.proofs.Common.{◌≡◌, length, ap, sym, ◌∙◌, arith}
use Rattle.std.specs.List.{zip}
use Rattle.litemap_columns.proofs.Columns.{length-zip_same, same_length, zip-joined}
use Rattle.litemap_columns.proofs.column_store.ColumnStoreStoreIntoIterator.lm_extend_end.Goals as goal

pub returns-in_default-clause-full : goal.returns-in_default-clause-full
returns-in_default-clause-full g c =
    let keys = c.other.inside.keys in
    let values = c.other.inside.values in
    let list : zip keys.items values.items ≡ c.args.other.entries = ap (λ s. s.entries) c.other.view_is in
    let long : length c.args.other.entries ≡ length keys.items =
    sym (ap length list) ∙ length-zip_same keys.items values.items (same_length keys values c.other.invariant) in
    omega (arith, long, c.in_default.ensures.full, c.len.ensures, keys.ok.0)

pub returns-clause-ok : goal.returns-clause-ok
returns-clause-ok g c =
    let keys = c.self.inside.keys in
    let values = c.self.inside.values in
    let new_keys = c.other.inside.keys in
    let new_values = c.other.inside.values in
    let list : zip keys.items values.items ≡ c.args.self.now.entries = ap (λ s. s.entries) c.self.view_is ∙ c.lm_reserve.ensures.pairs in
    let new_list : zip new_keys.items new_values.items ≡ c.args.other.entries = ap (λ s. s.entries) c.other.view_is in
    rw (c.append_reserved.ensures.items, c.append_reserved-2.ensures.items, ← list, ← new_list)
    (zip-joined keys.items new_keys.items values.items new_values.items (same_length keys values c.self.invariant))
