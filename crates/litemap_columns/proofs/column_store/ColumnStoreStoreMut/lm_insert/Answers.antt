use Rattle.std.proofs.Common.{◌≡◌, ◌≤◌, length, ap, ◌∙◌, arith}
use Rattle.std.specs.List.{zip}
use Rattle.litemap_columns.proofs.Columns.{length-zip_same, same_length, zip-insert}
use Rattle.litemap_columns.proofs.column_store.ColumnStoreStoreMut.lm_insert.Goals as goal

pub insert_reserved-requires-clause-index : goal.insert_reserved-requires-clause-index
insert_reserved-requires-clause-index g c =
    let keys = c.self.inside.keys in
    let values = c.self.inside.values in
    let list : zip keys.items values.items ≡ c.args.self.now.entries = ap (λ s. s.entries) c.self.view_is ∙ c.lm_reserve.ensures.pairs in
    let all : length (zip keys.items values.items) ≡ length keys.items = length-zip_same keys.items values.items (same_length keys values c.self.invariant) in
    let same : length (zip keys.items values.items) ≡ length c.args.self.now.entries = ap length list in
    omega (arith, keys.ok.0, all, same, c.requires)

pub insert_reserved-requires-2-clause-index : goal.insert_reserved-requires-2-clause-index
insert_reserved-requires-2-clause-index g c =
    let keys = c.self.inside.keys in
    let values = c.self.inside.values in
    let list : zip keys.items values.items ≡ c.args.self.now.entries = ap (λ s. s.entries) c.self.view_is ∙ c.lm_reserve.ensures.pairs in
    let all : length (zip keys.items values.items) ≡ length keys.items = length-zip_same keys.items values.items (same_length keys values c.self.invariant) in
    let same : length (zip keys.items values.items) ≡ length c.args.self.now.entries = ap length list in
    omega (arith, keys.ok.0, all, same, c.requires, c.self.invariant)

pub returns-clause-ok : goal.returns-clause-ok
returns-clause-ok g c =
    let keys = c.self.inside.keys in
    let values = c.self.inside.values in
    let list : zip keys.items values.items ≡ c.args.self.now.entries = ap (λ s. s.entries) c.self.view_is ∙ c.lm_reserve.ensures.pairs in
    let all : length (zip keys.items values.items) ≡ length keys.items = length-zip_same keys.items values.items (same_length keys values c.self.invariant) in
    let same : length (zip keys.items values.items) ≡ length c.args.self.now.entries = ap length list in
    let within : c.args.index ≤ length keys.items = omega (arith, all, same, c.requires) in
    rw (c.insert_reserved.ensures.items, c.insert_reserved-2.ensures.items, ← list)
    (zip-insert keys.items values.items c.args.index c.args.key c.args.value within (same_length keys values c.self.invariant))
