use Rattle.std.proofs.Common.{◌∙◌, ap, sym}
use Rattle.std.specs.Map.{keys_of, values_of}
use Rattle.std.proofs.lemmas.Slice.Zip.{firsts-zip, seconds-zip}
use Rattle.litemap_columns.proofs.Columns.{same_length}
use Rattle.litemap_columns.proofs.column_store.ColumnStoreStoreColumns.lm_columns.Goals as goal

pub returns-clause-keys : goal.returns-clause-keys
returns-clause-keys g c =
    c.as_slice.ensures.value
    ∙ sym (firsts-zip c.self.inside.keys.items c.self.inside.values.items (sym (same_length c.self.inside.keys c.self.inside.values c.self.invariant)))
    ∙ ap (λ m. keys_of m.entries) c.self.view_is

pub returns-clause-values : goal.returns-clause-values
returns-clause-values g c =
    c.as_slice-2.ensures.value
    ∙ sym (seconds-zip c.self.inside.keys.items c.self.inside.values.items (sym (same_length c.self.inside.keys c.self.inside.values c.self.invariant)))
    ∙ ap (λ m. values_of m.entries) c.self.view_is
