use Rattle.std.proofs.Common.{◌≡◌, ◌∙◌, ap, length, min, refl, sym, vec_len}
use Rattle.std.specs.List.{refill, zip}
use Rattle.std.specs.Map.{keys_of, values_of}
use Rattle.std.proofs.lemmas.Slice.Zip.{firsts-zip, seconds-zip}
use Rattle.litemap_store.specs.Contents.{with_pairs}
use Rattle.litemap_store.specs.Lent.{set_values}
use Rattle.litemap_store.specs.VecStore.{vec_room}
use Rattle.litemap_columns.proofs.Columns.{length-zip_same, same_length}
use Rattle.litemap_columns.proofs.column_store.ColumnStoreStoreColumns.lm_columns_mut.Goals as goal

pub returns : goal.returns
returns g c =
    let keys = c.self.inside.keys in
    let values = c.self.inside.values in
    let even = same_length keys values c.self.invariant in
    let ks : keys.items ≡ keys_of (zip keys.items values.items) = sym (firsts-zip keys.items values.items (sym even)) in
    let vs : values.items ≡ values_of (zip keys.items values.items) = sym (seconds-zip keys.items values.items (sym even)) in
    let n : vec_len values ≡ length (zip keys.items values.items) = values.ok.0 ∙ sym even ∙ sym (length-zip_same keys.items values.items even) in (
      (
        refl,
        λ w. (λ j. record { entries = zip (ks j) (refill (n j) (vs j) w); room = min (vec_room keys) (vec_room values) })
            ∙ ap (λ m. with_pairs m (set_values m.entries w)) c.self.view_is,
      ),
      record {
        writes_back = tt;
        keys = c.as_slice.ensures.value ∙ ks ∙ ap (λ m. keys_of m.entries) c.self.view_is;
        values = c.as_mut_slice.ensures.value ∙ vs ∙ ap (λ m. values_of m.entries) c.self.view_is;
      },
    )
