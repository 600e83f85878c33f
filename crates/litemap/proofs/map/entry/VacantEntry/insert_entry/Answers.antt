use Rattle.litemap.proofs.Common.{refl, sym, ap, ◌∙◌, option_map, remove, set_value, slice_get, true≢false, value_in}
use Rattle.litemap.proofs.Entries.{key-put, remove-put, set_value-put, value-put}
use Rattle.litemap.proofs.map.entry.VacantEntry.insert_entry.Goals as goal

pub returns-in-Ok-clause-inserted : goal.returns-in-Ok-clause-inserted
returns-in-Ok-clause-inserted g c =
    let e = c.args.self in
    let cmp = g.K.Ord.cmp in
    let L = e.map.now.entries in
    let put = c.in-Ok.ensures.put in record {
      value = ap (λ M. value_in M e.index) put ∙ value-put cmp L e.key c.args.value e.index e.missing;
      same_key = ap (λ M. option_map (λ p. p.0) (slice_get M e.index)) put ∙ key-put cmp L e.key c.args.value e.index e.missing;
      same_writes = λ w. ap (λ M. set_value M e.index w) put ∙ set_value-put cmp L e.key c.args.value w e.index e.missing.place;
      same_removal = ap (λ M. remove M e.index) put ∙ remove-put cmp L e.key c.args.value e.index e.missing;
      same_map = refl;
      leaves = record { pairs = put; room = c.in-Ok.ensures.refused.room; room_kept = λ absent. absurd (true≢false (sym absent)) };
    }
