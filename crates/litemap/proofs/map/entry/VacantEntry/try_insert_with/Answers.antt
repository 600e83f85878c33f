use Rattle.litemap.proofs.Common.{◌≡◌, Some, refl, sym, ap, ◌∙◌, unwrap_or, true≢false, set_value, put_value}
use Rattle.litemap.proofs.Entries.{set_value-put}
use Rattle.litemap.proofs.map.entry.VacantEntry.try_insert_with.Goals as goal

pub returns : goal.returns
returns g c =
    let e = c.args.self in
    let made = c.in-Ok.value in
    let put = c.in_default.ensures.put in
    let shown : Some c.value_in_mut.result.now ≡ Some made =
    sym c.value_in_mut.ensures.value ∙ rw (put, e.missing.place) (put_value g.K.Ord.cmp e.map.now.entries e.key made) in
    let same : c.value_in_mut.result.now ≡ made = ap (λ o. unwrap_or o made) shown in (
      (
        refl,
        λ w ok. record {
          pairs = ap (λ M. set_value M e.index w) put ∙ set_value-put g.K.Ord.cmp e.map.now.entries e.key made w e.index e.missing.place;
          room = c.in_default.ensures.refused.room;
          room_kept = λ absent. absurd (true≢false (sym absent));
        },
        tt,
      ),
      record { writes_back = tt; value = rw same c.in-Ok.ensures; errors = record { absent = tt; closure = tt; full = tt; back = tt } },
    )
