use Rattle.litemap.proofs.Common.{◌≡◌, Some, refl, sym, ap, ◌∙◌, unwrap_or, true≢false, set_value, put_value}
use Rattle.litemap.proofs.Entries.{set_value-put, within-put}
use Rattle.litemap.proofs.map.entry.VacantEntry.insert.Goals as goal

pub returns : goal.returns
returns g c =
    let e = c.args.self in
    let put = c.in_ok-insert_at.ensures.put in
    let shown : Some c.value_in_mut.result.now ≡ Some c.args.value =
    sym c.value_in_mut.ensures.value ∙ rw (put, e.missing.place) (put_value g.K.Ord.cmp e.map.now.entries e.key c.args.value) in (
      (
        refl,
        λ w ok. record {
          pairs = ap (λ M. set_value M e.index w) put ∙ set_value-put g.K.Ord.cmp e.map.now.entries e.key c.args.value w e.index e.missing.place;
          room = c.in_ok-insert_at.ensures.refused.room;
          room_kept = λ absent. absurd (true≢false (sym absent));
        },
        tt,
      ),
      record { writes_back = tt; value = ap (λ o. unwrap_or o c.args.value) shown; refused = record { absent = tt; full = tt; back = tt } },
    )

pub value_in_mut-requires : goal.value_in_mut-requires
value_in_mut-requires g c =
    let e = c.args.self in rw c.in_ok-insert_at.ensures.put (within-put g.K.Ord.cmp e.map.now.entries e.key c.args.value e.index e.missing.place)
