use Rattle.litemap.proofs.Common.{ap, arith, ◌∙◌, option_map, refl, set_value, sym, Some, Ok, Err, found_set_value, found_value, found_within}
use Rattle.litemap.proofs.KeptKeys.{keys_of-set_value}
use Rattle.litemap.proofs.Outcomes.{not_missing}
use Rattle.litemap.proofs.Updating.{places_put, updates_put}
use Rattle.litemap.proofs.map.LiteMap.insert_counted.Goals as goal

pub returns-in-Ok-clause-inserts : goal.returns-in-Ok-clause-inserts
returns-in-Ok-clause-inserts g c = record {
  put = ap (set_value c.args.self.now.entries c.in-Ok.index) c.replace.ensures.after ∙ found_set_value _ _ _ _ c.in-Ok.ensures.splits c.args.value;
  old = ap Some c.replace.ensures.value ∙ sym c.value_in_mut.ensures.value ∙ found_value _ _ _ _ c.in-Ok.ensures.splits;
  absent = tt;
  refused = record { unchanged = tt; full = tt; back = tt; room = omega arith };
  room_kept = λ there. refl;
}

pub returns-in_ok-insert_at-in-Err-clause-inserts : goal.returns-in_ok-insert_at-in-Err-clause-inserts
returns-in_ok-insert_at-in-Err-clause-inserts g c = record {
  put = c.in_ok-insert_at-in-Err.ensures.put;
  old = sym (ap (option_map (λ p. p.1)) c.in-Err.ensures.splits.missing);
  absent = tt;
  refused = record { unchanged = tt; full = tt; back = tt; room = c.in_ok-insert_at-in-Err.ensures.refused.room };
  room_kept = λ there. absurd (not_missing g.K.Ord.cmp c.args.self.now.entries c.args.key there c.in-Err.ensures.splits);
}

pub value_in_mut-requires : goal.value_in_mut-requires
value_in_mut-requires g c = found_within _ _ _ _ c.in-Ok.ensures.splits

pub returns-in-Ok-clause-updates : goal.returns-in-Ok-clause-updates
returns-in-Ok-clause-updates g c =
    rw (c.replace.ensures.after, found_set_value _ _ _ _ c.in-Ok.ensures.splits c.args.value)
    (updates_put g.met.K.Ord.total c.args.self.now.entries c.args.key c.args.value (Ok c.in-Ok.index) c.in-Ok.ensures.splits)

pub returns-in_ok-insert_at-in-Err-clause-updates : goal.returns-in_ok-insert_at-in-Err-clause-updates
returns-in_ok-insert_at-in-Err-clause-updates g c =
    rw c.in_ok-insert_at-in-Err.ensures.put
    (updates_put g.met.K.Ord.total c.args.self.now.entries c.args.key c.args.value (Err c.in-Err.index) c.in-Err.ensures.splits)

pub returns-in-Ok-clause-places : goal.returns-in-Ok-clause-places
returns-in-Ok-clause-places g c =
    rw (c.replace.ensures.after, found_set_value _ _ _ _ c.in-Ok.ensures.splits c.args.value)
    (places_put g.met.K.Ord.total c.args.self.now.entries c.args.key c.args.value (Ok c.in-Ok.index) c.in-Ok.ensures.splits)

pub returns-in_ok-insert_at-in-Err-clause-places : goal.returns-in_ok-insert_at-in-Err-clause-places
returns-in_ok-insert_at-in-Err-clause-places g c =
    rw c.in_ok-insert_at-in-Err.ensures.put
    (places_put g.met.K.Ord.total c.args.self.now.entries c.args.key c.args.value (Err c.in-Err.index) c.in-Err.ensures.splits)

pub returns-in-Ok-clause-keys_stay : goal.returns-in-Ok-clause-keys_stay
returns-in-Ok-clause-keys_stay g c there = rw c.replace.ensures.after (keys_of-set_value c.args.self.now.entries c.in-Ok.index c.args.value)
