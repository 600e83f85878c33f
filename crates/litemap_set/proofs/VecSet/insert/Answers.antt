use Rattle.std.proofs.Common.{ap, cond, false, is_some, length, not, refl, sym, true, ◌+◌, ◌∙◌, ◌≡◌, Bool}
use Rattle.std.specs.Bool.{OnFalse}
use Rattle.std.specs.Map.{keys_of}
use Rattle.litemap_set.proofs.Keys.{contains-keys, contains-put, keys-put, keys_of-put, length-put, new_if_absent}
use Rattle.litemap_set.specs.Sets.{contains}
use Rattle.litemap_set.proofs.VecSet.insert.Goals as goal

-- what holds if a test is false
on_false : {P : Type 0} (b : Bool) → (not b ≡ true → P) → OnFalse b P
on_false true f = tt
on_false false f = f refl

not-not : (a b : Bool) → a ≡ not b → not a ≡ true → b ≡ true
not-not a true e h = refl
not-not a false e h = sym (ap not e) ∙ h

pub returns-in-Err : goal.returns-in-Err
returns-in-Err g c =
    let refused = c.in-Err.ensures.inserts in
    rw (← c.self.view_is) (record {
      added = tt;
      updates = tt;
      keys = tt;
      len = tt;
      present = tt;
      room_kept = tt;
      absent = sym (contains-keys g.K.Ord.cmp c.args.key c.self.inside.map.entries) ∙ ap is_some refused.absent;
      full = refused.refused.full;
      unchanged = ap keys_of refused.refused.unchanged;
      back = ap (λ p. p.0) refused.refused.back;
      room = refused.refused.room;
    })

pub returns : goal.returns
returns g c =
    let L = c.self.inside.map.entries in
    let key = c.args.key in
    let inserts = c.in-Ok.ensures.inserts in
    let added = new_if_absent g.K.Ord.cmp key L c.in-Ok.old c.is_none.result c.is_none.ensures inserts.old in
    let there : not c.is_none.result ≡ true → contains g.K.Ord.cmp (keys_of L) key ≡ true = not-not c.is_none.result _ added in
    rw (← c.self.view_is) (record {
      added = added;
      updates = λ q. rw inserts.put (contains-put g.met.K.Ord.total L key tt q);
      keys = rw inserts.put (keys_of-put g.met.K.Ord.total L key tt c.keys_ascend.ensures.rising);
      len = rw (added, inserts.put) (
          length-put g.met.K.Ord.total L key tt c.keys_ascend.ensures.rising ∙ ap (λ b. length (keys_of L) + cond (not b) 1 0) (contains-keys g.K.Ord.cmp key L)
          );
      present = on_false c.is_none.result
          (λ h. rw inserts.put (keys-put g.met.K.Ord.total L key tt c.keys_ascend.ensures.rising (contains-keys g.K.Ord.cmp key L ∙ there h)));
      room_kept = on_false c.is_none.result (λ h. inserts.room_kept (contains-keys g.K.Ord.cmp key L ∙ there h));
      absent = tt;
      full = tt;
      unchanged = tt;
      back = tt;
      room = inserts.refused.room;
    })
