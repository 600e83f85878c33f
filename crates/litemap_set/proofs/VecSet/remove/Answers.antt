use Rattle.std.proofs.Common.{ap, Bool, false, filter, is_some, not, refl, sym, true, ◌≡◌, ◌∙◌}
use Rattle.std.specs.Bool.{OnFalse}
use Rattle.std.specs.Map.{keys_of}
use Rattle.std.specs.Ordering.{is_eq}
use Rattle.litemap_set.specs.Sets.{contains}
use Rattle.litemap_set.proofs.Keys.{any-kept, contains-keys, contains-value, keys-cut, length-cut, none-kept}
use Rattle.litemap_set.proofs.VecSet.remove.Goals as goal

-- what holds if a test is false
on_false : {P : Type 0} (b : Bool) → (b ≡ false → P) → OnFalse b P
on_false true f = tt
on_false false f = f refl

pub returns : goal.returns
returns g c =
    let order = g.Q.Query.order in
    let q = g.Q.Query.sought c.args.key in
    let L = c.self.inside.map.entries in
    let found : c.is_some.result ≡ contains order (keys_of L) q = c.is_some.ensures ∙ ap is_some c.remove.ensures.value ∙ contains-value order q L in
    let keys : keys_of c.remove.new.self.entries ≡ filter (λ k. not (is_eq (order k q))) (keys_of L) =
    rw c.remove.ensures.removed.cut (keys-cut order g.met.Q.Query.one_side q L c.keys_ascend.ensures.rising) in
    rw (← c.self.view_is) (record {
      found = found;
      gone = rw keys (none-kept order q (keys_of L));
      keys = keys;
      others = λ test apart. rw keys (any-kept order q test apart (keys_of L));
      len = rw (found, c.remove.ensures.removed.cut) (length-cut order g.met.Q.Query.one_side q L c.keys_ascend.ensures.rising);
      unchanged = on_false c.is_some.result (λ none i.
          let same = c.remove.ensures.removed.unchanged (contains-keys order q L ∙ sym found ∙ none) in
          record { keys = keys_of (same i).entries; room = (same i).room });
      room = λ there. c.remove.ensures.removed.room tt (sym c.is_some.ensures ∙ there);
    })
