use Rattle.litemap.proofs.Common.{refl, sym, subst}
use Rattle.std.proofs.lemmas.Result.{IfOk-weaker}
use Rattle.std.specs.Fn.{FnOnceReturnsAt}
use Rattle.litemap.specs.Entries.{Vacant}
use Rattle.litemap.proofs.Entries.{refused_weaker}
use Rattle.litemap.proofs.map.entry.Entry.or_insert_with_key.Goals as goal

pub returns-in-Vacant : goal.returns-in-Vacant
returns-in-Vacant g c =
    let e = c.in-Vacant.vacant in
    let made = FnOnceReturnsAt g.F.FnOnce c.args.default e.key in
    rw c.in-Vacant.is (
      (refl, c.insert.follows.holds, c.insert.follows.holds-at-none),
      record {
        writes_back = tt;
        value = IfOk-weaker c.insert.result _ _ (λ slot h. subst made (sym h) c.returned_for-value.ensures) c.insert.ensures.value;
        refused = refused_weaker (Vacant e) _ _ (λ v h. subst made (sym h) c.returned_for-value.ensures) c.insert.result c.insert.ensures.refused;
      },
    )
