use Rattle.std.specs.Prelude.{MatchOption}
use Rattle.litemap.proofs.Common.{◌≡◌, refl, subst}
use Rattle.litemap.specs.Combined.{LeavesOfBoth}
use Rattle.litemap.proofs.map.LiteMap.combine.Goals as goal

pub returns-in-Some-clause-settled : goal.returns-in-Some-clause-settled
returns-in-Some-clause-settled g c =
    let Leaves : g.row.V.Denot → Type 0 = λ here. LeavesOfBoth g.F.Fn c.args.f.now c.args.key.now here c.args.value.now c.f.new.arg4 in
    let left : LeavesOfBoth g.F.Fn c.args.f.now c.args.key.now c.in-Some.here.now c.args.value.now c.f.new.arg4 = record {
      key = c.args.key;
      old = c.in-Some.here;
      new = _;
      left = _;
      shows = (refl, refl, refl);
      called = record { met = c.f.ensures };
      leaves = refl;
    } in
    subst (λ o. MatchOption o (c.f.new.arg4 ≡ c.args.value.now) Leaves) c.in-Some.ensures.value left
