use Rattle.litemap.proofs.Common.{◌≡◌, None, Some, ap, option_map, refl, sym, found_get, found_remove, found_value, found_within, found_write, ◌∙◌}
use Rattle.litemap.proofs.Updating.{finds_write, keys_stay}
use Rattle.litemap.proofs.map.LiteMap.entry_by.Goals as goal

pub returns-in-Ok : goal.returns-in-Ok
returns-in-Ok g c =
    let splits = c.in-Ok.ensures.splits in
    let finds = finds_write g.Q.Query.order (g.Q.Query.sought c.args.query) c.args.self.now.entries c.in-Ok.index splits in (
      (refl, λ w. refl, tt),
      record {
        same_map = refl;
        unchanged = refl;
        rests = tt;
        found = λ there. record {
          key = rw splits.found (ap (option_map (λ p. p.0)) (found_get _ _ _ _ splits));
          value = found_value _ _ _ _ splits;
          writes = found_write _ _ _ _ splits;
          removes = found_remove _ _ _ _ splits;
          updates = λ v. rw (found_write _ _ _ _ splits v) (finds v);
          others = λ v. rw (found_write _ _ _ _ splits v) (keys_stay g.met.Q.Query.respects _ _ _ (finds v).others);
        };
        made = λ none. absurd (let both : None ≡ Some splits.pair = sym none ∙ splits.found in cc);
        absent = tt;
        error = tt;
      },
    )

pub invariant_of-result : goal.invariant_of-result
invariant_of-result g c = record { within = found_within _ _ _ _ c.in-Ok.ensures.splits }
