use Rattle.litemap.proofs.Common.{◌∙◌, ap, keys_of, sym, Ok, Err, None, true≢false, subst, found_remove, found_there, found_within}
use Rattle.litemap.proofs.KeptKeys.{keys_of-cut}
use Rattle.litemap.proofs.Updating.{finds_cut, keys_stay, places_cut}
use Rattle.litemap.specs.Updates.{Finds, Places}
use Rattle.litemap.proofs.map.LiteMap.take_out.Goals as goal

pub returns-in-Ok-clause-pair : goal.returns-in-Ok-clause-pair
returns-in-Ok-clause-pair g c =
    sym c.take_at.ensures.old ∙ found_there _ _ _ _ c.in-Ok.ensures.splits

pub returns-in-Ok-clause-removed : goal.returns-in-Ok-clause-removed
returns-in-Ok-clause-removed g c = record {
  cut = c.take_at.ensures.pairs ∙ found_remove _ _ _ _ c.in-Ok.ensures.splits;
  unchanged = λ none. absurd (true≢false (rw c.in-Ok.ensures.splits.found at none));
  room = λ keeps there. c.take_at.ensures.room keeps;
}

pub returns-in-Ok-clause-updates : goal.returns-in-Ok-clause-updates
returns-in-Ok-clause-updates g c =
    rw (c.take_at.ensures.pairs, found_remove _ _ _ _ c.in-Ok.ensures.splits)
    (finds_cut g.Q.Query.order (g.Q.Query.sought c.args.key) c.args.self.now.entries (Ok c.in-Ok.index) c.in-Ok.ensures.splits)

pub returns-in-Err-clause-updates : goal.returns-in-Err-clause-updates
returns-in-Err-clause-updates g c =
    subst (λ M. Finds g.Q.Query.order (g.Q.Query.sought c.args.key) None c.args.self.now.entries M) (sym c.in-Err.ensures.splits.is)
    (finds_cut g.Q.Query.order (g.Q.Query.sought c.args.key) c.args.self.now.entries (Err _) c.in-Err.ensures.splits)

pub returns-in-Ok-clause-others : goal.returns-in-Ok-clause-others
returns-in-Ok-clause-others g c = keys_stay g.met.Q.Query.respects _ _ _ (returns-in-Ok-clause-updates g c).others

pub returns-in-Err-clause-others : goal.returns-in-Err-clause-others
returns-in-Err-clause-others g c = keys_stay g.met.Q.Query.respects _ _ _ (returns-in-Err-clause-updates g c).others

pub returns-in-Ok-clause-places : goal.returns-in-Ok-clause-places
returns-in-Ok-clause-places g c =
    rw (c.take_at.ensures.pairs, found_remove _ _ _ _ c.in-Ok.ensures.splits)
    (places_cut g.Q.Query.order (g.Q.Query.sought c.args.key) c.args.self.now.entries (Ok c.in-Ok.index) c.in-Ok.ensures.splits)

pub returns-in-Err-clause-places : goal.returns-in-Err-clause-places
returns-in-Err-clause-places g c =
    subst (λ M. Places g.Q.Query.order (g.Q.Query.sought c.args.key) None c.args.self.now.entries M) (sym c.in-Err.ensures.splits.is)
    (places_cut g.Q.Query.order (g.Q.Query.sought c.args.key) c.args.self.now.entries (Err _) c.in-Err.ensures.splits)

pub returns-in-Ok-clause-keys : goal.returns-in-Ok-clause-keys
returns-in-Ok-clause-keys g c =
    rw (c.take_at.ensures.pairs, found_remove _ _ _ _ c.in-Ok.ensures.splits)
    (keys_of-cut g.met.Q.Query.one_side (g.Q.Query.sought c.args.key) c.args.self.now.entries c.take_at.ensures.rising)

pub returns-in-Err-clause-keys : goal.returns-in-Err-clause-keys
returns-in-Err-clause-keys g c =
    ap keys_of c.in-Err.ensures.splits.is
    ∙ keys_of-cut g.met.Q.Query.one_side (g.Q.Query.sought c.args.key) c.args.self.now.entries c.in-Err.ensures.rising

pub take_at-requires : goal.take_at-requires
take_at-requires g c = found_within _ _ _ _ c.in-Ok.ensures.splits
