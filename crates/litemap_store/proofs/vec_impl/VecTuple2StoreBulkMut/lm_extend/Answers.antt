use Rattle.litemap_store.proofs.Names.{ℕ, ◌++◌, ◌∙◌, ◌≡◌, arith, drop, drop-append_seam, inr, IsCountedFor, length, List, take, take-append_seam}
use Rattle.litemap_store.proofs.Last.FirstGiven.{counted_then, GivesSome-from_refused}
use Rattle.litemap_store.proofs.vec_impl.VecTuple2StoreBulkMut.lm_extend.Given.{Over}
use Rattle.litemap_store.proofs.vec_impl.VecTuple2StoreBulkMut.lm_extend.Goals as goal
use Rattle.litemap_store.proofs.vec_impl.VecTuple2StoreBulkMut.lm_extend.Goals.{After-settle}

-- the old pairs, and after them those that were pushed
parts : {X : Type 0} (old given all : List X) (n : ℕ) → n ≡ length old → all ≡ old ++ given → (take n all ≡ old) × (drop n all ≡ given)
parts old given all n len is = (rw (is, len) (take-append_seam old given), rw (is, len) (drop-append_seam old given))

counted : (g : Over) (c : After-settle g) → IsCountedFor g.K.Ord.cmp c.args.self.now.items c.in_default.ensures.gathered.0 c.args.count.now c.settle.new.count
counted g c =
    let len : c.len-len.result ≡ length c.args.self.now.items = omega (arith, c.args.self.now.ok.0) in
    let part = parts c.args.self.now.items _ _ _ len c.in_default.ensures.gathered.1 in
    record { all_above = rw (part.0, part.1) at c.settle.ensures.all_above; rising = λ _. rw (part.1, len) at c.settle.ensures.cost }

pub returns-in-Ok-clause-extended : goal.returns-in-Ok-clause-extended
returns-in-Ok-clause-extended g c =
    let gathered = c.in_default.ensures.gathered in
    let cost = counted g (goal.at.returns-in-Ok-clause-extended g c).After-settle in
    record { given = gathered.0; gives = gathered.2; last = rw gathered.1 at c.in-Ok.ensures.last; all_above = cost.all_above; rising = cost.rising }

pub returns-in-Err-settle-clause-refused_some : goal.returns-in-Err-settle-clause-refused_some
returns-in-Err-settle-clause-refused_some g c _ =
    let part = parts c.args.self.now.items _ _ c.len-len.result (omega (arith, c.args.self.now.ok.0)) c.in_default.ensures.gathered.1 in
    rw c.in-Err-settle.is at
    (GivesSome-from_refused g.K.Ord.cmp g.I.IntoIterator.into_iter_gives g.I.IntoIter.Iterator.next_gives c.args.iter c.settle.result c.args.self.now.items
    _ 0 c.in_default.ensures.gathered.2 (λ h _. (rw (part.0, part.1) at c.settle.ensures.succeeds) h))

pub settle-requires-clause-rising : goal.settle-requires-clause-rising
settle-requires-clause-rising g c =
    rw (parts c.args.self.now.items _ _ c.len-len.result (omega (arith, c.args.self.now.ok.0)) c.in_default.ensures.gathered.1).0 c.requires.rising

pub returns-in-Err-settle-clause-unchanged : goal.returns-in-Err-settle-clause-unchanged
returns-in-Err-settle-clause-unchanged g c =
    let part = parts c.args.self.now.items _ _ c.len-len.result (omega (arith, c.args.self.now.ok.0)) c.in_default.ensures.gathered.1 in
    c.in-Err-settle.ensures.unchanged ∙ part.0

pub returns-in-Err-settle-clause-refused_cost : goal.returns-in-Err-settle-clause-refused_cost
returns-in-Err-settle-clause-refused_cost g c =
    let gathered = c.in_default.ensures.gathered in
    let cost = counted g (goal.at.returns-in-Err-settle-clause-refused_cost g c).After-settle in
    inr (gathered.0, gathered.2, counted_then cost c.refuse-in-Err-settle.ensures.uncounted)
