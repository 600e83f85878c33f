use Rattle.std.proofs.Common.{[], ◌∷◌, ◌++◌, append-nil, append_assoc, arith, length-append}
use Rattle.litemap_store.proofs.Callers.HandedOver.{gathered}
use Rattle.litemap_store.proofs.Last.Sifting.{Last-sifted}
use Rattle.litemap_store.proofs.Last.FirstGiven.{some_refused}
use Rattle.litemap_read.proofs.Asked.{asked_failed, asked_refused}
use Rattle.litemap_read.proofs.Sifted.{Sifted-joins, some_sifted}
use Rattle.litemap_read.proofs.read.read_pairs.Goals as goal

pub loop-key-preserved : goal.loop-key-preserved
loop-key-preserved g c =
    let before = c.loop-key.invariant in
    let seen = before.seen.0 in
    let pair : g.row.K.Denot × g.row.V.Denot = (c.in-Ok-Some.key, c.in-Ok-Some.value) in
    let next = rw c.in-Ok-Some.field-0-is at c.in-Ok-Some.ensures.next in
    let step = c.next_pair.ensures in
    record {
      seen = (
        seen ++ pair ∷ [],
        λ rest h. rw append_assoc (before.seen.1 (pair ∷ rest) (next.0 rest h)),
        Sifted-joins g.K.Ord.cmp seen (pair ∷ []) [] [] c.loop-key.map.entries c.loop-key.aside.items c.append_or_defer.new.map.entries
            c.append_or_defer.new.aside.items before.seen.2 c.in_ok-append_or_defer-in-Ok-Some.ensures,
        omega (arith, before.seen.3, next.1, length-append seen (pair ∷ [])),
      );
      errors = λ e. ((λ h. (before.errors e).0 ((step.keeps_faults e).0 h)), (λ h. (step.keeps_faults e).1 ((before.errors e).1 h)));
      end = ((λ h. before.end.0 (step.keeps_end.0 h)), (λ h. step.keeps_end.1 (before.end.1 h)));
      led = g.met.P.PairSource.leads_on _ _ _ before.led step.leads;
    }

-- the pair that had no room stood before what is left
pub returns-in_err-append_or_defer-in-Ok-Some-clause-asked : goal.returns-in_err-append_or_defer-in-Ok-Some-clause-asked
returns-in_err-append_or_defer-in-Ok-Some-clause-asked g c =
    let before = c.loop-key.invariant in
    let pair : g.row.K.Denot × g.row.V.Denot = (c.in-Ok-Some.key, c.in-Ok-Some.value) in
    let next = rw c.in-Ok-Some.field-0-is at c.in-Ok-Some.ensures.next in
    asked_refused c.from_residual.result c.from_residual.ensures.1
    (before.seen.0 ++ pair ∷ [], λ rest h. rw append_assoc (before.seen.1 (pair ∷ rest) (next.0 rest h)))
    (g.met.P.PairSource.leads_on _ _ _ before.led c.next_pair.ensures.leads) (omega (arith, before.seen.3, next.1))

pub returns-in-Err-clause-asked : goal.returns-in-Err-clause-asked
returns-in-Err-clause-asked g c =
    let before = c.loop-key.invariant in
    let next = c.in-Err.ensures.next in
    asked_failed c.in-Err.error ((before.errors c.in-Err.error).0 next.0) (before.seen.0, λ rest h. before.seen.1 rest ((next.1.0 rest).0 h))
    (g.met.P.PairSource.leads_on _ _ _ before.led c.next_pair.ensures.leads)

-- the pairs put aside didn't go in, so there are some
pub returns-in_err-extend_from_vec-clause-asked : goal.returns-in_err-extend_from_vec-clause-asked
returns-in_err-extend_from_vec-clause-asked g c =
    let before = c.loop-key.invariant in
    let next = rw c.in-Ok-None.field-0-is at c.in-Ok-None.ensures.next in
    let aside = c.loop-key.aside.items in
    let put_aside = rw c.in_err-extend_from_vec.was at
    (some_refused g.K.Ord.cmp c.extend_from_vec.result c.loop-key.map.entries aside c.loop-key.map.room c.extend_from_vec.ensures.succeeds) in
    asked_refused c.from_residual-in_err-extend_from_vec.result c.from_residual-in_err-extend_from_vec.ensures.1
    (before.seen.0, λ rest h. before.seen.1 rest ((next.1.0 rest).0 h)) (g.met.P.PairSource.leads_on _ _ _ before.led c.next_pair.ensures.leads)
    (omega (arith, before.seen.3, some_sifted g.K.Ord.cmp before.seen.0 c.loop-key.map.entries aside before.seen.2 put_aside))

pub returns : goal.returns
returns g c =
    let before = c.loop-key.invariant in
    let next = rw c.in-Ok-None.field-0-is at c.in-Ok-None.ensures.next in
    let last = Last-sifted g.met.K.Ord.total before.seen.0 c.loop-key.map.entries c.loop-key.aside.items c.extend_from_vec.new.self.entries before.seen.2
    c.in_ok-extend_from_vec.ensures.last in
    let led = g.met.P.PairSource.leads_on _ _ _ before.led c.next_pair.ensures.leads in record {
      read = gathered g.met.K.Ord.total [] _ tt _ before.seen.0 (rw append-nil at (before.seen.1 [] ((next.1.0 []).0 next.2))) last;
      asked = record { ends = before.end.0 next.0; empty = next.2; error = tt; rest = tt; leads = led; refused_some = tt };
    }
