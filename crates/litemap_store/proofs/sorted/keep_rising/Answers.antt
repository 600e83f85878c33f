use Rattle.litemap_store.proofs.Names.{◌++◌, ◌+◌, ◌-◌, ◌∙◌, ◌≡◌, answers_always, ap, arith, common_steps, drop, drop-append_seam}
use Rattle.litemap_store.proofs.Names.{is_lt, length, length-drop, ranks_by, rules, subst, take, take-append-add, take-append-drop, take_all, take_at}
use Rattle.litemap_store.proofs.Last.KeepLast.{last_by_stable}
use Rattle.litemap_store.proofs.Last.Pairs.{Last-rising, Last-same}
use Rattle.litemap_store.proofs.Lists.Seams.{take-written_tail}
use Rattle.litemap_store.proofs.Stores.Counting.{always_on_err}
use Rattle.litemap_store.proofs.sorted.keep_rising.Given.{Over}
use borrow.Author.Rules.{of_calls}
use Rattle.litemap_store.proofs.sorted.keep_rising.Goals as goal
use Rattle.litemap_store.proofs.sorted.keep_rising.Goals.{After-keep_last-kept, After-truncate}

pub returns-then-is_rising-clause-last : goal.returns-then-is_rising-clause-last
returns-then-is_rising-clause-last g c =
    Last-rising g.K.Ord.cmp _ (rw (c.split_at.ensures.back, c.deref.ensures.value) at (c.is_rising.ensures.rising.0 c.if-is_rising.true))

lengths : (g : Over) (c : After-keep_last-kept g) → (length (take c.args.from c.deref_mut.result.now) ≡ c.args.from)
    × (c.args.from + length c.keep_last-kept.new.pairs ≡ c.args.pairs.now.len)
lengths g c = (grind (arith, common_steps), grind (arith, common_steps))

kept : (g : Over) (c : After-truncate g) → (length (take c.args.from c.deref_mut.result.now) ≡ c.args.from)
    × (c.args.from + length c.keep_last-kept.new.pairs ≡ c.args.pairs.now.len) → c.truncate.new.self.items ≡ take c.args.from c.deref_mut.result.now
    ++ take c.keep_last-kept.result c.keep_last-kept.new.pairs
kept g c len =
    let A = take c.args.from c.deref_mut.result.now in
    c.truncate.ensures.items ∙ ap (take (c.args.from + c.keep_last-kept.result))
    (take-written_tail A c.keep_last-kept.new.pairs _ _ c.args.from c.args.pairs.now.len len.0 len.1)
    ∙ subst (λ n. take (n + c.keep_last-kept.result) (A ++ c.keep_last-kept.new.pairs) ≡ A ++ take c.keep_last-kept.result c.keep_last-kept.new.pairs) len.0
    (take-append-add A c.keep_last-kept.new.pairs c.keep_last-kept.result)

pub keep_last-kept-requires : goal.keep_last-kept-requires
keep_last-kept-requires g c =
    c.in_ok-sort_by.ensures.sorted (λ x y. is_lt (g.K.Ord.cmp x.0 y.0)) (ranks_by g.met.K.Ord.total (λ x. x.0))
    (answers_always _ _ _ (λ f a r h called. search rules))

pub returns-in_err-sort_by-clause-unchanged : goal.returns-in_err-sort_by-clause-unchanged
returns-in_err-sort_by-clause-unchanged g c =
    let D = c.deref_mut.result.now in
    let A = take c.args.from D in
    let front : length A ≡ c.args.from = grind (arith, common_steps) in
    let whole : c.args.from + length c.sort_by.new.items ≡ c.args.pairs.now.len = grind (arith, common_steps) in
    let same : c.sort_by.new.items ≡ drop c.args.from D =
    c.in_err-sort_by.ensures.unchanged ∙ take_all (length D - c.args.from) (drop c.args.from D) (grind (arith, length-drop)) in
    always_on_err _ (take-written_tail A c.sort_by.new.items _ _ c.args.from c.args.pairs.now.len front whole ∙ ap (λ S. A ++ S) same
    ∙ take-append-drop c.args.from D ∙ c.deref_mut.ensures.value)

pub returns-clause-before : goal.returns-clause-before
returns-clause-before g c =
    let len = lengths g (goal.at.returns-clause-before g c).After-keep_last-kept in
    rw (kept g c len, take_at (take c.args.from c.deref_mut.result.now) (take c.keep_last-kept.result c.keep_last-kept.new.pairs) c.args.from len.0)
    (ap (take c.args.from) c.deref_mut.ensures.value)

pub returns-clause-last : goal.returns-clause-last
returns-clause-last g c =
    let stable = c.in_ok-sort_by.ensures.stable (λ x y. is_lt (g.K.Ord.cmp x.0 y.0)) (ranks_by g.met.K.Ord.total (λ x. x.0))
    (answers_always _ _ _ (λ f a r h called. search rules)) in
    let sorted = Last-same g.K.Ord.cmp g.met.K.Ord.total _ _ _ (last_by_stable g.K.Ord.cmp g.met.K.Ord.total _ _ stable) c.keep_last-kept.ensures.last in
    let A = take c.args.from c.deref_mut.result.now in let len = lengths g (goal.at.returns-clause-last g c).After-keep_last-kept in
    rw (
      kept g c len,
      subst
          (λ n. drop n (A ++ take c.keep_last-kept.result c.keep_last-kept.new.pairs) ≡ take c.keep_last-kept.result c.keep_last-kept.new.pairs) len.0
          (drop-append_seam A _),
    )
    (rw (
      c.deref_mut.ensures.value,
      take_all (length c.args.pairs.now.items - c.args.from) (drop c.args.from c.args.pairs.now.items)
          (grind (arith, length-drop)),
    ) at sorted)

pub sort_by-requires : goal.sort_by-requires
sort_by-requires g c = search of_calls parts 8

pub returns-in_err-sort_by-clause-before : goal.returns-in_err-sort_by-clause-before
returns-in_err-sort_by-clause-before g c =
    let A = take c.args.from c.deref_mut.result.now in
    rw (
      take-written_tail A c.sort_by.new.items _ _ c.args.from c.args.pairs.now.len (grind (arith, common_steps)) (grind (arith, common_steps)),
      take_at A c.sort_by.new.items c.args.from (grind (arith, common_steps)),
    ) (ap (take c.args.from) c.deref_mut.ensures.value)
