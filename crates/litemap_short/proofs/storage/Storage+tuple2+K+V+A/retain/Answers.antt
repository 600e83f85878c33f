use Rattle.std.proofs.Common.{true, false, [], subst}
use Rattle.litemap_store.specs.Retain.{CalledOnPair}
use Rattle.litemap_store.proofs.Stores.Retaining.{CallableOnEach-first, Kept-more, Kept-none}
use Rattle.litemap_short.proofs.storage.Storage+tuple2+K+V+A.retain.Goals as goal

pub is_kept-stays-requires : goal.is_kept-stays-requires
is_kept-stays-requires g c =
    CallableOnEach-first g.F.FnMut c.args.f c.take_one-key.result [] (rw c.take_one-key.ensures.old at c.requires)

pub returns-then-stays-clause-kept : goal.returns-then-stays-clause-kept
returns-then-stays-clause-kept g c =
    let p = c.take_one-key.result in
    let f' = c.is_kept-stays.new.f in
    let called : CalledOnPair g.F.FnMut c.args.f p true f' = subst (λ b. CalledOnPair g.F.FnMut c.args.f p b f') c.if-stays.true c.is_kept-stays.ensures in
    rw (c.take_one-key.ensures.old, c.put_first.ensures) (Kept-more g.F.FnMut c.args.f p true f' [] [] called (Kept-none g.F.FnMut f'))

pub returns-in-Inline-clause-kept : goal.returns-in-Inline-clause-kept
returns-in-Inline-clause-kept g c =
    let p = c.take_one-key.result in
    let f' = c.is_kept-stays.new.f in
    let called : CalledOnPair g.F.FnMut c.args.f p false f' = subst (λ b. CalledOnPair g.F.FnMut c.args.f p b f') c.if-stays.false c.is_kept-stays.ensures in
    rw (c.take_one-key.ensures.old, c.take_one-key.ensures.nothing) (Kept-more g.F.FnMut c.args.f p false f' [] [] called (Kept-none g.F.FnMut f'))
