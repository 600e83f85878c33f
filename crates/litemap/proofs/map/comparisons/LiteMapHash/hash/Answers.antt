use Rattle.litemap.proofs.Common.{sym, ap, ◌∙◌, ◌++◌, flat_map, fold, arith, length}
use Rattle.std.specs.Hash.{HashWrites, fed_then}
use Rattle.std.proofs.lemmas.Grind.{fold-append}
use Rattle.litemap.proofs.map.comparisons.LiteMapHash.hash.Goals as goal

pub loop-key-preserved : goal.loop-key-preserved
loop-key-preserved g c =
    let W = g.H.Hasher.write in let k = c.in-Some.key.now in let v = c.in-Some.value.now in let rest = c.next.new.self in
    let F : g.row.K.Denot × g.row.V.Denot → HashWrites = λ p. g.K.Hash.hash_input p.0 ++ g.V.Hash.hash_input p.1 in
    let both = fed_then W c.loop-key.state c.hash-in-Some.new.state c.hash-in-Some-2.new.state (g.K.Hash.hash_input k)
    (g.V.Hash.hash_input v) c.hash-in-Some.ensures c.hash-in-Some-2.ensures in
    ap (λ s. fold W s (flat_map F rest)) both ∙ sym (fold-append W c.loop-key.state (F (k, v)) (flat_map F rest))
    ∙ ap (λ l. fold W c.loop-key.state (flat_map F l)) (sym c.in-Some.ensures.steps) ∙ c.loop-key.invariant

pub returns : goal.returns
returns g c = rw (← c.self.view_is, ← c.all-rest.ensures, ← c.len.ensures.value, ← c.hash.ensures) (rw c.in_default.ensures.steps.0 at c.loop-key.invariant)

pub loop-key-smaller : goal.loop-key-smaller
loop-key-smaller g c = omega (arith, ap length c.in-Some.ensures.steps)
