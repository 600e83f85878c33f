-- By how much several calls raise a count.
use Rattle.litemap_store.proofs.Names.{ℕ, ◌+◌, ◌∙◌, ◌≤◌, arith, Count, Err, Ok, OnErr, refl, Result, RisesByAtMost}

-- a count through which nothing was compared
pub not_asked : (c : Count) → RisesByAtMost 0 c c
not_asked c = record { same = refl; not_lowered = (omega arith, omega arith); most = omega arith }

pub at_most : {c d : Count} (a n : ℕ) → a ≤ n → RisesByAtMost a c d → RisesByAtMost n c d
at_most a n h r = let m = r.most in record { same = r.same; not_lowered = r.not_lowered; most = omega arith }

-- one call after another
pub in_turn : {c d e : Count} (a b n : ℕ) → a + b ≤ n → RisesByAtMost a c d → RisesByAtMost b d e → RisesByAtMost n c e
in_turn a b n h r s =
    let m = r.most in let k = s.most in let (l, x) = r.not_lowered in let (u, y) = s.not_lowered in
    record { same = s.same ∙ r.same; not_lowered = (omega arith, omega arith); most = omega arith }

-- what holds in each case holds if a call fails
pub always_on_err : {T E P : Type 0} (r : Result T E) → P → OnErr r P
always_on_err (Ok x) h = tt
always_on_err (Err e) h = h
