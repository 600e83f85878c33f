-- The words of hash maps (`specs/HashWords`) in those of ordered maps: an equality of the keys finds what the order finds that
-- agrees with it.
--     hashed: number_found, signed_found      for numbers;  key_found      for keys of any type, by the law `matches_eq` of their `Ord`
use Rattle.litemap.proofs.Common.{◌≡◌, ◌∙◌, ℕ, ℤ, Bool, List, Ordering, IsTotalOrder, sym, int_cmp, int_cmp_total}
use Rattle.litemap.proofs.Common.{is_eq, nat_cmp, nat_cmp_total, value_at}
use Rattle.std.specs.Cmp.{unsigned_ties}
use Rattle.std.specs.Map.{lookup}
use Rattle.std.specs.Ordering.{int_eq}
use Rattle.std.specs.Prelude.{nat_eq}
use Rattle.litemap.proofs.StdMaps.{value_at-get}

pub key_found : {K V : Type 0} {cmp : K → K → Ordering} {eq : K → K → Bool} (L : List (K × V)) (k : K) → IsTotalOrder cmp
    → ((x y : K) → eq x y ≡ is_eq (cmp x y)) → lookup (eq k) L ≡ value_at cmp L k
key_found L k o same = (λ i. lookup (λ x. same k x i) L) ∙ sym (value_at-get o k L)

pub number_found : {V : Type 0} (L : List (ℕ × V)) (k : ℕ) → lookup (nat_eq k) L ≡ value_at nat_cmp L k
number_found L k = key_found L k nat_cmp_total unsigned_ties

pub signed_found : {V : Type 0} (L : List (ℤ × V)) (k : ℤ) → lookup (int_eq k) L ≡ value_at int_cmp L k
signed_found L k = sym (value_at-get int_cmp_total k L)

pub ruleset hashed = (number_found, signed_found)
