-- For the search of a caller: what the pair at an index is, and what is found in a part.
--     text_index_found      what its key finds, if the list ascends
--     number_up_to, up_to_from      the test of a bound that is included
--     found_passes      what a query finds in a part passes the part's test
use Rattle.litemap.proofs.Common.{◌≡◌, ◌≢◌, ◌≤◌, ◌∙◌, ℕ, Bool, true, List, Some, String, Ordering, Less, Equal, Greater, Rising, ap, filter, is_le}
use Rattle.litemap.proofs.Common.{nat_cmp, refl, rules, slice_get, string_bytes, string_cmp, sym, value_at}
use Rattle.std.proofs.Common.{find}
use Rattle.std.specs.String.{string_cmp_total}
use Rattle.litemap_store.specs.Queries.{by_string}
use Rattle.litemap_store.proofs.Lists.Membership.{In-from_filter}
use Rattle.litemap.proofs.Keys.{key_index_found}
use Rattle.litemap.proofs.Queried.{In-found}

pub text_index_found : {V Z : Type 0} (L : List (String Z × V)) (i : ℕ) (k : String Z) (v : V) → Rising string_cmp L → slice_get L i ≡ Some (k, v)
    → value_at by_string L (string_bytes k) ≡ Some v
text_index_found L i k v r g = key_index_found L i k v string_cmp_total r g

pub found_passes : {X : Type 0} (test keep : X → Bool) (L M : List X) (x : X) → M ≡ filter keep L → find test M ≡ Some x → keep x ≡ true
found_passes test keep L M x e f = (In-from_filter keep L x (In-found test (filter keep L) x (ap (find test) (sym e) ∙ f))).1

-- the test of a bound that is included
pub number_up_to : (a b : ℕ) → a ≤ b → is_le (nat_cmp a b) ≡ true
number_up_to a b h = search rules

pub up_to_from : (r : Ordering) → r ≢ Greater → is_le r ≡ true
up_to_from Less n = refl
up_to_from Equal n = refl
up_to_from Greater n = absurd (n refl)

pub ruleset parts = (text_index_found, found_passes, number_up_to, up_to_from)
