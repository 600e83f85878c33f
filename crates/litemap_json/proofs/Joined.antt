-- Members after members, and a name above all names of members.
use Rattle.std.proofs.Common.{◌≡◌, ℕ, List, Less, Greater, nat_cmp, refl, ap, ◌∙◌}
use Rattle.std.specs.Cmp.Lexicographic.{slice_cmp, nat_list_cmp_total}
use Rattle.std.specs.Ordering.{ordering_reverse}
use Rattle.serde_json.specs.Data.{Data, Members, no_members, member, put}

-- the members, and others after them
abbrev pub joined : Members → Members → Members
joined no_members ns = ns
joined (member k d ms) ns = member k d (joined ms ns)

-- the name is above that of each member
abbrev pub IsAbove : List ℕ → Members → Type 0
IsAbove k no_members = Unit {0}
IsAbove k (member l d ms) = (slice_cmp nat_cmp k l ≡ Greater) × IsAbove k ms

pub joined-none : (ms : Members) → joined ms no_members ≡ ms
joined-none no_members = refl
joined-none (member k d ms) = ap (member k d) (joined-none ms)

pub joined-one : (ms ns : Members) (k : List ℕ) (d : Data) → joined (joined ms (member k d no_members)) ns ≡ joined ms (member k d ns)
joined-one no_members ns k d = refl
joined-one (member l e ms) ns k d = ap (member l e) (joined-one ms ns k d)

pub put-above : (k : List ℕ) (d : Data) (ms : Members) → IsAbove k ms → put k d ms ≡ joined ms (member k d no_members)
put-above k d no_members h = refl
put-above k d (member l e ms) h = rw (h.0, put-above k d ms h.1) refl

pub above-joined : (k l : List ℕ) (d : Data) (ms : Members) → IsAbove k ms → slice_cmp nat_cmp k l ≡ Greater → IsAbove k (joined ms (member l d no_members))
above-joined k l d no_members h g = (g, tt)
above-joined k l d (member m e ms) h g = (h.0, above-joined k l d ms h.1 g)

-- a name above another, from the order the other way
pub above : (k l : List ℕ) → slice_cmp nat_cmp k l ≡ Less → slice_cmp nat_cmp l k ≡ Greater
above k l e = nat_list_cmp_total.antisymm l k ∙ ap ordering_reverse e

pub below : (k l : List ℕ) → slice_cmp nat_cmp k l ≡ Greater → slice_cmp nat_cmp l k ≡ Less
below k l e = nat_list_cmp_total.antisymm l k ∙ ap ordering_reverse e
