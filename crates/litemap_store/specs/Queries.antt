-- What a lookup needs of a query, that each key is one, and how keys compare with strings and slices.
use Rattle.std.specs.Prelude.{◌≡◌, ◌⊎◌, ℕ, List, String, Vec, string_bytes}
use Rattle.std.proofs.Common.{inl, inr, refl, sym, ap, ◌∙◌}
use Rattle.std.specs.declared.cmp.Ordering.{Ordering}
use Rattle.std.specs.declared.cmp.Ordering.TheVariants.{Less, Equal, Greater}
use Rattle.std.specs.Ordering.{nat_cmp, ordering_reverse}
use Rattle.std.specs.Cmp.{IsTotalOrder}
use Rattle.std.specs.Cmp.Lexicographic.{slice_cmp}

-- of two ascending keys, the lower one is below the query or the higher one above it: so over ascending keys a query finds
-- Less, then at most one Equal, then Greater
abbrev pub OneSide : {K Q : Type 0} → (K → K → Ordering) → (K → Q → Ordering) → Type 0
OneSide {K} {Q} cmp order = (q : Q) (x y : K) → cmp x y ≡ Less → (order x q ≡ Less) ⊎ (order y q ≡ Greater)

-- keys that are equal compare alike with a query
abbrev pub Respects : {K Q : Type 0} → (K → K → Ordering) → (K → Q → Ordering) → Type 0
Respects {K} {Q} cmp order = (q : Q) (x y : K) → cmp x y ≡ Equal → order x q ≡ order y q

-- a key is a query, by the order of the keys
pub key_one_side : {K : Type 0} {cmp : K → K → Ordering} → IsTotalOrder cmp → OneSide cmp cmp
key_one_side {cmp = cmp} o k x y h = by (cmp x k) refl
  where
    above : cmp k y ≡ Less → cmp y k ≡ Greater
    above l = o.antisymm y k ∙ ap ordering_reverse l

    by : (r : Ordering) → cmp x k ≡ r → (cmp x k ≡ Less) ⊎ (cmp y k ≡ Greater)
    by Less e = inl e
    by Equal e = inr (above (sym (o.congr x k y e) ∙ h))
    by Greater e = inr (above (o.trans k x y (o.antisymm k x ∙ ap ordering_reverse e) h))

pub key_respects : {K : Type 0} {cmp : K → K → Ordering} → IsTotalOrder cmp → Respects cmp cmp
key_respects o k x y = o.congr x y k

-- the order of strings: by their bytes, where a proper prefix is less
abbrev pub bytes_cmp : List ℕ → List ℕ → Ordering
bytes_cmp = slice_cmp nat_cmp

-- how a string compares with a query, by the bytes of both
abbrev pub by_string : {Z : Type 0} → String Z → List ℕ → Ordering
by_string key text = bytes_cmp (string_bytes key) text

-- how a vector compares with a slice, item by item: a proper prefix is less
abbrev pub by_slice : {T Z : Type 0} → (T → T → Ordering) → Vec T Z → List T → Ordering
by_slice cmp key slice = slice_cmp cmp key.items slice
