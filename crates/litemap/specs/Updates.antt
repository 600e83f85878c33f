-- What lookups find after one key has changed.
use Rattle.std.specs.Prelude.{◌≡◌, ◌≢◌, ◌+◌, ℕ, Bool, true, false, List, Option, None, Ok, Err, IsSome, Some, find, option_map}
use Rattle.std.specs.Prelude.{is_some, length, if◌then◌else◌}
use Rattle.std.specs.Cmp.Lexicographic.{slice_cmp}
use Rattle.std.specs.Option.{option_or}
use Rattle.std.specs.Ordering.{is_eq, nat_cmp}
use Rattle.std.specs.declared.cmp.Ordering.{Ordering}
use Rattle.std.specs.declared.cmp.Ordering.TheVariants.{Equal, Greater}
use Rattle.litemap_store.specs.Pairs.{at, cut, index_of, place, value_at}

-- a law of strings and bytes, and not of this map: by it a caller's search tells two of them apart
abbrev pub ExactBytes : Type 0
ExactBytes = (x y : List ℕ) → slice_cmp nat_cmp x y ≡ Equal → x ≡ y

-- each query that passes `apart`, by any order, finds what it found before
pub record Stays {X : Type 0} (apart : (X → Bool) → Type 0) (before after : List X) : Type 0 where
  pub found : (test : X → Bool) → apart test → find test after ≡ find test before
  pub exact : ExactBytes

-- the query q finds w (`None`: nothing), and each one that finds no key that q finds what it found before
pub record Finds {K Q V : Type 0} (order : K → Q → Ordering) (q : Q) (w : Option V) (before after : List (K × V)) : Type 0 where
  pub found : value_at order after q ≡ w
  pub others : Stays (λ test. (p : K × V) → order p.0 q ≡ Equal → test p ≡ false) before after

-- each key that q doesn't find finds what it found before
abbrev pub KeysStay : {K Q V : Type 0} → (K → K → Ordering) → (K → Q → Ordering) → Q → List (K × V) → List (K × V) → Type 0
KeysStay {K} cmp order q before after = (k : K) → is_eq (order k q) ≡ false → value_at cmp after k ≡ value_at cmp before k

-- the key `key` finds w, and so do those equal to it; each other one finds what it found before
pub record Updates {K V : Type 0} (cmp : K → K → Ordering) (key : K) (w : Option V) (before after : List (K × V)) : Type 0 where
  pub finds : Finds cmp key w before after
  pub each : (k : K) → value_at cmp after k ≡ (if is_eq (cmp k key) then w else value_at cmp before k)

-- the index of q, and the length
pub record Places {K Q V : Type 0} (order : K → Q → Ordering) (q : Q) (w : Option V) (before after : List (K × V)) : Type 0 where
  pub index : index_of order after q ≡ (if is_some w then Ok (place order before q) else Err (place order before q))
  pub len : length after + (if is_some (at order before q) then 1 else 0) ≡ length before + (if is_some w then 1 else 0)

-- the index of the key `key`, to which the value of q is moved, and the length
pub record MovesPlace {K Q V : Type 0} (order : K → Q → Ordering) (q : Q) (cmp : K → K → Ordering) (key : K) (before after : List (K × V)) : Type 0 where
  pub index : IsSome (at order before q) → index_of cmp after key ≡ Ok (place cmp (cut order before q) key)
  pub len : IsSome (at order before q) → length after + (if is_some (at cmp (cut order before q) key) then 1 else 0) ≡ length before

-- a value is moved from the query q to the key `key`
pub record Moves {K Q V : Type 0} (order : K → Q → Ordering) (q : Q) (cmp : K → K → Ordering) (key : K) (before after : List (K × V)) : Type 0 where
  pub found : IsSome (at order before q) → value_at cmp after key ≡ value_at order before q
  pub gone : ((p : K × V) → cmp p.0 key ≡ Equal → is_eq (order p.0 q) ≡ false) → value_at order after q ≡ None
  pub others : Stays (λ test. ((p : K × V) → order p.0 q ≡ Equal → test p ≡ false) × ((p : K × V) → cmp p.0 key ≡ Equal → test p ≡ false)) before after
  pub keys : (k : K) → is_eq (order k q) ≡ false → is_eq (cmp k key) ≡ false → value_at cmp after k ≡ value_at cmp before k

-- the test of a query that finds a key, and those equal to it and no other
abbrev pub IsKeyTest : {K V : Type 0} → (K → K → Ordering) → (K × V → Bool) → Type 0
IsKeyTest {K} {V} cmp test = (x y : K × V) → test x ≡ true → test y ≡ is_eq (cmp y.0 x.0)

-- a query finds in M what it finds in B if it finds something there, else what it finds in A
pub record Overlays {K V : Type 0} (cmp : K → K → Ordering) (A B M : List (K × V)) : Type 0 where
  pub all : (test : K × V → Bool) → IsKeyTest cmp test
      → option_map (λ p. p.1) (find test M) ≡ option_or (option_map (λ p. p.1) (find test B)) (option_map (λ p. p.1) (find test A))
  pub exact : ExactBytes

-- a query finds in D what it finds in A if it finds something in B, else nothing
pub record Displaces {K V : Type 0} (cmp : K → K → Ordering) (A B D : List (K × V)) : Type 0 where
  pub each : (k : K) → value_at cmp D k ≡ (if is_some (at cmp B k) then value_at cmp A k else None)
  pub all : (test : K × V → Bool) → IsKeyTest cmp test
      → option_map (λ p. p.1) (find test D) ≡ (if is_some (find test B) then option_map (λ p. p.1) (find test A) else None)

-- a query that finds something in B finds nothing in A
pub record NoCommon {K V : Type 0} (cmp : K → K → Ordering) (A B : List (K × V)) : Type 0 where
  pub each : (k : K) → IsSome (value_at cmp B k) → value_at cmp A k ≡ None
  pub all : (test : K × V → Bool) → IsKeyTest cmp test → IsSome (option_map (λ p. p.1) (find test B)) → option_map (λ p. p.1) (find test A) ≡ None

-- M is the part of L that passes `keep`: a query whose pairs all pass finds what it found before, one whose pairs all fail
-- nothing
pub record KeepsPart {K V : Type 0} (keep : K × V → Bool) (L M : List (K × V)) : Type 0 where
  pub stays : Stays (λ test. (p : K × V) → test p ≡ true → keep p ≡ true) L M
  pub gone : (test : K × V → Bool) → ((p : K × V) → test p ≡ true → keep p ≡ false) → find test M ≡ None

module _ {K V : Type 0} (cmp : K → K → Ordering) (p : K × V) where
  -- the pair p is taken out: its key found it, and finds nothing now; each other query finds what it found before
  pub record TakesPair (before after : List (K × V)) : Type 0 where
    pub found : at cmp before p.0 ≡ Some p
    pub gone : at cmp after p.0 ≡ None
    pub others : Stays (λ test. (x : K × V) → cmp x.0 p.0 ≡ Equal → test x ≡ false) before after
    pub keys : KeysStay cmp cmp p.0 before after

  -- no key that is found in the list is below that of p, or none is above
  abbrev pub IsLeast : List (K × V) → Type 0
  IsLeast L = (k : K) → IsSome (value_at cmp L k) → cmp p.0 k ≢ Greater

  abbrev pub IsGreatest : List (K × V) → Type 0
  IsGreatest L = (k : K) → IsSome (value_at cmp L k) → cmp k p.0 ≢ Greater
