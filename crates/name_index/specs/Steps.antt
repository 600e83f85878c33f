-- What the steps of opening, of lookups and of writing find and leave. Only private contracts and invariants cite these.
use Rattle.std.specs.Prelude.{◌≡◌, ℕ, ◌+◌, ◌*◌, ◌-◌, ◌<◌, ◌≤◌, Bool, true, false, List, [], ◌∷◌, ◌++◌, ◌||◌}
use Rattle.std.specs.Prelude.{length, take, drop, Option, None, Some, slice_get, if◌then◌else◌}
use Rattle.std.specs.Coded.{Coded-set, coded_ℕ, coded_list, coded×}
use Rattle.std.specs.Ordering.{is_lt}
use Rattle.std.specs.declared.cmp.Ordering.{Ordering}
use Rattle.std.specs.declared.cmp.Ordering.TheVariants.{Less, Greater}
use Rattle.std.proofs.Common.{refl, sym, ap, ◌∙◌, arith, get_or}
use Rattle.std.proofs.Math.Logic.{∥∥₁_prop, ∥∥₁_elim}
use Rattle.std.proofs.lemmas.List.{same_lists}
use Rattle.std.proofs.lemmas.Option.{slice_get-get_or}
use mathlib.Core.HLevel.{Σ_prop_path}
use Rattle.name_table.specs.Parts.{Begins, pair_parts, text_parts}
use Rattle.name_table.proofs.OneReading.{agree_pairs, begins_unique, pair_parts-inj}
use Rattle.name_index.specs.Index.{IsEntry, IsNumberAt, IsPairAt, IsTextAt, entries_size, index_size}
use Rattle.name_index.specs.Names.{AreNames, begins, text_order}
use Rattle.name_index.specs.Tables.{IsRisingTable}
use denote.Ref.{Bor}

-- ---- entries

-- the bytes begin with a string after its length
abbrev pub BeginsText : List ℕ → Type 0
BeginsText bytes = (text : List ℕ) × (rest : List ℕ) × Begins bytes (text_parts text) rest

-- the bytes begin with a key and its value
abbrev pub BeginsPair : List ℕ → Type 0
BeginsPair bytes = (pair : List ℕ × List ℕ) × (rest : List ℕ) × Begins bytes (pair_parts (pair ∷ [])) rest

-- the bytes begin with the pair at an index
abbrev pub BeginsEntry : List (List ℕ × List ℕ) → ℕ → List ℕ → Type 0
BeginsEntry pairs index bytes =
    (pair : List ℕ × List ℕ) × (slice_get pairs index ≡ Some pair) × (rest : List ℕ) × Begins bytes (pair_parts (pair ∷ [])) rest

-- the pair stands at the offset of the index
abbrev pub IsPlaced : List ℕ → List ℕ → ℕ → List ℕ × List ℕ → Type 0
IsPlaced bytes offsets index pair = (place : ℕ) × (slice_get offsets index ≡ Some place) × (place ≤ length bytes)
    × (rest : List ℕ) × Begins (drop place bytes) (pair_parts (pair ∷ [])) rest

-- the bytes begin with a table whose keys ascend, and its pairs stand at the offsets
abbrev pub IsIndexed : List ℕ → List ℕ → Type 0
IsIndexed bytes offsets = (pairs : List (List ℕ × List ℕ))
    × IsRisingTable bytes pairs × AreNames (IsPlaced bytes offsets) (length offsets) pairs

-- of so many entries this one has the key, which ends before the offset
abbrev pub HasKey : List ℕ → ℕ → ℕ → List ℕ → ℕ → Type 0
HasKey bytes len index key after = (far : ℕ) × IsNumberAt bytes (4 + 4 * index) far
    × IsTextAt bytes (4 + 4 * len + far) key × (after ≡ 4 + 4 * len + far + 4 + length key)

-- there is no such entry
abbrev pub NoEntry : List ℕ → ℕ → ℕ → Type 0
NoEntry bytes len index = (pair : List ℕ × List ℕ) → IsEntry bytes len index pair → ⊥

-- so many entries are there, and take no more bytes than there are after the offsets
abbrev pub HasEntries : List ℕ → ℕ → Type 0
HasEntries bytes len = (pairs : List (List ℕ × List ℕ))
    × AreNames (IsEntry bytes len) len pairs × (entries_size pairs ≤ length bytes - (4 + 4 * len))

-- they are not all there, or an index of them takes more bytes than there are
abbrev pub NoEntries : List ℕ → ℕ → Type 0
NoEntries bytes len = (pairs : List (List ℕ × List ℕ)) → AreNames (IsEntry bytes len) len pairs → index_size pairs ≤ length bytes → ⊥

-- whether a key is above the last one, if there is one
abbrev pub comes_after : Option (Bor (List ℕ)) → List ℕ → Bool
comes_after None key = true
comes_after (Some last) key = is_lt (text_order last.now key)

-- ---- one list of pairs

-- at an offset stands one pair
pub placed_one : (bytes offsets : List ℕ) (i : ℕ) (p q : List ℕ × List ℕ)
    → IsPlaced bytes offsets i p → IsPlaced bytes offsets i q → p ≡ q
placed_one bytes offsets i p q a b =
    let e : a.0 ≡ b.0 = cc in
    let r : Begins (drop b.0 bytes) (pair_parts (p ∷ [])) a.3 = rw (← e) a.4 in
    let u = begins_unique (drop b.0 bytes) (agree_pairs (p ∷ []) (q ∷ []) refl) r b.4 in
    let f : p ∷ [] ≡ q ∷ [] = pair_parts-inj (p ∷ []) (q ∷ []) u.1 in
    cc

pub number_one : (bytes : List ℕ) (at n m : ℕ) → IsNumberAt bytes at n → IsNumberAt bytes at m → n ≡ m
number_one bytes at n m p q = sym p.value ∙ q.value

pub text_one : (bytes : List ℕ) (at : ℕ) (s t : List ℕ) → IsTextAt bytes at s → IsTextAt bytes at t → s ≡ t
text_one bytes at s t p q =
    let e : length s ≡ length t = number_one bytes at (length s) (length t) p.size q.size in
    sym p.there ∙ ap (λ n. take n (drop (at + 4) bytes)) e ∙ q.there

pub entry_one : (bytes : List ℕ) (len i : ℕ) (p q : List ℕ × List ℕ) → IsEntry bytes len i p → IsEntry bytes len i q → p ≡ q
entry_one bytes len i p q a b =
    let e : a.0 ≡ b.0 = number_one bytes (4 + 4 * i) a.0 b.0 a.1 b.1 in
    let at = 4 + 4 * len + b.0 in
    let k : p.0 ≡ q.0 = text_one bytes at p.0 q.0 (rw (← e) a.2.0) b.2.0 in
    let v : p.1 ≡ q.1 = text_one bytes (at + 4 + length q.0) p.1 q.1 (rw (← e, ← k) a.2.1) b.2.1 in
    λ i. (k i, v i)

module _ (At : ℕ → List ℕ × List ℕ → Type 0) (one : (i : ℕ) (p q : List ℕ × List ℕ) → At i p → At i q → p ≡ q) (len : ℕ) where
  pub names_one : (J K : List (List ℕ × List ℕ)) → AreNames At len J → AreNames At len K → J ≡ K
  names_one J K a b =
      let e : length J ≡ length K = a.number ∙ sym b.number in
      same_lists J K e (λ k d l.
      one k (get_or J k d) (get_or K k d) (a.each k (get_or J k d) (slice_get-get_or J k d l))
      (b.each k (get_or K k d) (slice_get-get_or K k d (omega (arith, e, l)))))

pub pairs_set : (J K : List (List ℕ × List ℕ)) → IsProp (J ≡ K)
pairs_set J K = Coded-set (coded_list (coded× (coded_list coded_ℕ) (coded_list coded_ℕ))) J K

-- the pairs of so many entries
abbrev pub Listed : (ℕ → List ℕ × List ℕ → Type 0) → ℕ → Type 0
Listed At len = (pairs : List (List ℕ × List ℕ)) × ∥ AreNames At len pairs ∥₁

abbrev pub PlacedPairs : List ℕ → List ℕ → Type 0
PlacedPairs bytes offsets = Listed (IsPlaced bytes offsets) (length offsets)

-- there is one such list at most
pub Listed-prop : {At : ℕ → List ℕ × List ℕ → Type 0} {len : ℕ} → ((i : ℕ) (p q : List ℕ × List ℕ) → At i p → At i q → p ≡ q)
    → IsProp (Listed At len)
Listed-prop {At} {len} one s t =
    Σ_prop_path (λ pairs. ∥∥₁_prop)
    (∥∥₁_elim s.1 (pairs_set s.0 t.0) (λ a. ∥∥₁_elim t.1 (pairs_set s.0 t.0) (λ b. names_one At one len s.0 t.0 a b)))

-- ---- a search

-- how a name compares with a string; or whether it is below the string or begins with it
abbrev pub order_by : Bool → List ℕ → List ℕ → Ordering
order_by false name text = text_order name text
order_by true name text = if is_lt (text_order name text) || begins name text then Less else Greater

-- ---- what is written

-- new is old with so many bytes after it
pub record Adds (old new : List ℕ) (size : ℕ) : Type 0 where
  pub more : List ℕ
  pub added : new ≡ old ++ more
  pub size_is : length more ≡ size

-- the number of the pairs is written, and the offsets of the first `index`
pub record AreOffsets (bytes : List ℕ) (pairs : List (List ℕ × List ℕ)) (index : ℕ) : Type 0 where
  pub number : IsNumberAt bytes 0 (length pairs)
  pub size : length bytes ≡ 4 + 4 * index
  pub noted : (i : ℕ) → i < index → IsNumberAt bytes (4 + 4 * i) (entries_size (take i pairs))

-- new is old with the first `index` pairs after it
pub record AddsPairs (old new : List ℕ) (pairs : List (List ℕ × List ℕ)) (index : ℕ) : Type 0 where
  pub adds : Adds old new (entries_size (take index pairs))
  pub there : (i : ℕ) (pair : List ℕ × List ℕ) → i < index → slice_get pairs i ≡ Some pair
      → IsPairAt new (length old + entries_size (take i pairs)) pair
