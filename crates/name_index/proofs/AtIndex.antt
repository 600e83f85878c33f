-- Entries at their indices: the one at an index, one more of them, and whether their keys ascend.
use Rattle.std.proofs.Common.{◌≡◌, true, false, ℕ, zero, suc, ◌+◌, ◌<◌, List, [], ◌∷◌, ◌++◌, length, get_or, Option, Some, None, slice_get, refl, sym, ap, ◌∙◌}
use Rattle.std.proofs.Common.{◌-◌, ◌*◌, ◌≤◌, drop, min, slice_range, take, subst, arith, length-append, lt_of_not-le, Bor, is_lt, Less, Ok, Err}
use Rattle.std.proofs.Math.Logic.{∥∥₁_elim}
use Rattle.std.proofs.lemmas.List.{drop_more, get_or-take, length-drop, length-take, same_lists, take-append-le, take_min}
use Rattle.std.proofs.lemmas.List.Sums.{sum_by-cons, sum_by-take-le, sum_by_push}
use Rattle.std.proofs.lemmas.Option.{get_or_from_slice_get, slice_get-get_or}
use Rattle.std.specs.Cmp.{IsTotalOrder}
use Rattle.std.specs.Iterator.{MakesProgress, at_most}
use Rattle.std.specs.Cmp.Lexicographic.{on_texts}
use Rattle.litemap_store.specs.Pairs.{AllBelow, Rising, at, value_at}
use Rattle.litemap_store.specs.Queries.{OneSide, key_one_side}
use Rattle.litemap_store.specs.Splits.{Splits}
use Rattle.litemap_store.proofs.Lists.Ends.{AllBelow-from_last, Rising-push}
use Rattle.litemap_store.proofs.Lists.Parts.{Less-from_is_lt, Less-from_Rising}
use Rattle.litemap_store.proofs.Search.Splitting.{there-from_Splits}
use Rattle.name_index.specs.{AreNames, Listed, comes_after, names_one, pairs_set, text_order, HasKey, IsEntry, IsIndex, IsKeyAt, NoEntry}
use Rattle.name_index.specs.{IfOverlapping, IsNumberAt, NoEntries, Overlaps, entries_size, entry_one, number_one}
use Rattle.name_index.specs.{pair_size, text_one}
use Rattle.name_index.specs.declared.error.IndexFault.{IndexFault}
use Rattle.name_index.specs.declared.error.IndexFault.TheVariants.{NotAscending, NotUtf8, Overlapping, Truncated}
use Rattle.name_index.proofs.Writing.{text_within}

pub text_order_total : IsTotalOrder text_order
text_order_total = on_texts (λ (a : List ℕ). a)

abbrev pub one_side : OneSide text_order text_order
one_side = key_one_side text_order_total

-- ---- the list that is given

module _ (At : ℕ → List ℕ × List ℕ → Type 0) (one : (i : ℕ) (p q : List ℕ × List ℕ) → At i p → At i q → p ≡ q) (len : ℕ)
    (s : Listed At len) (J : List (List ℕ × List ℕ)) (a : AreNames At len J) where
  pub listed_is : s.0 ≡ J
  listed_is = ∥∥₁_elim s.1 (pairs_set s.0 J) (λ b. names_one At one len s.0 J b a)

  pub listed_holds : AreNames At len s.0
  listed_holds = rw listed_is a

module _ {At : ℕ → List ℕ × List ℕ → Type 0} {len : ℕ} {pairs : List (List ℕ × List ℕ)} (a : AreNames At len pairs) (i : ℕ) (l : i < len) where
  -- the entry at an index
  pub name_at : (pair : List ℕ × List ℕ) × (slice_get pairs i ≡ Some pair) × At i pair
  name_at =
      let e = slice_get-get_or pairs i ([], []) (omega (arith, a.number, l)) in
      (get_or pairs i ([], []), e, a.each i (get_or pairs i ([], [])) e)

  -- an entry that is read there is the one of the list
  pub name_is : ((i : ℕ) (p q : List ℕ × List ℕ) → At i p → At i q → p ≡ q) → (pair : List ℕ × List ℕ) → At i pair → slice_get pairs i ≡ Some pair
  name_is one pair h = name_at.1 ∙ ap Some (one i name_at.0 pair name_at.2 h)

-- so many names are the first ones of more
pub names_first : (At : ℕ → List ℕ × List ℕ → Type 0) → ((i : ℕ) (p q : List ℕ × List ℕ) → At i p → At i q → p ≡ q) → (n len : ℕ) → n ≤ len
    → (J K : List (List ℕ × List ℕ)) → AreNames At n J → AreNames At len K → J ≡ take n K
names_first At one n len l J K a b =
    same_lists J (take n K) (omega (arith, a.number, length-take n K, b.number, l)) (λ k d h.
    let f : k < length K = omega (arith, h, a.number, b.number, l) in
    one k (get_or J k d) (get_or K k d) (a.each k (get_or J k d) (slice_get-get_or J k d h)) (b.each k (get_or K k d) (slice_get-get_or K k d f))
    ∙ sym (get_or-take n K k d (omega (arith, h, a.number))))

-- ---- between two indices

pub slice_next : (L : List (List ℕ × List ℕ)) (a b : ℕ) (p : List ℕ × List ℕ) → a < b → a < length L → slice_get L a ≡ Some p
    → slice_range L a b ≡ p ∷ slice_range L (a + 1) b
slice_next L a b p l h e =
    let n : b - a ≡ suc (b - (a + 1)) = omega (arith, l) in
    ap (λ n. take n (drop a L)) n ∙ ap (λ M. take (suc (b - (a + 1))) M) (drop_more L a p h)
    ∙ ap (λ q. q ∷ slice_range L (a + 1) b) (get_or_from_slice_get L a p p e)

pub slice_none : (L : List (List ℕ × List ℕ)) (a b : ℕ) → b ≤ a → slice_range L a b ≡ []
slice_none L a b h = let e : b - a ≡ 0 = omega (arith, h) in rw e refl

pub slice_clamped : (L : List (List ℕ × List ℕ)) (a b : ℕ) → slice_range L a (min b (length L)) ≡ slice_range L a b
slice_clamped L a b =
    let e : min b (length L) - a ≡ min (b - a) (length (drop a L)) = omega (arith, length-drop a L) in
    ap (λ k. take k (drop a L)) e ∙ take_min (b - a) (drop a L)

pub slice_size : (L : List (List ℕ × List ℕ)) (a b : ℕ) → b ≤ length L → length (slice_range L a b) ≡ b - a
slice_size L a b h = omega (arith, h, length-take (b - a) (drop a L), length-drop a L)

-- ---- one more

-- the key of the last pair, if there is one
abbrev pub LastKey : Option (Bor (List ℕ)) → List (List ℕ × List ℕ) → Type 0
LastKey None pairs = pairs ≡ []
LastKey (Some key) pairs = (front : List (List ℕ × List ℕ)) × (value : List ℕ) × (pairs ≡ front ++ (key.now, value) ∷ [])

pub last_at : (front : List (List ℕ × List ℕ)) (p : List ℕ × List ℕ) → slice_get (front ++ p ∷ []) (length front) ≡ Some p
last_at [] p = refl
last_at (q ∷ front) p = last_at front p

pub is_rising_from : (last : Option (Bor (List ℕ))) (L : List (List ℕ × List ℕ)) (p : List ℕ × List ℕ) → LastKey last L → Rising text_order L
    → comes_after last p.0 ≡ true → Rising text_order (L ++ p ∷ [])
is_rising_from None L p e r a = let P : List (List ℕ × List ℕ) → Type 0 = λ M. Rising text_order (M ++ p ∷ []) in subst P (sym e) (tt, tt)
is_rising_from (Some last) L p e r a =
    let M = e.0 ++ (last.now, e.1) ∷ [] in
    let s : Rising text_order M = rw (← e.2) r in
    let b : AllBelow text_order M p.0 =
    AllBelow-from_last text_order_total M p.0 (length e.0) (last.now, e.1) s (omega (arith, length-append e.0 ((last.now, e.1) ∷ [])))
    (last_at e.0 (last.now, e.1)) (Less-from_is_lt (text_order last.now p.0) (sym a)) in
    rw e.2 (Rising-push text_order M p.0 p.1 s b)

rising_last : (L : List (List ℕ × List ℕ)) (x y : List ℕ × List ℕ) → Rising text_order ((L ++ x ∷ []) ++ y ∷ []) → text_order x.0 y.0 ≡ Less
rising_last [] x y r = r.0.0
rising_last (z ∷ L) x y r = rising_last L x y r.1

pub not_rising : (last : Option (Bor (List ℕ))) (L : List (List ℕ × List ℕ)) (p : List ℕ × List ℕ) → LastKey last L → comes_after last p.0 ≡ false
    → Rising text_order (L ++ p ∷ []) → ⊥
not_rising None L p e n r = let h : true ≡ false = n in absurd (cc)
not_rising (Some last) L p e n r = let h : is_lt (text_order last.now p.0) ≡ true = ap is_lt (rising_last e.0 (last.now, e.1) p (rw (← e.2) r)) in absurd (cc)

-- what holds of each element by its index, and of one more
each_push : {X : Type 0} (P : ℕ → X → Type 0) (L : List X) (x : X) → ((i : ℕ) (y : X) → slice_get L i ≡ Some y → P i y) → P (length L) x
    → (i : ℕ) (y : X) → slice_get (L ++ x ∷ []) i ≡ Some y → P i y
each_push P [] x each h zero y e = let s : x ≡ y = cc in subst (λ z. P 0 z) s h
each_push P [] x each h (suc i) y e = absurd (cc)
each_push P (z ∷ L) x each h zero y e = each zero y e
each_push P (z ∷ L) x each h (suc i) y e = each_push (λ j w. P (suc j) w) L x (λ j w f. each (suc j) w f) h i y e

pub names_none : (At : ℕ → List ℕ × List ℕ → Type 0) → AreNames At 0 []
names_none At = record { number = refl; each = λ i p e. absurd (none i p e); rises = tt }
  where
    none : (i : ℕ) (p : List ℕ × List ℕ) → slice_get [] i ≡ Some p → ⊥
    none zero p e = absurd (cc)
    none (suc i) p e = absurd (cc)

pub names_push : {At Then : ℕ → List ℕ × List ℕ → Type 0} {len : ℕ} (pairs : List (List ℕ × List ℕ)) (last : Option (Bor (List ℕ))) (pair : List ℕ × List ℕ)
    → AreNames At len pairs → LastKey last pairs → comes_after last pair.0 ≡ true → ((i : ℕ) (p : List ℕ × List ℕ) → At i p → Then i p) → Then len pair
    → AreNames Then (len + 1) (pairs ++ pair ∷ [])
names_push {Then = Then} pairs last pair a l above weaker h = record {
  number = omega (arith, a.number, length-append pairs (pair ∷ []));
  each = each_push Then pairs pair (λ i p e. weaker i p (a.each i p e)) (rw a.number h);
  rises = is_rising_from last pairs pair l a.rises above;
}

-- ---- what a search finds

pub value_at_split : (pairs : List (List ℕ × List ℕ)) (key : List ℕ) (i : ℕ) (p : List ℕ × List ℕ) → Splits text_order pairs key (Ok i)
    → slice_get pairs i ≡ Some p → value_at text_order pairs key ≡ Some p.1
value_at_split pairs key i p s e =
    let a : at text_order pairs key ≡ Some p = sym (there-from_Splits text_order pairs key (Ok i) s) ∙ e in
    rw a refl

pub value_at_none : (pairs : List (List ℕ × List ℕ)) (key : List ℕ) (i : ℕ) → Splits text_order pairs key (Err i) → value_at text_order pairs key ≡ None
value_at_none pairs key i s = rw s.missing refl

-- ---- an iterator over them has one less after each

pub left_goes : {A X : Type 0} (x : A) (y : X) (L M : List X) → L ≡ y ∷ M → MakesProgress (λ _. Unit {0}) (λ l. at_most (length l)) L (Some x) M
left_goes x y L M e = record { on = λ _. (tt, tt, omega (arith, ap length e)); keeps = tt; rests = λ _. tt }

-- ---- the bytes of an index

module _ {bytes : List ℕ} {len : ℕ} {pairs : List (List ℕ × List ℕ)} (a : AreNames (IsEntry bytes len) len pairs) (index : ℕ) (l : index < len) where
  -- an entry is there, and a key that is read is its own
  pub entry_there : NoEntry bytes len index → ⊥
  entry_there none = let t = name_at a index l in none t.0 t.2

  pub entry_is : (pair : List ℕ × List ℕ) → IsEntry bytes len index pair → slice_get pairs index ≡ Some pair
  entry_is = name_is a index l (entry_one bytes len)

  pub key_is : (key : List ℕ) (after : ℕ) → HasKey bytes len index key after → IsKeyAt pairs index key
  key_is key after h =
      let t = name_at a index l in
      let e : t.2.0 ≡ h.0 = number_one bytes _ t.2.0 h.0 t.2.1 h.1 in
      let k : t.0.0 ≡ key = text_one bytes _ t.0.0 key (rw (← e) t.2.2.0) h.2 in
      (t.0.1, t.1 ∙ ap (λ s. Some (s, t.0.1)) k)

-- an entry lies within the bytes, after the offsets
pub entry_within : (bytes : List ℕ) (len index : ℕ) (pair : List ℕ × List ℕ) → IsEntry bytes len index pair → 4 + 4 * len + pair_size pair ≤ length bytes
entry_within bytes len index pair r =
    omega (arith, text_within bytes (4 + 4 * len + r.0 + 4 + length pair.0) pair.1 r.2.1)

-- if an entry is missing, so are all
pub missing : {bytes : List ℕ} {len : ℕ} (index : ℕ) → index < len → NoEntry bytes len index → NoEntries bytes len
missing index l none pairs a fits = entry_there a index l none

-- bytes have one index
pub index_unique : (bytes : List ℕ) (J K : List (List ℕ × List ℕ)) → IsIndex bytes J → IsIndex bytes K → J ≡ K
index_unique bytes J K x y =
    let e : y.len ≡ x.len = number_one bytes 0 y.len x.len y.number x.number in
    names_one (IsEntry bytes x.len) (entry_one bytes x.len) x.len J K x.entries (subst (λ n. AreNames (IsEntry bytes n) n K) e y.entries)

-- entries that take no more bytes than there are after the offsets are an index
pub is_index : (bytes : List ℕ) (len : ℕ) (pairs : List (List ℕ × List ℕ)) → IsNumberAt bytes 0 len → AreNames (IsEntry bytes len) len pairs
    → entries_size pairs ≤ length bytes - (4 + 4 * len) → IsIndex bytes pairs
is_index bytes len [] n a h = record { len = len; number = n; entries = a; fits = omega (arith, n.within) }
is_index bytes len (p ∷ pairs) n a h = record { len = len; number = n; entries = a; fits = omega (arith, h, sum_by-cons pair_size p pairs, a.number) }

pub if_overlapping_weaker : {P Q : ℕ → Type 0} (error : IndexFault) → ((index : ℕ) → P index → Q index) → IfOverlapping error P → IfOverlapping error Q
if_overlapping_weaker (Truncated at) h p = tt
if_overlapping_weaker (NotUtf8 at) h p = tt
if_overlapping_weaker (NotAscending index) h p = tt
if_overlapping_weaker (Overlapping index) h p = h index p

-- ---- a check's state

-- the first entries were read, their keys ascend, and so many bytes are left
pub record Followed (bytes : List ℕ) (len : ℕ) (last : Option (Bor (List ℕ))) (left index : ℕ) : Type 0 where
  pub pairs : List (List ℕ × List ℕ)
  pub names : AreNames (IsEntry bytes len) index pairs
  pub last_is : LastKey last pairs
  pub left_is : left + entries_size pairs ≡ length bytes - (4 + 4 * len)

pub followed_next : (bytes : List ℕ) (len index : ℕ) (last : Option (Bor (List ℕ))) (left next : ℕ) (key value : Bor (List ℕ))
    → Followed bytes len last left index → IsEntry bytes len index (key.now, value.now) → comes_after last key.now ≡ true
    → next + pair_size (key.now, value.now) ≡ left → Followed bytes len (Some key) next (index + 1)
followed_next bytes len index last left next key value f r a e = record {
  pairs = f.pairs ++ (key.now, value.now) ∷ [];
  names = names_push f.pairs last (key.now, value.now) f.names f.last_is a (λ i p h. h) r;
  last_is = (f.pairs, value.now, refl);
  left_is = omega (arith, f.left_is, sum_by_push pair_size f.pairs (key.now, value.now), e);
}

-- if the next entry takes more bytes than are left, the entries overlap
pub overlaps : (bytes : List ℕ) (len index : ℕ) (last : Option (Bor (List ℕ))) (left : ℕ) (key value : List ℕ) → index < len
    → Followed bytes len last left index → IsEntry bytes len index (key, value) → comes_after last key ≡ true → left < pair_size (key, value)
    → Overlaps bytes len index
overlaps bytes len index last left key value l f r a h = record {
  within = l;
  before = f.pairs;
  pair = (key, value);
  entries = names_push f.pairs last (key, value) f.names f.last_is a (λ i p h. h) r;
  fits = omega (arith, f.left_is, entry_within bytes len index (key, value) r);
  exceeds = omega (arith, f.left_is, h, sum_by_push pair_size f.pairs (key, value), entry_within bytes len index (key, value) r);
}

-- with the entry at which they overlap, entries take more bytes than there are
pub exceeded : (bytes : List ℕ) (len index n : ℕ) → Overlaps bytes len index → index < n → (pairs : List (List ℕ × List ℕ))
    → AreNames (IsEntry bytes len) n pairs → length bytes < 4 + 4 * len + entries_size pairs
exceeded bytes len index n o l pairs a =
    let L = o.before ++ o.pair ∷ [] in
    let e : L ≡ take (index + 1) pairs = names_first (IsEntry bytes len) (entry_one bytes len) (index + 1) n (omega (arith, l)) L pairs o.entries a in
    omega (arith, o.exceeds, ap entries_size e, sum_by-take-le pair_size pairs (index + 1))

-- the entries of an index don't overlap
pub overlaps_none : (bytes : List ℕ) (len index : ℕ) → Overlaps bytes len index → NoEntries bytes len
overlaps_none bytes len index o pairs a fits = omega (arith, exceeded bytes len index len o o.within pairs a, fits, a.number)

-- those that were followed don't overlap
pub followed_short : (bytes : List ℕ) (len index other : ℕ) (last : Option (Bor (List ℕ))) (left : ℕ) → Followed bytes len last left index
    → Overlaps bytes len other → index ≤ other
followed_short bytes len index other last left f o =
    let h : index < other + 1 = lt_of_not-le (λ (l : other + 1 ≤ index).
    let x = exceeded bytes len other index o (omega (arith, l)) f.pairs f.names in
    let absent : ⊥ = omega (arith, x, f.left_is, o.fits) in
    absent) in
    omega (arith, h)

-- they overlap at one index
overlaps_least : (bytes : List ℕ) (len i j : ℕ) → Overlaps bytes len i → Overlaps bytes len j → i ≤ j
overlaps_least bytes len i j o p =
    let h : i < j + 1 = lt_of_not-le (λ (l : j + 1 ≤ i).
    let size : length o.before ≡ i = omega (arith, o.entries.number, length-append o.before (o.pair ∷ [])) in
    let L = p.before ++ p.pair ∷ [] in
    let M = o.before ++ o.pair ∷ [] in
    let e : L ≡ take (j + 1) M =
    names_first (IsEntry bytes len) (entry_one bytes len) (j + 1) (i + 1) (omega (arith, l)) L M p.entries o.entries in
    let s : take (j + 1) M ≡ take (j + 1) o.before = take-append-le (j + 1) o.before (o.pair ∷ []) (omega (arith, l, size)) in
    let absent : ⊥ = omega (arith, p.exceeds, ap entries_size (e ∙ s), sum_by-take-le pair_size o.before (j + 1), o.fits) in
    absent) in
    omega (arith, h)

pub overlaps_once : (bytes : List ℕ) (len i j : ℕ) → Overlaps bytes len i → Overlaps bytes len j → i ≡ j
overlaps_once bytes len i j o p = omega (arith, overlaps_least bytes len i j o p, overlaps_least bytes len j i p o)

-- if the next key isn't above the last one, there are no more entries whose keys ascend
pub falls : (bytes : List ℕ) (len n index : ℕ) (last : Option (Bor (List ℕ))) (left : ℕ) (key value : List ℕ) → index < n
    → Followed bytes len last left index → IsEntry bytes len index (key, value) → comes_after last key ≡ false
    → (pairs : List (List ℕ × List ℕ)) → AreNames (IsEntry bytes len) n pairs → ⊥
falls bytes len n index None left key value l f r e pairs a = let h : true ≡ false = e in absurd (cc)
falls bytes len n index (Some last) left key value l f r e pairs a =
    let front = f.last_is.0 in
    let p : List ℕ × List ℕ = (last.now, f.last_is.1) in
    let size : index ≡ length front + 1 = omega (arith, f.names.number, ap length f.last_is.2, length-append front (p ∷ [])) in
    let g : slice_get f.pairs (length front) ≡ Some p = rw f.last_is.2 (last_at front p) in
    let before : index - 1 ≡ length front = omega (arith, size) in
    let h = name_is a (length front) (omega (arith, size, l)) (entry_one bytes len) p (f.names.each (length front) p g) in
    let here = name_is a index l (entry_one bytes len) (key, value) r in
    let is : text_order last.now key ≡ Less =
    Less-from_Rising text_order pairs index p (key, value) (omega (arith, size)) a.rises (rw before h) here in
    let k : is_lt (text_order last.now key) ≡ true = ap is_lt is in
    absurd (cc)
