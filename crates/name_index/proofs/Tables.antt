-- Entries of a name table: what is read if it is known what stands there, and reading on while the keys ascend and offsets are noted.
use Rattle.std.proofs.Common.{◌≡◌, ℕ, ◌-◌, ◌<◌, ◌≤◌, List, [], ◌∷◌, ◌++◌, length, drop, take, slice_get, Some, ap, refl, sym, ◌∙◌, arith, get_or, zero, suc}
use Rattle.std.proofs.Common.{◌+◌, Option, None, true, inl, inr, ⊎_elim, append_assoc, append-nil, length-append, map, Bor}
use Rattle.std.proofs.Math.Seq.{take-length}
use Rattle.std.proofs.lemmas.List.{length-drop, drop_at}
use Rattle.std.proofs.lemmas.Option.{slice_get-get_or}
use Rattle.name_table.specs.Faults.{TextFault, PartFault}
use Rattle.name_table.specs.Parts.{Part, Begins, Number, text_parts, pair_parts, number_limit}
use Rattle.name_table.specs.declared.error.NameFault.{NameFault}
use Rattle.name_table.proofs.OneReading.{Agree, agree_pairs, agree_texts, begins_unique, pair_parts-inj, parts_no_fault, table_unique}
use Rattle.name_table.proofs.PartLemmas.{begins_split}
use Rattle.name_index.specs.{AreNames, BeginsEntry, BeginsText, IsKeyAt, IsPlaced, IsFault, IsIndexed, IsMalformed, IsRisingTable, NextStops, WrittenIsOpened}
use Rattle.name_index.specs.{comes_after, text_order}
use Rattle.name_index.proofs.AtIndex.{name_at, LastKey, names_none, names_push}
use Rattle.litemap_store.specs.Pairs.{Rising}
use Rattle.litemap_store.proofs.Last.Taken.{Rising-left}
use Rattle.name_table.specs.Positions.{IsAfter, IsCounted, Remaining, shown}
use Rattle.name_table.specs.ReadOn.{after_further, begins_none, begins_then}
use Rattle.name_table.proofs.ReadAgain.{shown_rise}
use Rattle.name_index.specs.declared.error.NameIndexFault.{NameIndexFault}
use Rattle.name_index.specs.declared.error.NameIndexFault.TheVariants.{Format, NoRoom, NotAscending, TooFar}

agree_text : (s t : List ℕ) → Agree (text_parts s) (text_parts t)
agree_text s t = agree_texts s t [] [] (λ _ _. tt)

pub agree_numbers : (n m : ℕ) → Agree (Number n ∷ []) (Number m ∷ [])
agree_numbers n m = (tt, λ _. tt)

-- the number that bytes begin with is one
pub one_number : {n m : ℕ} {rest other : List ℕ} (bytes : List ℕ) → (p : Begins bytes (Number n ∷ []) rest) → (q : Begins bytes (Number m ∷ []) other)
    → (p.front ≡ q.front) × (n ≡ m) × (rest ≡ other)
one_number {n} {m} bytes p q =
    let u = begins_unique bytes (agree_numbers n m) p q in
    let e : Number n ∷ [] ≡ Number m ∷ [] = u.1 in
    let f : n ≡ m = cc in
    (u.0, f, u.2)

-- a string that is there has no error
pub text_no_fault : (bytes rest text : List ℕ) (place : ℕ) (error : NameFault) → Begins bytes (text_parts text) rest → TextFault bytes place error → ⊥
text_no_fault bytes rest text place error b w = parts_no_fault (text_parts text) (text_parts w.0) bytes rest place error (agree_text text w.0) b w.1

-- the string that is read is the one that is there, and what follows it comes after
pub text_next : (bytes rest middle s t : List ℕ) (xs : List Part) → Begins bytes (text_parts t ++ xs) rest → Begins bytes (text_parts s) middle
    → (s ≡ t) × Begins middle xs rest
text_next bytes rest middle s t xs p q =
    let d = begins_split bytes rest (text_parts t) xs p in
    let u = begins_unique bytes (agree_text s t) q d.1 in
    let f : text_parts s ≡ text_parts t = u.1 in
    let g : s ≡ t = cc in
    (g, rw u.2 d.2)

-- the same of a pair
pub pair_next : (bytes rest after : List ℕ) (p q : List ℕ × List ℕ) (J : List (List ℕ × List ℕ)) → Begins bytes (pair_parts (p ∷ J)) after
    → Begins bytes (pair_parts (q ∷ [])) rest → (q ≡ p) × Begins rest (pair_parts J) after
pair_next bytes rest after p q J b c =
    let d = begins_split bytes after (pair_parts (p ∷ [])) (pair_parts J) b in
    let u = begins_unique bytes (agree_pairs (q ∷ []) (p ∷ []) refl) c d.1 in
    let f : q ∷ [] ≡ p ∷ [] = pair_parts-inj (q ∷ []) (p ∷ []) u.1 in
    let g : q ≡ p = cc in
    (g, rw u.2 d.2)

-- ---- the entry at an index

module _ (pairs : List (List ℕ × List ℕ)) (index : ℕ) (bytes : List ℕ) (b : BeginsEntry pairs index bytes) where
  pub text_begins : BeginsText bytes
  text_begins = let d = begins_split bytes b.2 (text_parts b.0.0) (text_parts b.0.1) b.3 in (b.0.0, d.0, d.1)

  pub key_there : (key after : List ℕ) → Begins bytes (text_parts key) after → IsKeyAt pairs index key
  key_there key after k =
      let n = text_next bytes b.2 after key b.0.0 (text_parts b.0.1) b.3 k in
      (b.0.1, b.1 ∙ ap (λ k. Some (k, b.0.1)) (sym n.0))

  pub pair_there : (pair : List ℕ × List ℕ) (after : List ℕ) → Begins bytes (pair_parts (pair ∷ [])) after → slice_get pairs index ≡ Some pair
  pair_there pair after p = b.1 ∙ ap Some (sym (pair_next bytes after b.2 b.0 pair [] b.3 p).0)

-- it begins at its offset
module _ (bytes items offsets : List ℕ) (pairs now : List (List ℕ × List ℕ)) (a : AreNames (IsPlaced bytes items) (length items) pairs) (v : offsets ≡ items)
    (w : pairs ≡ now) (index : ℕ) (l : index < length now) where
  placed : AreNames (IsPlaced bytes offsets) (length offsets) pairs
  placed = rw v a

  within : index < length offsets
  within = omega (arith, l, ap length w, placed.number)

  abbrev place : ℕ
  place = get_or offsets index 0

  found : (pair : List ℕ × List ℕ) × (slice_get pairs index ≡ Some pair) × IsPlaced bytes offsets index pair
  found = name_at placed index within

  same : found.2.0 ≡ place
  same = let e = found.2.1 in let f = slice_get-get_or offsets index 0 within in cc

  pub offset_within : place ≤ length bytes
  offset_within = rw (← same) found.2.2

  pub entry_begins : BeginsEntry now index (take (length bytes - place) (drop place bytes))
  entry_begins =
      let e : take (length bytes - place) (drop place bytes) ≡ drop place bytes =
      ap (λ k. take k (drop place bytes)) (sym (length-drop place bytes)) ∙ take-length (drop place bytes) in
      rw (e, ← w) (found.0, found.1, found.2.3, rw (← same) found.2.4)

-- ---- reading on

-- what comes after so many pairs begins at an offset below 2^32
abbrev pub AreNear : Remaining → ℕ → Type 0
AreNear s n = (t : Remaining) (pairs : List (List ℕ × List ℕ)) → IsAfter s t pairs → length pairs ≡ n → t.place < number_limit

-- what the reader knows at t: the pairs so far ascend, and stand at the offsets
pub record Reached (bytes : List ℕ) (t : Remaining) (last : Option (Bor (List ℕ))) (offsets : List ℕ) : Type 0 where
  pub start : Remaining
  pub counted : IsCounted bytes start
  pub pairs : List (List ℕ × List ℕ)
  pub read : IsAfter start t pairs
  pub front : List ℕ
  pub split : bytes ≡ front ++ t.rest
  pub place : t.place ≡ length front
  pub names : AreNames (IsPlaced bytes offsets) (length offsets) pairs
  pub last_is : LastKey last pairs
  -- each entry so far begins at an offset below 2^32
  pub near : (n : ℕ) → n < length pairs → AreNear start n

pub reached_start : (bytes : List ℕ) (s : Remaining) → IsCounted bytes s → Reached bytes s None []
reached_start bytes s c = record {
  start = s;
  counted = c;
  pairs = [];
  read = record { spelled = begins_none s.rest; place = omega arith; count = omega arith };
  front = c.spelled.front;
  split = c.spelled.split;
  place = c.place;
  names = names_none (IsPlaced bytes []);
  last_is = refl;
  near = λ n l. absurd (omega (arith, l));
}

below_push : (P : ℕ → Type 0) (n : ℕ) → ((i : ℕ) → i < n → P i) → P n → (i : ℕ) → i < n + 1 → P i
below_push P zero all h zero l = h
below_push P zero all h (suc i) l = absurd (omega (arith, l))
below_push P (suc n) all h zero l = all zero (omega arith)
below_push P (suc n) all h (suc i) l = below_push (λ j. P (suc j)) n (λ j k. all (suc j) (omega (arith, k))) h i (omega (arith, l))

-- as many pairs end at the same offset
same_place : (s t u : Remaining) (J K : List (List ℕ × List ℕ)) → IsAfter s t J → IsAfter s u K → length J ≡ length K → t.place ≡ u.place
same_place s t u J K a b e =
    let q = begins_unique s.rest (agree_pairs J K e) a.spelled b.spelled in omega (arith, a.place, b.place, ap length q.0)

get_left : (L : List ℕ) (x i y : ℕ) → slice_get L i ≡ Some y → slice_get (L ++ x ∷ []) i ≡ Some y
get_left [] x zero y e = absurd (cc)
get_left [] x (suc i) y e = absurd (cc)
get_left (z ∷ L) x zero y e = e
get_left (z ∷ L) x (suc i) y e = get_left L x i y e

get_last : (L : List ℕ) (x : ℕ) → slice_get (L ++ x ∷ []) (length L) ≡ Some x
get_last [] x = refl
get_last (z ∷ L) x = get_last L x

-- one more pair was read, its key is above the last one, and its offset is noted
pub reached_next : (bytes : List ℕ) (t u : Remaining) (last : Option (Bor (List ℕ))) (key value : Bor (List ℕ)) (offsets : List ℕ)
    → Reached bytes t last offsets → IsAfter t u ((key.now, value.now) ∷ []) → comes_after last key.now ≡ true → t.place < number_limit
    → Reached bytes u (Some key) (offsets ++ t.place ∷ [])
reached_next bytes t u last key value offsets r n a near =
    let p : List ℕ × List ℕ = (key.now, value.now) in
    let more = offsets ++ t.place ∷ [] in
    let number : length more ≡ length offsets + 1 = length-append offsets (t.place ∷ []) in
    let here : drop t.place bytes ≡ t.rest = ap (λ c. drop t.place c) r.split ∙ drop_at r.front t.rest t.place (sym r.place) in
    let placed : IsPlaced bytes more (length offsets) p =
    (t.place, get_last offsets t.place, omega (arith, r.place, ap length r.split, length-append r.front t.rest), u.rest, rw here n.spelled) in
    record {
      start = r.start;
      counted = r.counted;
      pairs = r.pairs ++ p ∷ [];
      read = after_further r.start t u r.pairs (p ∷ []) r.read n;
      front = r.front ++ n.spelled.front;
      split = r.split ∙ ap (λ c. r.front ++ c) n.spelled.split ∙ sym (append_assoc r.front n.spelled.front u.rest);
      place = omega (arith, n.place, r.place, length-append r.front n.spelled.front);
      names = rw number
          (names_push r.pairs last p r.names r.last_is a (λ i q h. (h.0, get_left offsets t.place i h.0 h.1, h.2, h.3, h.4)) placed);
      last_is = (r.pairs, value.now, refl);
      near = λ k l. below_push (AreNear r.start) (length r.pairs) r.near (λ w J b e. rw (same_place r.start w t J r.pairs b r.read e) near) k
          (omega (arith, l, length-append r.pairs (p ∷ [])));
    }

pub reached_end : (bytes : List ℕ) (t : Remaining) (last : Option (Bor (List ℕ))) (offsets : List ℕ) → Reached bytes t last offsets → t.left ≡ 0
    → IsIndexed bytes offsets
reached_end bytes t last offsets r e =
    let number : length r.pairs ≡ r.start.left = omega (arith, r.read.count, e) in (
      r.pairs,
      record {
        rest = t.rest;
        table = begins_then bytes r.start.rest t.rest (Number (length r.pairs) ∷ []) (pair_parts r.pairs) (rw number r.counted.spelled) r.read.spelled;
        rises = r.names.rises;
      },
      r.names,
    )

is_far : (t : Remaining) (J : List (List ℕ × List ℕ)) (f : NameIndexFault) → f ≡ TooFar → NextStops J t f → (0 < t.left) × (number_limit ≤ t.place)
is_far t J NoRoom e w = absurd (cc)
is_far t J TooFar e w = w
is_far t J (Format f) e w = absurd (cc)
is_far t J (NotAscending at) e w = absurd (cc)

-- no entry began too far
pub reached_near : (bytes : List ℕ) (t : Remaining) (last : Option (Bor (List ℕ))) (offsets : List ℕ) → Reached bytes t last offsets → t.left ≡ 0
    → (f : NameIndexFault) → f ≡ TooFar → IsFault bytes f → ⊥
reached_near bytes t last offsets r end f e w =
    ⊎_elim (λ w. let g : f ≡ Format w.0 = w.1 in absurd (cc))
    (λ w.
    let u = one_number bytes r.counted.spelled w.1.spelled in
    let s = w.2 in
    let b = s.2 in
    let far = is_far s.0 s.1 f e s.4 in
    let a : IsAfter r.start s.0 s.1 = record {
      spelled = record { front = b.spelled.front; split = u.2 ∙ b.spelled.split; spelled = b.spelled.spelled };
      place = omega (arith, b.place, r.counted.place, w.1.place, ap length u.0);
      count = omega (arith, b.count, u.1);
    } in
    let h = r.near (length s.1) (omega (arith, b.count, u.1, r.read.count, end, far.0)) s.0 s.1 a refl in
    omega (arith, h, far.1)) w

-- the next pair stops
pub stops_here : (bytes : List ℕ) (t : Remaining) (last : Option (Bor (List ℕ))) (offsets : List ℕ) (error : NameIndexFault)
    → (r : Reached bytes t last offsets) → NextStops r.pairs t error → IsFault bytes error
stops_here bytes t last offsets error r n = inr (r.start, r.counted, (t, r.pairs, r.read, r.names.rises, n))

-- ---- the errors of a table whose keys ascend are not its own

number_no_fault : (bytes rest : List ℕ) (n : ℕ) (f : NameFault) → Begins bytes (Number n ∷ []) rest → PartFault (Number 0) bytes 0 f → ⊥
number_no_fault bytes rest n f b w = parts_no_fault (Number n ∷ []) (Number 0 ∷ []) bytes rest 0 f (agree_numbers n 0) b (inl w)

-- of pairs that bytes begin with and more of them, these are the first ones
first_pairs : (J K : List (List ℕ × List ℕ)) (bytes middle after : List ℕ) → Begins bytes (pair_parts J) middle → Begins bytes (pair_parts K) after
    → length J < length K → (q : List ℕ × List ℕ) × (more : List (List ℕ × List ℕ)) × (K ≡ J ++ q ∷ more) × Begins middle (pair_parts (q ∷ more)) after
first_pairs J [] bytes middle after b k l = absurd (omega (arith, l))
first_pairs [] (p ∷ K) bytes middle after b k l =
    (p, K, refl, rw (← (b.split ∙ ap (λ c. c ++ middle) b.spelled)) k)
first_pairs (q ∷ J) (p ∷ K) bytes middle after b k l =
    let d = begins_split bytes middle (pair_parts (q ∷ [])) (pair_parts J) b in
    let n = pair_next bytes d.0 after p q K k d.1 in
    let r = first_pairs J K d.0 middle after d.2 n.1 (omega (arith, l)) in
    (r.0, r.1, (λ i. sym n.0 i ∷ r.2 i), r.3)

-- nothing stops if a pair is the next one of some whose keys ascend
next_stops_not : (t : Remaining) (J more : List (List ℕ × List ℕ)) (q : List ℕ × List ℕ) (after : List ℕ) (f : NameIndexFault) → IsMalformed f
    → Rising text_order (J ++ q ∷ more) → Begins t.rest (pair_parts (q ∷ more)) after → NextStops J t f → ⊥
next_stops_not t J more q after NoRoom m r b w = m
next_stops_not t J more q after TooFar m r b w = m
next_stops_not t J more q after (Format f) m r b w =
    let p = begins_split t.rest after (pair_parts (q ∷ [])) (pair_parts more) b in
    parts_no_fault (pair_parts (q ∷ [])) (pair_parts (w.0 ∷ [])) t.rest p.0 t.place f (agree_pairs (q ∷ []) (w.0 ∷ []) refl) p.1 w.2
next_stops_not t J more q after (NotAscending at) m r b w =
    let n = pair_next t.rest w.0.rest after q w.1 more b w.2.spelled in
    let e : J ++ q ∷ more ≡ (J ++ w.1 ∷ []) ++ more = sym (append_assoc J (q ∷ []) more) ∙ ap (λ p. (J ++ p ∷ []) ++ more) (sym n.0) in
    w.4 (Rising-left text_order (J ++ w.1 ∷ []) more (rw (← e) r))

is_due : (t : Remaining) (J : List (List ℕ × List ℕ)) (f : NameIndexFault) → NextStops J t f → 0 < t.left
is_due t J NoRoom w = w
is_due t J TooFar w = w.0
is_due t J (Format f) w = w.1
is_due t J (NotAscending at) w = omega (arith, w.2.count)

no_fault : (bytes : List ℕ) (pairs : List (List ℕ × List ℕ)) (error : NameIndexFault) → IsRisingTable bytes pairs → IsFault bytes error → IsMalformed error → ⊥
no_fault bytes pairs error t f m =
    let d = begins_split bytes t.rest (Number (length pairs) ∷ []) (pair_parts pairs) t.table in
    ⊎_elim (λ w. number_no_fault bytes d.0 (length pairs) w.0 d.1 w.2)
    (λ w.
    let u = one_number bytes d.1 w.1.spelled in
    let s = w.2 in
    let n = first_pairs s.1 pairs w.0.rest s.0.rest t.rest s.2.spelled (rw (← u.2) d.2) (omega (arith, u.1, s.2.count, is_due s.0 s.1 error s.4)) in
    next_stops_not s.0 s.1 n.1 n.0 t.rest error m (rw (← n.2) t.rises) n.3 s.4) f

pub written : WrittenIsOpened
written bytes pairs rises table =
    let whole : IsRisingTable bytes (map shown pairs) = record {
      rest = [];
      table = record { front = bytes; split = sym (append-nil bytes); spelled = table };
      rises = (shown_rise pairs).0 rises;
    } in (
      (λ opened o. (table_unique bytes opened (map shown pairs) o.rest [] o.table whole.table).0),
      λ error f m. no_fault bytes (map shown pairs) error whole f m,
    )
