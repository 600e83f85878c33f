-- Shortest spellings, one after another, and what no bytes spell.
use Rattle.std.proofs.Common.{◌≡◌, ℕ, zero, suc, ◌+◌, ◌/◌, ◌%◌, ◌^◌, ◌<◌, ◌≤◌, List, [], ◌∷◌, ◌++◌, length, map, take, drop, get_or, refl, sym, ap, ◌∙◌, arith}
use Rattle.std.proofs.Common.{append_assoc, length-append, IsUtf8}
use Rattle.std.proofs.Math.Nat.{pow-succ'}
use Rattle.std.proofs.lemmas.List.{drop_more, map-append, take_more, take-append-drop}
use Rattle.name_table.specs.{value_of, EndsAtLast, IsNumber, Part, Number, Text, text_parts, pair_parts, AreParts-append, pair_parts-append, Appends}
use Rattle.name_table.specs.{AppendsNumber, NoTable, IfTooLarge, IsShortest, NameWriteFault, NUMBER_LIMIT}
use Rattle.name_table.specs.declared.error.NameWriteFault.TheVariants.{NoRoom, TooLarge}
use Rattle.name_table.proofs.PartLemmas.{AreParts-one, AreParts-split, EndsAtLast-more}

-- ---- a number, one byte more

fewest_more : (n : ℕ) (tail : List ℕ) → 128 ≤ n → ((other : List ℕ) → EndsAtLast other → value_of other ≡ n / 128 → length tail ≤ length other)
    → (other : List ℕ) → EndsAtLast other → value_of other ≡ n → suc (length tail) ≤ length other
fewest_more n tail h fewest [] e v = absurd e
fewest_more n tail h fewest (b ∷ []) e v = absurd (omega (arith, h, v))
fewest_more n tail h fewest (b ∷ c ∷ bytes) e v =
    let w : value_of (c ∷ bytes) ≡ n / 128 = omega (arith, v) in
    omega (arith, fewest (c ∷ bytes) e.1 w)

short_more : (n : ℕ) (tail : List ℕ) → 128 ≤ n → ((room : ℕ) → 0 < room → n / 128 < 128 ^ room → length tail ≤ room) → (room : ℕ) → 0 < room → n < 128 ^ room
    → suc (length tail) ≤ room
short_more n tail h short zero p l = absurd (omega (arith, p))
short_more n tail h short (suc zero) p l = absurd (omega (arith, h, l))
short_more n tail h short (suc (suc room)) p l =
    let q : n / 128 < 128 ^ suc room = omega (arith, l, pow-succ' 128 (suc room)) in
    omega (arith, short (suc room) (omega arith) q)

pub number_more : (old middle new : List ℕ) (n : ℕ) → 128 ≤ n → middle ≡ old ++ (n % 128 + 128) ∷ [] → AppendsNumber middle new (n / 128)
    → AppendsNumber old new n
number_more old middle new n h e r = record {
  bytes = (n % 128 + 128) ∷ r.bytes;
  appended = r.appended ∙ ap (λ c. c ++ r.bytes) e ∙ append_assoc old ((n % 128 + 128) ∷ []) r.bytes;
  ends = EndsAtLast-more (n % 128 + 128) r.bytes (omega arith) r.ends;
  value = omega (arith, r.value);
  fewest = fewest_more n r.bytes h r.fewest;
  short = short_more n r.bytes h r.short;
}

-- ---- parts

pub shortest_append : (a b : List ℕ) (xs ys : List Part) → IsShortest a xs → IsShortest b ys → IsShortest (a ++ b) (xs ++ ys)
shortest_append a b xs ys p q = record {
  spelled = AreParts-append a b xs ys p.spelled q.spelled;
  fewest = λ other r.
      let s = AreParts-split other xs ys r in
      omega (arith, p.fewest s.first s.of_first, q.fewest s.second s.of_second, length-append a b, ap length s.joined, length-append s.first s.second);
}

pub appends_then : (old middle new : List ℕ) (xs ys : List Part) → Appends old middle xs → Appends middle new ys → Appends old new (xs ++ ys)
appends_then old middle new xs ys p q = record {
  bytes = p.bytes ++ q.bytes;
  appended = q.appended ∙ ap (λ c. c ++ q.bytes) p.appended ∙ append_assoc old p.bytes q.bytes;
  shortest = shortest_append p.bytes q.bytes xs ys p.shortest q.shortest;
}

-- after what is shortest
pub shortest_more : (old new : List ℕ) (xs ys : List Part) → IsShortest old xs → Appends old new ys → IsShortest new (xs ++ ys)
shortest_more old new xs ys p q =
    rw q.appended (shortest_append old q.bytes xs ys p q.shortest)

pub appends_number : (old new : List ℕ) (n : ℕ) → n < NUMBER_LIMIT → AppendsNumber old new n → Appends old new (Number n ∷ [])
appends_number old new n h r = record {
  bytes = r.bytes;
  appended = r.appended;
  shortest = record {
    spelled = AreParts-one r.bytes (Number n) (record { ends = r.ends; value = r.value; short = r.short 5 (omega arith) (omega (arith, h)); small = h });
    fewest = λ other p. omega (arith, r.fewest p.0 p.3.ends p.3.value, ap length p.2, length-append p.0 p.1);
  };
}

pub appends_text : (old middle new text : List ℕ) → Appends old middle (Number (length text) ∷ []) → new ≡ middle ++ text → IsUtf8 text
    → Appends old new (text_parts text)
appends_text old middle new text p e u =
    appends_then old middle new (Number (length text) ∷ []) (Text text ∷ []) p
    (record {
      bytes = text;
      appended = e;
      shortest = record {
        spelled = AreParts-one text (Text text) (refl, u);
        fewest = λ other q. omega (arith, ap length q.3.0, ap length q.2, length-append q.0 q.1);
      };
    })

-- ---- pairs: the one at an index, which comes after those before it

module _ {X : Type 0} (view : X → List ℕ × List ℕ) (pairs : List X) (i : ℕ) (d : X) (l : i < length pairs) where
  pub shortest_pair : (old new : List ℕ) (n : ℕ) → IsShortest old (Number n ∷ pair_parts (map view (take i pairs)))
      → Appends old new (pair_parts (view (get_or pairs i d) ∷ [])) → IsShortest new (Number n ∷ pair_parts (map view (take (i + 1) pairs)))
  shortest_pair old new n p q =
      let front = take i pairs in
      let next = get_or pairs i d in
      let e : pair_parts (map view (take (i + 1) pairs)) ≡ pair_parts (map view (take i pairs)) ++ pair_parts (view next ∷ []) =
      ap (λ xs. pair_parts (map view xs)) (take_more pairs i d l) ∙ ap pair_parts (map-append view (take i pairs) (next ∷ []))
      ∙ pair_parts-append (map view (take i pairs)) (view next ∷ []) in
      rw e (shortest_more old new (Number n ∷ pair_parts (map view (take i pairs))) (pair_parts (view next ∷ [])) p q)

  -- if one pair has no table, all have none
  pub no_table_at : NoTable (view (get_or pairs i d) ∷ []) → NoTable (map view pairs)
  no_table_at none bytes p =
      let front = take i pairs in
      let next = get_or pairs i d in
      let back = drop (i + 1) pairs in
      let e : pairs ≡ front ++ next ∷ back = sym (take-append-drop i pairs) ∙ ap (λ xs. front ++ xs) (drop_more pairs i d l) in
      let f : pair_parts (map view pairs) ≡ pair_parts (map view front) ++ pair_parts (view next ∷ map view back) =
      ap (λ xs. pair_parts (map view xs)) e ∙ ap pair_parts (map-append view front (next ∷ back))
      ∙ pair_parts-append (map view front) (view next ∷ map view back) in
      let s = AreParts-split p.1 (pair_parts (map view front)) (pair_parts (view next ∷ map view back)) (rw (← f) p.4) in
      let t = AreParts-split s.second (pair_parts (view next ∷ [])) (pair_parts (map view back)) s.of_second in
      let one : IsNumber (1 ∷ []) 1 = record { ends = omega arith; value = omega arith; short = omega arith; small = omega arith } in
      none ((1 ∷ []) ++ t.first)
      (AreParts-append (1 ∷ []) t.first (Number 1 ∷ []) (pair_parts (view next ∷ [])) (AreParts-one (1 ∷ []) (Number 1) one) t.of_first)

pub if_too_large_weaker : {P Q : Type 0} (error : NameWriteFault) → (P → Q) → IfTooLarge error P → IfTooLarge error Q
if_too_large_weaker NoRoom h p = tt
if_too_large_weaker TooLarge h p = h p
