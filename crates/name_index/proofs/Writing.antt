-- What is written of an index stays as it is when further bytes come after it.
use Rattle.std.proofs.Common.{◌≡◌, ℕ, ◌+◌, ◌*◌, ◌<◌, ◌≤◌, List, [], ◌∷◌, ◌++◌, length, take, drop, map, get_or, slice_get, Some, refl, sym, ap, ◌∙◌, arith}
use Rattle.std.proofs.Common.{append_assoc, length-append, inl, inr, eq-or-lt_of_le, option_map, Bor}
use Rattle.std.specs.Int.{from_le_bytes, w32}
use Rattle.std.proofs.lemmas.List.{drop-append-le, length-drop, length-take, take-append-le, take_all, length-map}
use Rattle.std.proofs.lemmas.List.Sums.{sum_by-cons, sum_by-take-le, sum_by_more}
use Rattle.std.proofs.lemmas.Option.{get_or_from_slice_get, slice_get-get_or, slice_get-map, slice_get_within}
use Rattle.litemap.specs.ByBytes.{by_bytes}
use Rattle.litemap_store.specs.Pairs.{Rising}
use Rattle.name_table.specs.Positions.{shown}
use Rattle.name_table.specs.declared.number.TheConstants.{NUMBER_LIMIT}
use Rattle.name_index.specs.{IsIndex, IsNumberAt, IsPairAt, IsTextAt, Adds, AddsPairs, AreOffsets, text_order, entries_size, pair_size}
use Rattle.name_table.proofs.ReadAgain.{shown_rise}

-- ---- bytes after bytes

pub adds_length : (old new : List ℕ) (n : ℕ) → Adds old new n → length new ≡ length old + n
adds_length old new n a = omega (arith, ap length a.added, length-append old a.more, a.size_is)

pub adds_then : (old middle new : List ℕ) (n m : ℕ) → Adds old middle n → Adds middle new m → Adds old new (n + m)
adds_then old middle new n m a b = record {
  more = a.more ++ b.more;
  added = b.added ∙ ap (λ c. c ++ b.more) a.added ∙ append_assoc old a.more b.more;
  size_is = omega (arith, length-append a.more b.more, a.size_is, b.size_is);
}

-- ---- what stands in bytes stands there still

prefix_kept : (old more : List ℕ) (at n : ℕ) → at + n ≤ length old → take n (drop at (old ++ more)) ≡ take n (drop at old)
prefix_kept old more at n l =
    let a : at ≤ length old = omega (arith, l) in
    let k : n ≤ length (drop at old) = omega (arith, l, length-drop at old) in
    ap (λ c. take n c) (drop-append-le at old more a) ∙ take-append-le n (drop at old) more k

pub number_kept : (old new : List ℕ) (size at n : ℕ) → Adds old new size → IsNumberAt old at n → IsNumberAt new at n
number_kept old new size at n a p =
    rw a.added (record {
      within = omega (arith, p.within, length-append old a.more);
      value = ap (λ c. from_le_bytes w32 c) (prefix_kept old a.more at 4 p.within) ∙ p.value;
    })

pub text_within : (bytes : List ℕ) (at : ℕ) (text : List ℕ) → IsTextAt bytes at text → at + 4 + length text ≤ length bytes
text_within bytes at text p =
    omega (arith, ap length p.there, length-take (length text) (drop (at + 4) bytes), length-drop (at + 4) bytes, p.size.within)

pub text_kept : (old new : List ℕ) (size at : ℕ) (text : List ℕ) → Adds old new size → IsTextAt old at text → IsTextAt new at text
text_kept old new size at text a p = record {
  size = number_kept old new size at (length text) a p.size;
  there = ap (λ c. take (length text) (drop (at + 4) c)) a.added ∙ prefix_kept old a.more (at + 4) (length text) (text_within old at text p) ∙ p.there;
  utf8 = p.utf8;
}

pub pair_kept : (old new : List ℕ) (size at : ℕ) (pair : List ℕ × List ℕ) → Adds old new size → IsPairAt old at pair → IsPairAt new at pair
pair_kept old new size at pair a p =
    (text_kept old new size at pair.0 a p.0, text_kept old new size (at + 4 + length pair.0) pair.1 a p.1)

-- ---- the first pairs, and one more

module _ (pairs : List (List ℕ × List ℕ)) (index : ℕ) (pair : List ℕ × List ℕ) (e : slice_get pairs index ≡ Some pair) where
  pub size_more : entries_size (take (index + 1) pairs) ≡ entries_size (take index pairs) + pair_size pair
  size_more =
      sum_by_more pair_size pairs index pair (slice_get_within pairs index pair e)
      ∙ ap (λ p. entries_size (take index pairs) + pair_size p) (get_or_from_slice_get pairs index pair pair e)

  pub size_within : entries_size (take index pairs) + pair_size pair ≤ entries_size pairs
  size_within = omega (arith, size_more, sum_by-take-le pair_size pairs (index + 1))

pub offsets_next : (old new : List ℕ) (pairs : List (List ℕ × List ℕ)) (index place : ℕ) → AreOffsets old pairs index → place ≡ entries_size (take index pairs)
    → Adds old new 4 → IsNumberAt new (length old) place → AreOffsets new pairs (index + 1)
offsets_next old new pairs index place p e a n = record {
  number = number_kept old new 4 0 (length pairs) a p.number;
  size = omega (arith, adds_length old new 4 a, p.size);
  noted = λ i l. elim (eq-or-lt_of_le {n = i} {m = index} (omega (arith, l))) [
    | inr h ↦ number_kept old new 4 (4 + 4 * i) (entries_size (take i pairs)) a (p.noted i h)
    | inl h ↦
        let w : length old ≡ 4 + 4 * i = omega (arith, p.size, h) in
        let s : place ≡ entries_size (take i pairs) = e ∙ ap (λ k. entries_size (take k pairs)) (sym h) in
        rw (← s) (rw (← w) n)
  ];
}

pub pairs_next : (old middle new : List ℕ) (pairs : List (List ℕ × List ℕ)) (index : ℕ) (pair : List ℕ × List ℕ) → AddsPairs old middle pairs index
    → slice_get pairs index ≡ Some pair → Adds middle new (pair_size pair) → IsPairAt new (length middle) pair → AddsPairs old new pairs (index + 1)
pairs_next old middle new pairs index pair p e a here =
    record {
      adds = rw (size_more pairs index pair e) (adds_then old middle new (entries_size (take index pairs)) (pair_size pair) p.adds a);
      there = λ i q l f. elim (eq-or-lt_of_le {n = i} {m = index} (omega (arith, l))) [
        | inr h ↦ pair_kept middle new (pair_size pair) (length old + entries_size (take i pairs)) q a (p.there i q h f)
        | inl h ↦
            let g : slice_get pairs index ≡ Some q = rw (← h) f in
            let s : pair ≡ q = cc in
            let w : length middle ≡ length old + entries_size (take i pairs) =
            adds_length old middle (entries_size (take index pairs)) p.adds ∙ ap (λ k. length old + entries_size (take k pairs)) (sym h) in
            let Q : ℕ → List ℕ × List ℕ → Type 0 = λ n r. IsPairAt new n r in
            rw (← w) (rw (← s) here)
      ];
    }

-- ---- the whole

pub index_written : (old new : List ℕ) (pairs : List (List ℕ × List ℕ)) → AreOffsets old pairs (length pairs) → AddsPairs old new pairs (length pairs)
    → Rising text_order pairs → IsIndex new pairs
index_written old new pairs p a rises = record {
  len = length pairs;
  number = number_kept old new (entries_size (take (length pairs) pairs)) 0 (length pairs) a.adds p.number;
  entries = record {
    number = refl;
    each = λ i pair e.
        let l : i < length pairs = slice_get_within pairs i pair e in
        let far = entries_size (take i pairs) in
        let w : length old + far ≡ 4 + 4 * length pairs + far = omega (arith, p.size) in
        (far, number_kept old new (entries_size (take (length pairs) pairs)) (4 + 4 * i) far a.adds (p.noted i l), rw (← w) (a.there i pair l e));
    rises = rises;
  };
  fits =
      let whole : entries_size (take (length pairs) pairs) ≡ entries_size pairs = ap entries_size (take_all (length pairs) pairs (omega arith)) in
      omega (arith, adds_length old new (entries_size (take (length pairs) pairs)) a.adds, p.size, whole);
}

-- ---- a map's pairs, as what they refer to

pub shown_at : (pairs : List (Bor (List ℕ) × Bor (List ℕ))) (index : ℕ) (d : Bor (List ℕ) × Bor (List ℕ)) → index < length pairs
    → slice_get (map shown pairs) index ≡ Some (shown (get_or pairs index d))
shown_at pairs index d l = slice_get-map shown pairs index ∙ ap (λ o. option_map shown o) (slice_get-get_or pairs index d l)

length_less : (pairs : List (List ℕ × List ℕ)) → length pairs ≤ entries_size pairs
length_less [] = omega arith
length_less (p ∷ pairs) = omega (arith, sum_by-cons pair_size p pairs, length_less pairs)

pub too_many : (pairs : List (Bor (List ℕ) × Bor (List ℕ))) → NUMBER_LIMIT ≤ length pairs → NUMBER_LIMIT ≤ entries_size (map shown pairs)
too_many pairs h = omega (arith, h, length_less (map shown pairs), length-map pairs shown)

-- if a pair is too large, all are
module _ (pairs : List (Bor (List ℕ) × Bor (List ℕ))) (index : ℕ) (d : Bor (List ℕ) × Bor (List ℕ)) (l : index < length pairs) where
  pub too_large_at : NUMBER_LIMIT ≤ pair_size (shown (get_or pairs index d)) → NUMBER_LIMIT ≤ entries_size (map shown pairs)
  too_large_at h = omega (arith, h, size_within (map shown pairs) index (shown (get_or pairs index d)) (shown_at pairs index d l))

  pub too_far_at : (place : ℕ) → place ≡ entries_size (take index (map shown pairs)) → NUMBER_LIMIT ≤ place + pair_size (shown (get_or pairs index d))
      → NUMBER_LIMIT ≤ entries_size (map shown pairs)
  too_far_at place e h = omega (arith, e, h, size_within (map shown pairs) index (shown (get_or pairs index d)) (shown_at pairs index d l))

pub place_next : (pairs : List (Bor (List ℕ) × Bor (List ℕ))) (index : ℕ) (d : Bor (List ℕ) × Bor (List ℕ)) (place next : ℕ) → index < length pairs
    → place ≡ entries_size (take index (map shown pairs)) → next ≡ place + pair_size (shown (get_or pairs index d))
    → next ≡ entries_size (take (index + 1) (map shown pairs))
place_next pairs index d place next l e n =
    n ∙ ap (λ k. k + pair_size (shown (get_or pairs index d))) e
    ∙ sym (size_more (map shown pairs) index (shown (get_or pairs index d)) (shown_at pairs index d l))

pub shown_written : (old new : List ℕ) (pairs : List (Bor (List ℕ) × Bor (List ℕ))) → AreOffsets old (map shown pairs) (length pairs)
    → AddsPairs old new (map shown pairs) (length pairs) → Rising by_bytes pairs → IsIndex new (map shown pairs)
shown_written old new pairs p a rises =
    let e : length pairs ≡ length (map shown pairs) = sym (length-map pairs shown) in
    index_written old new (map shown pairs) (rw (← e) p) (rw (← e) a) ((shown_rise pairs).0 rises)
