-- What is left of a table, from pair to pair and as a whole.
use Rattle.std.proofs.Common.{◌≡◌, ◌≢◌, ℕ, ◌+◌, ◌-◌, ◌≤◌, ◌⊎◌, List, [], ◌∷◌, ◌++◌, length, map, refl, sym, ap, ◌∙◌, subst, arith, inl, ⊎_elim, length-append}
use Rattle.std.proofs.Common.{Bor, replicate}
use Rattle.std.proofs.lemmas.List.{length-map, length-replicate}
use Rattle.litemap.specs.ByBytes.{by_bytes}
use Rattle.litemap_store.specs.Last.{Last}
use Rattle.litemap_read.specs.ReadFault.{IfSource}
use Rattle.litemap_read.specs.declared.source.ReadFault.{ReadFault}
use Rattle.litemap_read.specs.declared.source.ReadFault.TheVariants.{NoRoom, Source}
use Rattle.name_table.specs.{Number, Begins, text_parts, pair_parts, Position, IsPast, Remaining, shown, NoPair, CanBeRead, AllCanBeRead, IsAfter, IsCounted}
use Rattle.name_table.specs.{Fault, TextFault, NextFault, PairsFault, IsUnread, IsRead, begins_none, begins_pairs, begins_then, NameFault}
use Rattle.name_table.proofs.OneReading.{agree_pairs, begins_unique, fault_past}
use Rattle.name_table.proofs.PartLemmas.{begins_split, fault_after, fault_more}

-- ---- none is due

pub none_can_be_read : (s : Remaining) → s.left ≡ 0 → CanBeRead s []
none_can_be_read s e = record { after = s.rest; spelled = begins_none s.rest; due = 0; count = omega (arith, e); stops = inl refl }

pub all_none_can_be_read : (s : Remaining) → s.left ≡ 0 → AllCanBeRead s
all_none_can_be_read s e = record { pairs = []; after = s.rest; spelled = begins_none s.rest; count = sym e }

-- ---- the next one can't be read

pub key_fault : (s : Remaining) (f : NameFault) → s.left ≢ 0 → TextFault s.rest s.place f → NextFault s f
key_fault s f h w = ((w.0, []), omega (arith, h), fault_more (text_parts w.0) (text_parts []) s.rest s.place f w.1)

pub value_fault : (s : Remaining) (middle key : List ℕ) (place : ℕ) (f : NameFault) → s.left ≢ 0 → (b : Begins s.rest (text_parts key) middle)
    → place ≡ s.place + length b.front → TextFault middle place f → NextFault s f
value_fault s middle key place f h b e w =
    ((key, w.0), omega (arith, h), fault_after (text_parts key) (text_parts w.0) s.rest middle s.place place f b e w.1)

-- the error of the next one is that of all that are due
pub pairs_from_next : (s : Remaining) (f : NameFault) → NextFault s f → PairsFault s f
pairs_from_next s f w =
    let more : List (List ℕ × List ℕ) = replicate (s.left - 1) ([], []) in
    let l : length more ≡ s.left - 1 = length-replicate (s.left - 1) ([], []) in
    (w.0 ∷ more, omega (arith, l, w.1), fault_more (pair_parts (w.0 ∷ [])) (pair_parts more) s.rest s.place f w.2)

-- ---- t is s after the next pair p was read

abbrev pub position : Remaining → Position
position s = record { rest = s.rest; place = s.place }

-- from the strings of its key and its value
pub is_next : (s : Remaining) (key value : List ℕ) (middle after : Position) → IsPast (position s) middle (text_parts key)
    → IsPast middle after (text_parts value) → s.left ≢ 0 → IsAfter s (record { rest = after.rest; place = after.place; left = s.left - 1 }) ((key, value) ∷ [])
is_next s key value middle after k v h = record {
  spelled = begins_then s.rest middle.rest after.rest (text_parts key) (text_parts value) k.spelled v.spelled;
  place = omega (arith, k.place, v.place, length-append k.spelled.front v.spelled.front);
  count = omega (arith, h);
}

pub gives_one_more : (s t : Remaining) (q : Bor (List ℕ) × Bor (List ℕ)) (L : List (Bor (List ℕ) × Bor (List ℕ))) → IsAfter s t (shown q ∷ []) → CanBeRead t L
    → CanBeRead s (q ∷ L)
gives_one_more s t q L n r = record {
  after = r.after;
  spelled = begins_pairs s.rest t.rest r.after (shown q ∷ []) (map shown L) n.spelled r.spelled;
  due = r.due;
  count = omega (arith, n.count, r.count);
  stops = r.stops;
}

module _ (s t : Remaining) (p : List ℕ × List ℕ) (n : IsAfter s t (p ∷ [])) where
  pub fault_later : (f : NameFault) → PairsFault t f → PairsFault s f
  fault_later f w =
      (p ∷ w.0, omega (arith, w.1, n.count), fault_after (pair_parts (p ∷ [])) (pair_parts w.0) s.rest t.rest s.place t.place f n.spelled n.place w.2)

  earlier : (f : NameFault) (pairs : List (List ℕ × List ℕ)) → length pairs ≡ s.left → Fault (pair_parts pairs) s.rest s.place f → PairsFault t f
  earlier f [] l w = absurd w
  earlier f (q ∷ J) l w =
      let past = fault_past (pair_parts (p ∷ [])) (pair_parts (q ∷ [])) (pair_parts J) n.spelled.front t.rest s.rest s.place f
      (agree_pairs (p ∷ []) (q ∷ []) refl) n.spelled.spelled n.spelled.split w in
      (J, omega (arith, l, n.count), subst (λ k. Fault (pair_parts J) t.rest k f) (sym n.place) past)

  pub fault_earlier : (f : NameFault) → PairsFault s f → PairsFault t f
  fault_earlier f w = earlier f w.0 w.1 w.2

  pub all_later : AllCanBeRead t → AllCanBeRead s
  all_later r = record {
    pairs = p ∷ r.pairs;
    after = r.after;
    spelled = begins_pairs s.rest t.rest r.after (p ∷ []) r.pairs n.spelled r.spelled;
    count = omega (arith, r.count, n.count);
  }

  rest_of : (pairs : List (List ℕ × List ℕ)) (after : List ℕ) → Begins s.rest (pair_parts pairs) after → length pairs ≡ s.left → AllCanBeRead t
  rest_of [] after c l = absurd (omega (arith, n.count, l))
  rest_of (q ∷ J) after c l =
      let d = begins_split s.rest after (pair_parts (q ∷ [])) (pair_parts J) c in
      let u = begins_unique s.rest (agree_pairs (p ∷ []) (q ∷ []) refl) n.spelled d.1 in
      record { pairs = J; after = after; spelled = rw u.2 d.2; count = omega (arith, l, n.count) }

  pub all_earlier : AllCanBeRead s → AllCanBeRead t
  all_earlier r = rest_of r.pairs r.after r.spelled r.count

-- ---- a whole table: its number of pairs, and the pairs that are due by it

pub pairs_fault : (bytes : List ℕ) (s : Remaining) (f : NameFault) → IsCounted bytes s → PairsFault s f → IsUnread bytes (Source f)
pairs_fault bytes s f c w = (
  w.0,
  subst (λ k. Fault (Number k ∷ pair_parts w.0) bytes 0 f) (sym w.1)
      (fault_after (Number s.left ∷ []) (pair_parts w.0) bytes s.rest 0 s.place f c.spelled (omega (arith, c.place)) w.2),
)

pub unread : (bytes : List ℕ) (s : Remaining) (error : ReadFault NameFault) → IsCounted bytes s → IfSource error (PairsFault s) → (error ≡ NoRoom → 1 ≤ s.left)
    → IsUnread bytes error
unread bytes s NoRoom c w some = (s.left, s.rest, c.spelled, some refl)
unread bytes s (Source e) c w some = pairs_fault bytes s e c w

-- none is due if all can be read and the bytes after them don't begin with a pair

begins_nothing : (bytes rest : List ℕ) → Begins bytes [] rest → bytes ≡ rest
begins_nothing bytes rest b = b.split ∙ ap (λ c. c ++ rest) b.spelled

pub none_due : (P K : List (List ℕ × List ℕ)) (bytes middle end : List ℕ) (due : ℕ) → Begins bytes (pair_parts P) middle → Begins bytes (pair_parts K) end
    → length K ≡ length P + due → (due ≡ 0) ⊎ NoPair middle → due ≡ 0
none_due [] [] bytes middle end due p k l stops = omega (arith, l)
none_due [] (q ∷ K) bytes middle end due p k l stops =
    let d = begins_split bytes end (pair_parts (q ∷ [])) (pair_parts K) k in
    let A : List ℕ → Type 0 = λ c. Begins c (pair_parts (q ∷ [])) d.0 in
    ⊎_elim (λ e. e) (λ no. absurd (no q d.0 (subst A (begins_nothing bytes middle p) d.1))) stops
none_due (p ∷ P) [] bytes middle end due b k l stops = absurd (omega (arith, l))
none_due (p ∷ P) (q ∷ K) bytes middle end due b k l stops =
    let d = begins_split bytes middle (pair_parts (p ∷ [])) (pair_parts P) b in
    let e = begins_split bytes end (pair_parts (q ∷ [])) (pair_parts K) k in
    none_due P K e.0 middle end due (rw (← ((begins_unique bytes (agree_pairs (p ∷ []) (q ∷ []) refl) d.1 e.1).2)) d.2) e.2 (omega (arith, l)) stops

-- from the number of pairs on, all were read
module _ (bytes : List ℕ) (s t : Remaining) (given : List (Bor (List ℕ) × Bor (List ℕ))) (counted : IsCounted bytes s) (gives : CanBeRead s given)
    (all : AllCanBeRead s) (empty : CanBeRead t []) (read : List (List ℕ × List ℕ)) (on : IsAfter s t read) where
  given_all : length given ≡ s.left
  given_all =
      let l : length (map shown given) ≡ length given = length-map given shown in
      omega (
        arith,
        none_due (map shown given) all.pairs s.rest gives.after all.after gives.due gives.spelled all.spelled
            (omega (arith, gives.count, all.count, l)) gives.stops,
        gives.count,
      )

  on_all : length read ≡ s.left
  on_all =
      let stops : (empty.due ≡ 0) ⊎ NoPair t.rest = rw (begins_nothing t.rest empty.after empty.spelled) empty.stops in
      let e : empty.due ≡ 0 =
      none_due read all.pairs s.rest t.rest all.after empty.due on.spelled all.spelled (omega (arith, on.count, all.count, empty.count)) stops in
      omega (arith, e, on.count, empty.count)

  same_bytes : gives.spelled.front ≡ on.spelled.front
  same_bytes =
      let l : length (map shown given) ≡ length read = length-map given shown ∙ given_all ∙ sym on_all in
      (begins_unique s.rest (agree_pairs (map shown given) read l) gives.spelled on.spelled).0

  pub is_read : (M : List (Bor (List ℕ) × Bor (List ℕ))) → Last by_bytes given M → IsRead bytes M t.place
  is_read M last =
      let l : s.left ≡ length (map shown given) = sym given_all ∙ sym (length-map given shown) in
      let b : Begins bytes (Number (length (map shown given)) ∷ []) s.rest =
      record { front = counted.spelled.front; split = counted.spelled.split; spelled = rw (← l) counted.spelled.spelled } in
      record {
        pairs = given;
        rest = gives.after;
        table = begins_then bytes s.rest gives.after (Number (length (map shown given)) ∷ []) (pair_parts (map shown given)) b gives.spelled;
        size_is = omega (arith, on.place, counted.place, ap length same_bytes, length-append counted.spelled.front gives.spelled.front);
        last = last;
      }
