-- A table is read as what was written.
use Rattle.std.proofs.Common.{◌≡◌, ◌↔◌, ℕ, List, [], ◌∷◌, ◌++◌, length, map, sym, ap, ◌∙◌, append-nil, nat_cmp, Bor}
use Rattle.std.specs.Cmp.Lexicographic.{slice_cmp}
use Rattle.litemap.proofs.Texts.{by_bytes_total}
use Rattle.litemap.specs.ByBytes.{by_bytes}
use Rattle.litemap_store.proofs.Last.Pairs.{Last-rising, Last-unique}
use Rattle.litemap_store.specs.Pairs.{BelowAll, Rising}
use Rattle.name_table.specs.{Begins, IsTable, table_parts, shown, IsReadAgain}
use Rattle.name_table.proofs.OneReading.{table_no_fault, table_unique}

-- the keys ascend in what references refer to as they do in the references
below_shown : (key : Bor (List ℕ)) (pairs : List (Bor (List ℕ) × Bor (List ℕ)))
    → BelowAll by_bytes key pairs ↔ BelowAll (slice_cmp nat_cmp) key.now (map shown pairs)
below_shown key [] = ((λ b. tt), λ b. tt)
below_shown key (p ∷ pairs) = let e = below_shown key pairs in ((λ b. (b.0, e.0 b.1)), λ b. (b.0, e.1 b.1))

pub shown_rise : (pairs : List (Bor (List ℕ) × Bor (List ℕ))) → Rising by_bytes pairs ↔ Rising (slice_cmp nat_cmp) (map shown pairs)
shown_rise [] = ((λ r. tt), λ r. tt)
shown_rise (p ∷ pairs) =
    let b = below_shown p.0 pairs in
    let e = shown_rise pairs in
    ((λ r. (b.0 r.0, e.0 r.1)), λ r. (b.1 r.0, e.1 r.1))

pub read_again : (bytes : List ℕ) (pairs : List (Bor (List ℕ) × Bor (List ℕ))) → IsTable bytes (map shown pairs) → Rising by_bytes pairs
    → IsReadAgain bytes pairs
read_again bytes pairs table rising =
    let whole : Begins bytes (table_parts (map shown pairs)) [] = record { front = bytes; split = sym (append-nil bytes); spelled = table } in
    record {
      same = λ M size r.
          let u = table_unique bytes (map shown r.pairs) (map shown pairs) r.rest [] r.table whole in
          let rises : Rising by_bytes r.pairs = (shown_rise r.pairs).1 (rw u.0 ((shown_rise pairs).0 rising)) in
          let m : M ≡ r.pairs = Last-unique by_bytes by_bytes_total r.pairs M r.pairs r.last (Last-rising by_bytes r.pairs rises) in
          let e : bytes ≡ r.table.front = r.table.split ∙ ap (λ c. r.table.front ++ c) u.1 ∙ append-nil r.table.front in
          (ap (λ L. map shown L) m ∙ u.0, r.size_is ∙ sym (ap length e));
      no_fault = λ K f w. table_no_fault bytes (map shown pairs) K [] f whole w;
    }
