-- Sparse vectors: numbers at indices, 0 where there is none.
use Rattle.litemap.specs.Words.{Contents, get, nat_cmp, unwrap_or, ℕ}

-- the number at an index
abbrev pub number_at : Contents ℕ ℕ → ℕ → ℕ
number_at m i = unwrap_or (get nat_cmp m i) 0
