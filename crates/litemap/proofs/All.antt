-- All sets of lemmas on what lookups find, for every type of keys. A caller takes them once, atop a file or the crate's root, as
-- `#![tactic(auto, using(litemap::proofs::All::lookups))]`. An attribute on a function stands in place of it.
use Rattle.litemap.proofs.Keys.{number_keys, signed_keys, string_keys, key_lists}
use Rattle.litemap.proofs.Texts.{text_keys, byte_keys, key_is_text, text_lists, text_combined, text_clones, by_bytes_total}
use Rattle.litemap.proofs.Tables.{by_keys}
use Rattle.litemap.proofs.Hashed.{hashed}
use Rattle.litemap.proofs.Parts.{parts}
use Rattle.litemap.proofs.Callable.{always}
use Rattle.litemap.proofs.Leaving.{values_left, values_kept}
use Rattle.litemap.proofs.Sums.{sums}
use Rattle.litemap_store.proofs.Callers.Every.{every_pair, put_ends}
use Rattle.litemap_store.proofs.Callers.Tallies.{number_at_raised}

pub ruleset lookups = (
  every_pair,
  put_ends,
  number_keys,
  signed_keys,
  string_keys,
  key_lists,
  text_keys,
  text_lists,
  byte_keys,
  key_is_text,
  text_combined,
  text_clones,
  by_bytes_total,
  by_keys,
  hashed,
  number_at_raised,
  parts,
  sums,
  always,
  values_left,
  values_kept,
)
