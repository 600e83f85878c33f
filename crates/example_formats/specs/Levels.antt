-- The words of the levels.
use Rattle.std.specs.Prelude.{ℕ, List, if◌then◌else◌, Option, Some, None, Result, codes}
use Rattle.std.specs.Prelude.{ok_or, option_and_then}
use Rattle.std.specs.Str.{bytes_eq}
use Rattle.serde_json.specs.Data.{Data, string}
use Rattle.serde_json.specs.Find.{as_str}
use Rattle.litemap_json.specs.declared.item.ItemFault.{ItemFault}
use Rattle.litemap_json.specs.declared.item.ItemFault.TheVariants.{Shape}
use Rattle.example_formats.specs.declared.levels.Level.{Level}
use Rattle.example_formats.specs.declared.levels.Level.TheVariants.{Low, Middle, High}

-- the word of a level
abbrev pub word_of : Level → List ℕ
word_of Low = codes "low"
word_of Middle = codes "middle"
word_of High = codes "high"

-- its tree
abbrev pub json_of : Level → Data
json_of level = string (word_of level)

-- the tree of the level that has this word
abbrev pub level_key : List ℕ → Option Data
level_key s =
    if bytes_eq s (codes "low") then Some (json_of Low)
    else (if bytes_eq s (codes "middle") then Some (json_of Middle)
    else (if bytes_eq s (codes "high") then Some (json_of High) else None))

abbrev pub level_item : Data → Result Data ItemFault
level_item d = ok_or (option_and_then level_key (as_str d)) Shape
