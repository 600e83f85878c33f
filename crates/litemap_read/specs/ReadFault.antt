-- Why no map was read.
use Rattle.std.specs.Prelude.{⊤}
use Rattle.std.specs.declared.io.ErrorKind.{ErrorKind}
use Rattle.std.specs.declared.io.ErrorKind.TheVariants.{InvalidData, OutOfMemory}
use Rattle.litemap_read.specs.declared.source.ReadFault.{ReadFault}
use Rattle.litemap_read.specs.declared.source.ReadFault.TheVariants.{NoRoom, Source}

-- if it is the source's error, P holds of it
abbrev pub IfSource : {E : Type 0} → ReadFault E → (E → Type 0) → Type 0
IfSource NoRoom P = ⊤
IfSource (Source e) P = P e

-- its kind as an error of input
abbrev pub fault_kind : {E : Type 0} → ReadFault E → ErrorKind
fault_kind NoRoom = OutOfMemory
fault_kind (Source e) = InvalidData
