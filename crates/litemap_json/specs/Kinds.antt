-- The kind of an error as one of input or output.
use Rattle.std.specs.declared.io.ErrorKind.{ErrorKind}
use Rattle.std.specs.declared.io.ErrorKind.TheVariants.{InvalidData, OutOfMemory}
use Rattle.litemap_json.specs.declared.fault.JsonFault.{JsonFault}
use Rattle.litemap_json.specs.declared.fault.JsonFault.TheVariants as reading
use Rattle.litemap_json.specs.declared.fault.TextFault.{TextFault}
use Rattle.litemap_json.specs.declared.fault.TextFault.TheVariants as parsing
use Rattle.litemap_json.specs.declared.fault.WriteFault.{WriteFault}
use Rattle.litemap_json.specs.declared.fault.WriteFault.TheVariants as writing

abbrev pub write_kind : WriteFault → ErrorKind
write_kind writing.Memory = OutOfMemory
write_kind (writing.KeyWithoutText place) = InvalidData

abbrev pub read_kind : JsonFault → ErrorKind
read_kind reading.Memory = OutOfMemory
read_kind _ = InvalidData

abbrev pub text_kind : TextFault → ErrorKind
text_kind parsing.Memory = OutOfMemory
text_kind _ = InvalidData
