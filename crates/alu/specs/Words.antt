-- What an operation leaves of a row of up to eight bytes.
use Rattle.std.specs.Prelude.{Ok, Err, Result}
use Rattle.byte_rows.specs.Short.{bytes_of}
use Rattle.alu.specs.declared.operations.Flags.{Flags}
use Rattle.alu.specs.declared.operations.NotDecimal.{NotDecimal}
use Rattle.alu.specs.declared.words.Worked.{Worked}
use Rattle.alu.specs.Operations.{Done}
use Rattle.alu.specs.Seen.{seen}

-- CY, OVF and E are told; the rest of the status is seen of the row that is left.
abbrev pub done_of : Flags → Worked → Done
done_of f w = record { row = bytes_of w.row; flags = record { status = seen f.status w.cy w.ovf (bytes_of w.row); e = w.e } }

abbrev pub rows_done : Flags → Result Worked NotDecimal → Result Done NotDecimal
rows_done f (Ok w) = Ok (done_of f w)
rows_done f (Err n) = Err n
