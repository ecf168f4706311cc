-- What a fetched instruction stands for, and where the program counter is after it.
use Rattle.std.specs.Prelude.{Ok, Err, Result}
use Rattle.byte_rows.specs.declared.row.Row.{Row}
use Rattle.byte_rows.specs.Short.{bytes_of}
use Rattle.registers.specs.State.{State}
use Rattle.decode.specs.declared.instruction.Instruction.{Instruction}
use Rattle.addressing.specs.Fetching.{Fetched, passed}

abbrev pub with_literal : Instruction → Row → Fetched
with_literal i row = record { instruction = i; literal = bytes_of row }

-- The program counter passes an instruction that could be fetched.
abbrev pub passed_if_ok : {E : Type 0} → Instruction → Result Row E → State → State
passed_if_ok i (Ok row) s = passed s (with_literal i row)
passed_if_ok i (Err e) s = s
