-- Fetching an instruction: its code, then the bytes after it, upward.
use Rattle.std.specs.Prelude.{ℕ, ◌+◌, ◌%◌, List, length, Some, None, Option}
use Rattle.registers.specs.State.{State, pc_of}
use Rattle.registers.specs.Rows.{with_pair}
use Rattle.reading.specs.declared.fault.Fault.TheVariants.{Illegal}
use Rattle.reading.specs.Trees.{Tree, done, stop, bind}
use Rattle.reading.specs.Readings.{next, byte_tree, row_tree}
use Rattle.decode.specs.declared.instruction.Instruction.{Instruction}
use Rattle.decode.specs.Codes.{decoded}
use Rattle.addressing.specs.Lengths.{literal_count}

-- An instruction and the bytes after its code.
pub record Fetched : Type 0 where
  pub instruction : Instruction
  pub literal : List ℕ

-- The bytes after an instruction's code.
abbrev pub literal_tree : Instruction → State → Tree Fetched
literal_tree i s = bind (row_tree (literal_count i s.drp) (next (pc_of s))) (λ ls. done (record { instruction = i; literal = ls }))

-- An illegal code is refused before anything after it is read.
abbrev pub decoded_tree : Option Instruction → ℕ → State → Tree Fetched
decoded_tree None code s = stop (Illegal code)
decoded_tree (Some i) code s = literal_tree i s

-- What comes after a code. It does not unfold by itself, since a table of 256 codes lies behind it.
unfoldable pub coded_tree : ℕ → State → Tree Fetched
coded_tree code s = decoded_tree (decoded code) code s

-- The code at the program counter, and what comes after it.
abbrev pub fetch_tree : State → Tree Fetched
fetch_tree s = bind (byte_tree (pc_of s)) (λ code. coded_tree code s)

-- An instruction's length: the code and the bytes after it.
abbrev pub length_of : Fetched → ℕ
length_of f = 1 + length f.literal

-- The program counter passes the whole instruction before anything else happens.
abbrev pub passed : State → Fetched → State
passed s f = with_pair s 4 ((pc_of s + length_of f) % 65536)
