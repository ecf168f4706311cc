-- The data and the operand of an instruction.
use Rattle.std.specs.Prelude.{ℕ, Bool, List, [], Some, None, Option}
use Rattle.registers.specs.declared.cpu.rows.Form.{Form}
use Rattle.registers.specs.State.{State}
use Rattle.registers.specs.Rows.{row_at, span_of}
use Rattle.reading.specs.Trees.{Tree, done, bind}
use Rattle.reading.specs.Readings.{row_tree}
use Rattle.decode.specs.declared.instruction.Mode.{Mode}
use Rattle.decode.specs.declared.instruction.Mode.TheVariants.{Register, Immediate, Memory}
use Rattle.addressing.specs.Addresses.{base_of, address_tree}

-- The data are the registers from DRP on.
abbrev pub data_of : Form → State → List ℕ
data_of f s = row_at s.registers s.drp (span_of f s.drp)

-- n bytes of memory upward, from the address that the base gives.
abbrev pub memory_tree : Bool → ℕ → ℕ → Tree (List ℕ)
memory_tree i at n = bind (address_tree i at) (λ a. row_tree n a)

-- None; or as many bytes as the data, from the registers from ARP on, after the code, or in memory.
abbrev pub operand_tree : Option Mode → Form → State → List ℕ → Tree (List ℕ)
operand_tree None f s ls = done []
operand_tree (Some Register) f s ls = done (row_at s.registers s.arp (span_of f s.drp))
operand_tree (Some Immediate) f s ls = done ls
operand_tree (Some (Memory b i)) f s ls = memory_tree i (base_of b i f s ls) (span_of f s.drp)
