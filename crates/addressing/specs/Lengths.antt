-- How many bytes follow a code.
use Rattle.std.specs.Prelude.{ℕ, Some, None}
use Rattle.registers.specs.declared.cpu.rows.Form.{Form}
use Rattle.registers.specs.Rows.{span_of}
use Rattle.decode.specs.declared.instruction.Base.{Base}
use Rattle.decode.specs.declared.instruction.Base.TheVariants as base
use Rattle.decode.specs.declared.instruction.Mode.{Mode}
use Rattle.decode.specs.declared.instruction.Mode.TheVariants as mode
use Rattle.decode.specs.declared.instruction.Instruction.{Instruction}
use Rattle.decode.specs.declared.instruction.Instruction.TheVariants.{SetArp, SetDrp, Compute, Store, Control, Call, Jump}

-- A literal address has two bytes.
abbrev pub base_literals : Base → ℕ
base_literals base.Register = 0
base_literals base.Literal = 2
base_literals base.Indexed = 2
base_literals base.StackUp = 0
base_literals base.StackDown = 0

-- Immediate bytes are as many as the data.
abbrev pub mode_literals : Mode → Form → ℕ → ℕ
mode_literals mode.Register f drp = 0
mode_literals mode.Immediate f drp = span_of f drp
mode_literals (mode.Memory b i) f drp = base_literals b

-- A jump has one offset byte.
abbrev pub literal_count : Instruction → ℕ → ℕ
literal_count (SetArp x) drp = 0
literal_count (SetDrp x) drp = 0
literal_count (Compute o None f) drp = 0
literal_count (Compute o (Some m) f) drp = mode_literals m f drp
literal_count (Store m f) drp = mode_literals m f drp
literal_count (Control c) drp = 0
literal_count (Call b) drp = base_literals b
literal_count (Jump c) drp = 1
