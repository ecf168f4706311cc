-- What is printed of a record. Each line ends with byte 10.
use Rattle.std.specs.Prelude.{◌≡◌, ◌≤◌, ℕ, ◌+◌, ◌*◌, List, [], ◌∷◌, ◌++◌, Some, None, Ok, Err, codes, length, Option, Result, slice_range}
use Rattle.std.specs.List.{flat_map, range_with_len}
use Rattle.byte_rows.specs.Rows.{over}
use Rattle.registers.specs.Bits.{status_byte}
use Rattle.registers.specs.Marks.{mar_number}
use Rattle.text.specs.declared.Piece.{Piece}
use Rattle.text.specs.declared.Piece.TheVariants.{Byte, Word, Decimal, Octal2, Hex1, Hex2, Hex4, Row}
use Rattle.text.specs.Pieces.{joined}
use Rattle.noninterference.specs.declared.answer.Answer.{Answer}
use Rattle.noninterference.specs.declared.answer.VisitEnd.{VisitEnd}
use Rattle.noninterference.specs.declared.answer.VisitEnd.TheVariants.{Clean, Marred}
use Rattle.noninterference.specs.declared.refusal.Refusal.{Refusal as StepRefusal}
use Rattle.noninterference.specs.Letters.{letter_byte}
use Rattle.noninterference.specs.Refusals.{step_number}
use Rattle.engine.specs.declared.live.ReadOut.{ReadOut}
use Rattle.engine.specs.declared.live.running.Report.{Report}
use Rattle.play.specs.declared.fault.Refusal.{Refusal}
use Rattle.play.specs.declared.fault.Refusal.TheVariants.{Sheet, Tape, Load, Step, Buffer}
use Rattle.play.specs.declared.fault.PlayFault.{PlayFault}
use Rattle.play.specs.declared.fault.Event.{Event}
use Rattle.play.specs.declared.fault.Event.TheVariants.{Loaded, Began, Ran, Rang, Ended}
use Rattle.play.specs.Numbers.{refusal_number}

-- Eight registers from i on.
abbrev pub row_of : List ℕ → ℕ → Piece
row_of rs i = Row (slice_range rs i (i + 8))

-- A line of registers: R, the number of the first in octal, and eight.
abbrev pub row_line : ℕ → List ℕ → List Piece
row_line n row = Byte 82 ∷ Octal2 (8 * n) ∷ Row row ∷ Byte 10 ∷ []

-- There are eight such lines.
abbrev pub register_line : List ℕ → ℕ → List Piece
register_line rs n = Byte 82 ∷ Octal2 (8 * n) ∷ row_of rs (8 * n) ∷ Byte 10 ∷ []

-- EN, the pointers ARP and DRP in octal, E and the status in hexadecimal.
abbrev pub end_line : ReadOut → List Piece
end_line o = Word (codes "EN ") ∷ Octal2 o.arp ∷ Byte 32 ∷ Octal2 o.drp ∷ Byte 32 ∷ Hex1 o.e ∷ Byte 32 ∷ Hex2 (status_byte o.status) ∷ Byte 10 ∷ []

-- The read-out: the EN line and eight lines of registers.
abbrev pub end_lines : ReadOut → List Piece
end_lines o = end_line o ++ flat_map (register_line o.registers) (range_with_len 0 8)

-- What the last answer adds to the line of a run: a refusal's number, the stained address told, or the mar.
abbrev pub end_detail : Option VisitEnd → Option Piece
end_detail None = None
end_detail (Some Clean) = None
end_detail (Some (Marred m)) = Some (Decimal (mar_number m))

abbrev pub answer_detail : Option ℕ → Option VisitEnd → Option Piece
answer_detail (Some a) e = Some (Hex4 a)
answer_detail None e = end_detail e

abbrev pub last_detail : Option (Result Answer StepRefusal) → Option Piece
last_detail None = None
last_detail (Some (Err r)) = Some (Decimal (step_number r.fault))
last_detail (Some (Ok a)) = answer_detail a.told a.ended

-- RU, the steps done, the letter, the program counter after the run, and what the last answer adds.
abbrev pub run_with : Report → ℕ → Option Piece → List Piece
run_with r pc None = Word (codes "RU ") ∷ Decimal r.done ∷ Byte 32 ∷ Byte (letter_byte r.letter) ∷ Byte 32 ∷ Hex4 pc ∷ Byte 10 ∷ []
run_with r pc (Some d) = Word (codes "RU ") ∷ Decimal r.done ∷ Byte 32 ∷ Byte (letter_byte r.letter) ∷ Byte 32 ∷ Hex4 pc ∷ Byte 32 ∷ d ∷ Byte 10 ∷ []

-- The line of a run that gave this report.
abbrev pub run_line : Report → ℕ → List Piece
run_line r pc = run_with r pc (last_detail r.last)

-- RI, 0 or the refusal's number, and the program counter after the ring.
abbrev pub ring_number : Result (Unit {0}) StepRefusal → ℕ
ring_number (Ok u) = 0
ring_number (Err r) = step_number r.fault

abbrev pub ring_line : Result (Unit {0}) StepRefusal → ℕ → List Piece
ring_line o pc = Word (codes "RI ") ∷ Decimal (ring_number o) ∷ Byte 32 ∷ Hex4 pc ∷ Byte 10 ∷ []

-- NO, the refusal's number and the record's offset, both decimal.
abbrev pub no_line : PlayFault → List Piece
no_line f = Word (codes "NO ") ∷ Decimal (refusal_number f.refusal) ∷ Byte 32 ∷ Decimal f.offset ∷ Byte 10 ∷ []

-- A buffer that is too small gets no line.
abbrev pub refused_lines : Refusal → PlayFault → List Piece
refused_lines Sheet f = no_line f
refused_lines (Tape t) f = no_line f
refused_lines (Load l) f = no_line f
refused_lines (Step r) f = no_line f
refused_lines Buffer f = []

-- Loads and GO print nothing.
abbrev pub lines_of : Result Event PlayFault → List ℕ
lines_of (Ok Loaded) = joined []
lines_of (Ok Began) = joined []
lines_of (Ok (Ran r pc)) = joined (run_line r pc)
lines_of (Ok (Rang o pc)) = joined (ring_line o pc)
lines_of (Ok (Ended o)) = joined (end_lines o)
lines_of (Err f) = joined (refused_lines f.refusal f)

-- These bytes were written at the front of a line buffer, and n says how many they are.
pub record Lined (old new : List ℕ) (n : ℕ) (bytes : List ℕ) : Type 0 where
  pub row : new ≡ over old 0 bytes
  pub size : n ≡ length bytes
  pub room : n ≤ 512
