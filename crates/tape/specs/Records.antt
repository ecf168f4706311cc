-- What a tape says, record by record.
use Rattle.std.specs.Prelude.{ℕ, ◌+◌, cond, ◌&&◌, List, [], ◌∷◌, length, take, drop, Some, None, Ok, Err, Option, Result, ◌==◌, nat_lt}
use Rattle.byte_rows.specs.Rows.{pair}
use Rattle.tape.specs.declared.record.TapeFault.{TapeFault}
use Rattle.tape.specs.declared.record.TapeFault.TheVariants.{UnknownMark, CutOff, OutOfTurn}
use Rattle.tape.specs.declared.record.Turn.{Turn}
use Rattle.tape.specs.declared.record.Turn.TheVariants as turn
use Rattle.tape.specs.declared.record.Mark.{Mark}
use Rattle.tape.specs.declared.record.Mark.TheVariants as mark
use Rattle.tape.specs.declared.record.Record.{Record}
use Rattle.tape.specs.declared.record.Record.TheVariants.{Load, Go, Run, Ring, End}

-- The refusals of a tape, which have no detail.
abbrev pub tape_number : TapeFault → ℕ
tape_number UnknownMark = 10
tape_number CutOff = 11
tape_number OutOfTurn = 12

-- A record by its values: a load has its address, the offset of its bytes in the tape, and the bytes; a run has its steps, and a
-- ring its vector.
pub data Entry : Type 0 where
  load : ℕ → ℕ → List ℕ → Entry
  go : ℕ → ℕ → Entry
  run : ℕ → Entry
  ring : ℕ → Entry
  end : Entry

-- A record that was read from a tape, by its values.
abbrev pub entry_of : Record → Entry
entry_of (Load address offset bytes) = load address offset bytes.now
entry_of (Go pc return) = go pc return
entry_of (Run n) = run n
entry_of (Ring v) = ring v
entry_of End = end

abbrev pub entry : Result Record TapeFault → Result Entry TapeFault
entry (Ok r) = Ok (entry_of r)
entry (Err f) = Err f

-- How many bytes of the tape a record takes.
abbrev pub size_of : Entry → ℕ
size_of (load a o bs) = 5 + length bs
size_of (go pc return) = 6
size_of (run n) = 4
size_of (ring v) = 3
size_of end = 2

-- A mark is two letters: LD, GO, RU, RI or EN. Two other bytes are an unknown mark; with fewer than two there is none.
abbrev pub mark_of : List ℕ → Result (Option Mark) TapeFault
mark_of [] = Ok None
mark_of (a ∷ []) = Ok None
mark_of (a ∷ b ∷ rest) =
    cond (a == 76 && b == 68) (Ok (Some mark.Load))
    (cond (a == 71 && b == 79) (Ok (Some mark.Go))
    (cond (a == 82 && b == 85) (Ok (Some mark.Run))
    (cond (a == 82 && b == 73) (Ok (Some mark.Ring))
    (cond (a == 69 && b == 78) (Ok (Some mark.End))
    (Err UnknownMark)))))

-- Loads come first, then GO, then RU and RI, then EN, then nothing; where a record should come and no whole mark is left, it is cut
-- off. Who reads a tape and does not play it takes any record.
abbrev pub admit_of : Turn → Option Mark → Result Mark TapeFault
admit_of turn.Over m = Err OutOfTurn
admit_of turn.Cold None = Err CutOff
admit_of turn.Live None = Err CutOff
admit_of turn.Any None = Err CutOff
admit_of turn.Cold (Some mark.Load) = Ok mark.Load
admit_of turn.Cold (Some mark.Go) = Ok mark.Go
admit_of turn.Cold (Some mark.Run) = Err OutOfTurn
admit_of turn.Cold (Some mark.Ring) = Err OutOfTurn
admit_of turn.Cold (Some mark.End) = Err OutOfTurn
admit_of turn.Live (Some mark.Load) = Err OutOfTurn
admit_of turn.Live (Some mark.Go) = Err OutOfTurn
admit_of turn.Live (Some mark.Run) = Ok mark.Run
admit_of turn.Live (Some mark.Ring) = Ok mark.Ring
admit_of turn.Live (Some mark.End) = Ok mark.End
admit_of turn.Any (Some m) = Ok m

-- LD: an address pair, a count, and that many bytes.
abbrev pub load_of : ℕ → List ℕ → Result Entry TapeFault
load_of at (low ∷ high ∷ n ∷ rest) = cond (nat_lt (length rest) n) (Err CutOff) (Ok (load (pair low high) (at + 3) (take n rest)))
load_of at (low ∷ high ∷ []) = Err CutOff
load_of at (low ∷ []) = Err CutOff
load_of at [] = Err CutOff

-- GO: the program counter and the return pointer, a pair each.
abbrev pub go_of : List ℕ → Result Entry TapeFault
go_of (a ∷ b ∷ c ∷ d ∷ rest) = Ok (go (pair a b) (pair c d))
go_of (a ∷ b ∷ c ∷ []) = Err CutOff
go_of (a ∷ b ∷ []) = Err CutOff
go_of (a ∷ []) = Err CutOff
go_of [] = Err CutOff

-- RU: the number of steps, a pair.
abbrev pub run_of : List ℕ → Result Entry TapeFault
run_of (a ∷ b ∷ rest) = Ok (run (pair a b))
run_of (a ∷ []) = Err CutOff
run_of [] = Err CutOff

-- RI: the vector, a byte.
abbrev pub ring_of : List ℕ → Result Entry TapeFault
ring_of (v ∷ rest) = Ok (ring v)
ring_of [] = Err CutOff

-- EN has no fields. The fields begin at the offset `at`.
abbrev pub fields_of : Mark → ℕ → List ℕ → Result Entry TapeFault
fields_of mark.Load at bs = load_of at bs
fields_of mark.Go at bs = go_of bs
fields_of mark.Run at bs = run_of bs
fields_of mark.Ring at bs = ring_of bs
fields_of mark.End at bs = Ok end

-- What follows from a value; a refusal stays.
abbrev pub bind : {X Y : Type 0} → Result X TapeFault → (X → Result Y TapeFault) → Result Y TapeFault
bind (Ok x) f = f x
bind (Err e) f = Err e

-- First an unknown mark is refused, then a mark out of turn, then a record that is cut off.
abbrev pub record_of : Turn → ℕ → List ℕ → Result Entry TapeFault
record_of t at rest = bind (bind (mark_of rest) (admit_of t)) (λ m. fields_of m (at + 2) (drop 2 rest))
