-- The text of a tape.
use Rattle.std.specs.Prelude.{◌≡◌, ℕ, zero, suc, ◌+◌, ◌-◌, List, [], ◌∷◌, ◌++◌, length, take, drop, codes, Ok, Err, Result}
use Rattle.std.specs.List.{flat_map}
use Rattle.std.specs.Simd.{first_chunks}
use Rattle.std.specs.Slice.Iter.{chunk_count}
use Rattle.text.specs.Pieces.{apart}
use Rattle.tape.specs.declared.record.TapeFault.{TapeFault}
use Rattle.tape.specs.declared.record.Turn.TheVariants as turn
use Rattle.tape.specs.Records.{Entry, size_of, record_of}

-- A line: a mark, and bytes in hexadecimal, each after a space. It ends with byte 10.
abbrev pub line_of : List ℕ → List ℕ → List ℕ
line_of mark bytes = mark ++ (apart bytes ++ (10 ∷ []))

-- Bytes at which no whole record begins stand as they are, sixteen a line, after two dots.
abbrev pub rows_of : List ℕ → List ℕ
rows_of bytes = flat_map (line_of (codes "..")) (first_chunks 16 (chunk_count (length bytes) 16) bytes)

-- A record's line has its two letters, and its other bytes after them.
abbrev pub record_line : List ℕ → List ℕ
record_line bytes = line_of (take 2 bytes) (drop 2 bytes)

-- The line of a record, whatever its turn, with which the bytes begin, and more lines then. Where no whole record begins, no
-- record is looked for any more.
abbrev pub listed_by : Result Entry TapeFault → (ℕ → List ℕ) → List ℕ → List ℕ
listed_by (Ok e) more bytes = record_line (take (size_of e) bytes) ++ more (size_of e)
listed_by (Err f) more bytes = rows_of bytes

-- The lines of at most n records from the place on, and then of what is left of the tape.
unfoldable pub listed : ℕ → ℕ → List ℕ → List ℕ
listed zero place tape = rows_of (drop place tape)
listed (suc n) place tape = listed_by (record_of turn.Any place (drop place tape)) (λ size. listed n (place + size) tape) (drop place tape)

-- The lines from the place on; what is left there has fewer records than bytes.
abbrev pub left : ℕ → List ℕ → List ℕ
left place tape = listed (length tape - place) place tape

-- The text of a whole tape.
abbrev pub text_of : List ℕ → List ℕ
text_of tape = listed (length tape) 0 tape

-- That count is enough: were more records looked for, the text would be the same.
abbrev pub EveryRecordIsListed : Type 0
EveryRecordIsListed = (tape : List ℕ) (more : ℕ) → listed (length tape + more) 0 tape ≡ text_of tape
