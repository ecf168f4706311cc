-- The tape that a text stands for.
use Rattle.std.specs.Prelude.{◌≡◌, ℕ, ◌+◌, ◌-◌, ◌*◌, ◌==◌, ◌&&◌, ◌||◌, nat_le, Bool, cond, List, [], ◌∷◌, ◌++◌, length, Option, Some, None, Ok, Err, Result}
use Rattle.std.specs.List.{slice_split}
use Rattle.std.specs.Global.{Vec}
use Rattle.std.specs.Char.{digit_value, is_digit}
use Rattle.tape_text.specs.declared.fault.Expected.{Expected}
use Rattle.tape_text.specs.declared.fault.Expected.TheVariants.{Mark, Byte}
use Rattle.tape_text.specs.declared.fault.TextFault.{TextFault}
use Rattle.tape_text.specs.declared.fault.PunchError.{PunchError}
use Rattle.tape_text.specs.declared.fault.PunchError.TheVariants.{Text, OutOfMemory}

-- A blank is a space, a tab or a carriage return.
abbrev pub is_blank : ℕ → Bool
is_blank c = c == 32 || c == 9 || c == 13

-- A capital letter, A to Z.
abbrev pub is_capital : ℕ → Bool
is_capital c = nat_le 65 c && nat_le c 90

-- The byte that two hexadecimal digits stand for, capital or small.
abbrev pub byte_of : ℕ → ℕ → Option ℕ
byte_of c d = cond (is_digit c 16 && is_digit d 16) (Some (digit_value c * 16 + digit_value d)) None

-- Where the rest of line n, which ends before the column `end`, does not begin as it should.
abbrev pub fault : ℕ → ℕ → List ℕ → Expected → TextFault
fault n end rest e = record { line = n; column = end - length rest; expected = e }

-- These bytes, and then those; a fault in the first comes first.
abbrev pub before : List ℕ → Result (List ℕ) TextFault → Result (List ℕ) TextFault
before xs (Ok ys) = Ok (xs ++ ys)
before xs (Err f) = Err f

-- One part of a text after another; the first fault stays.
abbrev pub then : Result (List ℕ) TextFault → Result (List ℕ) TextFault → Result (List ℕ) TextFault
then (Ok xs) r = before xs r
then (Err f) r = Err f

-- A byte and what follows it, or the fault where there is none.
abbrev pub byte_then : Option ℕ → TextFault → Result (List ℕ) TextFault → Result (List ℕ) TextFault
byte_then (Some b) f r = before (b ∷ []) r
byte_then None f r = Err f

-- The bytes on the rest of a line: two digits each, with blanks between them, up to the comment after a #.
abbrev pub bytes_from : ℕ → ℕ → List ℕ → Result (List ℕ) TextFault
bytes_from n end [] = Ok []
bytes_from n end (c ∷ []) = cond (c == 35 || is_blank c) (Ok []) (Err (fault n end (c ∷ []) Byte))
bytes_from n end (c ∷ d ∷ rest) =
    cond (c == 35) (Ok [])
    (cond (is_blank c) (bytes_from n end (d ∷ rest))
    (byte_then (byte_of c d) (fault n end (c ∷ d ∷ rest) Byte) (bytes_from n end rest)))

-- What begins with two capital letters, a mark, has the letters on the tape as they are, and then bytes. Two dots stand for
-- nothing, so that bytes can stand on a line with no mark.
abbrev pub marked : ℕ → ℕ → ℕ → ℕ → List ℕ → Result (List ℕ) TextFault
marked n end c d rest =
    cond (c == 46 && d == 46) (bytes_from n end rest)
    (cond (is_capital c && is_capital d) (before (c ∷ d ∷ []) (bytes_from n end rest))
    (Err (fault n end (c ∷ d ∷ rest) Mark)))

-- A line has a mark and bytes, or dots and bytes, or neither.
abbrev pub line_from : ℕ → ℕ → List ℕ → Result (List ℕ) TextFault
line_from n end [] = Ok []
line_from n end (c ∷ []) = cond (c == 35 || is_blank c) (Ok []) (Err (fault n end (c ∷ []) Mark))
line_from n end (c ∷ d ∷ rest) = cond (c == 35) (Ok []) (cond (is_blank c) (line_from n end (d ∷ rest)) (marked n end c d rest))

-- Line n, from its first column on.
abbrev pub line_at : ℕ → List ℕ → Result (List ℕ) TextFault
line_at n line = line_from n (length line + 1) line

-- The lines from number n on.
abbrev pub lines_from : ℕ → List (List ℕ) → Result (List ℕ) TextFault
lines_from n [] = Ok []
lines_from n (line ∷ lines) = then (line_at n line) (lines_from (n + 1) lines)

-- Lines are counted from 1, and end with byte 10.
abbrev pub tape_of : List ℕ → Result (List ℕ) TextFault
tape_of text = lines_from 1 (slice_split (λ c. c == 10) text)

-- What punching a part of a text leaves of a tape: the part's bytes at its end, or the part's fault. Where memory was short nothing
-- is said.
abbrev pub Reads : Result (List ℕ) TextFault → List ℕ → Result (Unit {0}) PunchError → List ℕ → Type 0
Reads r old (Ok u) new = before old r ≡ Ok new
Reads r old (Err (Text f)) new = r ≡ Err f
Reads r old (Err OutOfMemory) new = Unit {0}

-- What a text is punched to. Where memory was short nothing is said.
abbrev pub Punched : Result (List ℕ) TextFault → Result (Vec ℕ) PunchError → Type 0
Punched r (Ok tape) = r ≡ Ok tape.items
Punched r (Err (Text f)) = r ≡ Err f
Punched r (Err OutOfMemory) = Unit {0}
