-- What a line says, as bytes.
use Rattle.std.specs.Prelude.{ℕ, ◌+◌, ◌/◌, ◌%◌, cond, List, [], ◌∷◌, decimal, nat_lt, sum_by}
use Rattle.std.specs.List.{flat_map}
use Rattle.text.specs.declared.Piece.{Piece}
use Rattle.text.specs.declared.Piece.TheVariants.{Byte, Word, Decimal, Octal2, Hex1, Hex2, Hex4, Row}

-- A hexadecimal digit: 0 to 9, then capitals.
abbrev pub hex_digit : ℕ → ℕ
hex_digit n = cond (nat_lt n 10) (48 + n) (55 + n)

-- A byte, as two digits.
abbrev pub hex2 : ℕ → List ℕ
hex2 b = hex_digit (b / 16) ∷ hex_digit (b % 16) ∷ []

-- A byte of a row: a space and two digits.
abbrev pub one_apart : ℕ → List ℕ
one_apart b = 32 ∷ hex2 b

abbrev pub apart : List ℕ → List ℕ
apart bs = flat_map one_apart bs

-- How a piece is written.
abbrev pub spelled : Piece → List ℕ
spelled (Byte b) = b ∷ []
spelled (Word w) = w
spelled (Decimal n) = decimal n
spelled (Octal2 n) = (48 + n / 8 % 8) ∷ (48 + n % 8) ∷ []
spelled (Hex1 n) = hex_digit (n % 16) ∷ []
spelled (Hex2 n) = hex2 n
spelled (Hex4 n) = hex_digit (n / 4096) ∷ hex_digit (n / 256 % 16) ∷ hex_digit (n / 16 % 16) ∷ hex_digit (n % 16) ∷ []
spelled (Row bs) = apart bs

-- Pieces are written one after another.
unfoldable pub joined : List Piece → List ℕ
joined ps = flat_map spelled ps

-- How many bytes a piece has at its widest.
abbrev pub widest : Piece → ℕ
widest (Byte b) = 1
widest (Word w) = 3
widest (Decimal n) = 20
widest (Octal2 n) = 2
widest (Hex1 n) = 1
widest (Hex2 n) = 2
widest (Hex4 n) = 4
widest (Row bs) = 24

-- How many bytes pieces have at their widest.
abbrev pub room : List Piece → ℕ
room ps = sum_by widest ps
