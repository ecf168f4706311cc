-- The text of a tape is punched to the tape.
use Rattle.std.proofs.Common.{◌≡◌, ℕ, zero, suc, ◌+◌, ◌*◌, ◌/◌, ◌%◌, ◌<◌, ◌≤◌, true, false, ◌==◌, List, [], ◌∷◌, ◌++◌, length, get_or, take, drop, Some, Ok, Err, refl, sym, ap, ◌∙◌, append_assoc, length-drop, length-take, arith}
use Rattle.std.proofs.lemmas.Bool.Decides.{nat_tests}
use Rattle.std.proofs.lemmas.List.{take-append-drop, drop-drop, get_or-take, nil_from_length}
use Rattle.std.specs.List.{All, AllByRecursion, flat_map, slice_split}
use Rattle.std.specs.Prelude.{codes}
use Rattle.std.specs.Simd.{first_chunks}
use Rattle.std.specs.Slice.Iter.{chunk_count}
use Rattle.std.proofs.lemmas.List.Elements.{All-from_recursion, All-from_get_or, All-head, All-tail, All-take, All-drop}
use Rattle.std.proofs.lemmas.List.Splits.{slice_split_at}
use Rattle.std.specs.Char.{digit_value}
use Rattle.text.specs.Pieces.{hex_digit, apart}
use Rattle.tape.specs.declared.record.Turn.TheVariants as turn
use Rattle.tape.specs.Records.{size_of, record_of}
use Rattle.tape.proofs.Sizes.{record_fits, two_or_more, record_letters}
use Rattle.tape_text.specs.Reading.{is_blank, is_capital, byte_of, bytes_from, line_at, lines_from, before, then, tape_of}
use Rattle.tape_text.specs.Listing.{line_of, record_line, listed_by, listed, text_of}

abbrev pub Bytes : List ℕ → Type 0
Bytes bs = All (λ b. b < 256) bs

digit_again : (d : ℕ) → d < 16 → digit_value (hex_digit d) ≡ d
digit_again d h = grind (arith, nat_tests)

byte_again : (b : ℕ) → b < 256 → byte_of (hex_digit (b / 16)) (hex_digit (b % 16)) ≡ Some b
byte_again b h =
    let high = digit_again (b / 16) (omega arith) in
    let low = digit_again (b % 16) (omega arith) in
    rw (high, low) (grind (arith, nat_tests))

-- a digit is no blank, and begins no comment and no line
plain : (d : ℕ) → (is_blank (hex_digit d) ≡ false) × (hex_digit d == 35 ≡ false) × (hex_digit d == 10 ≡ false)
plain d = grind (arith, nat_tests)

bytes_again : (n end : ℕ) (bs : List ℕ) → Bytes bs → bytes_from n end (apart bs) ≡ Ok bs
bytes_again n end [] h = refl
bytes_again n end (b ∷ bs) h =
    let p = plain (b / 16) in
    let it = byte_again b (All-head (λ b. b < 256) b bs h) in
    let more = bytes_again n end bs (All-tail (λ b. b < 256) b bs h) in
    rw (p.1, p.0, it, more) refl

one_line : (bs : List ℕ) → AllByRecursion (λ c. c == 10 ≡ false) (apart bs)
one_line [] = tt
one_line (b ∷ bs) = (refl, ((plain (b / 16)).2, ((plain (b % 16)).2, one_line bs)))

-- a line is read before the lines after it
line_first : (n a b : ℕ) (bs more : List ℕ) → a == 10 ≡ false → b == 10 ≡ false → lines_from n (slice_split (λ c. c == 10) (line_of (a ∷ b ∷ []) bs ++ more)) ≡ then (line_at n (a ∷ b ∷ apart bs)) (lines_from (n + 1) (slice_split (λ c. c == 10) more))
line_first n a b bs more p q =
    let all = All-from_recursion (λ c. c == 10 ≡ false) (a ∷ b ∷ apart bs) (p, (q, one_line bs)) in
    let e : line_of (a ∷ b ∷ []) bs ++ more ≡ (a ∷ b ∷ apart bs) ++ (10 ∷ more) = ap (λ t. a ∷ b ∷ t) (append_assoc (apart bs) (10 ∷ []) more) in
    ap (λ t. lines_from n (slice_split (λ c. c == 10) t)) e ∙ ap (lines_from n) (slice_split_at (λ c. c == 10) (a ∷ b ∷ apart bs) 10 more all refl)

rows_again : (n count : ℕ) (bytes : List ℕ) → Bytes bytes → length bytes ≤ 16 * count → lines_from n (slice_split (λ c. c == 10) (flat_map (line_of (codes "..")) (first_chunks 16 count bytes))) ≡ Ok bytes
rows_again n zero bytes h l = ap Ok (sym (nil_from_length bytes (omega arith)))
rows_again n (suc count) bytes h l =
    let row = take 16 bytes in
    let rest = drop 16 bytes in
    let again = rows_again (n + 1) count rest (All-drop (λ b. b < 256) 16 bytes h) (omega (arith, length-drop 16 bytes)) in
    let it : line_at n (46 ∷ 46 ∷ apart row) ≡ Ok row = bytes_again n _ row (All-take (λ b. b < 256) 16 bytes h) in
    line_first n 46 46 row _ refl refl ∙ (λ i. then (it i) (again i)) ∙ ap Ok (take-append-drop 16 bytes)

abbrev Capital : ℕ → Type 0
Capital c = (65 ≤ c) × (c ≤ 90)

letters : (a : ℕ) → Capital a → (is_blank a ≡ false) × (a == 35 ≡ false) × (a == 46 ≡ false) × (a == 10 ≡ false) × (is_capital a ≡ true)
letters a h = grind (arith, nat_tests)

record_again : (n a b : ℕ) (bs : List ℕ) → Capital a → Capital b → Bytes bs → line_at n (a ∷ b ∷ apart bs) ≡ Ok (a ∷ b ∷ bs)
record_again n a b bs p q h =
    let l = letters a p in
    rw (l.1, l.0, l.2, l.4, (letters b q).4, bytes_again n _ bs h) refl

-- a record's line is read before the lines after it
record_first : (n : ℕ) (bytes more : List ℕ) → Bytes bytes → 2 ≤ length bytes → Capital (get_or bytes 0 0) × Capital (get_or bytes 1 0) → lines_from n (slice_split (λ c. c == 10) (record_line bytes ++ more)) ≡ before bytes (lines_from (n + 1) (slice_split (λ c. c == 10) more))
record_first n [] more h l c = absurd (omega arith)
record_first n (a ∷ []) more h l c = absurd (omega arith)
record_first n (a ∷ b ∷ bs) more h l c =
    let it = record_again n a b bs c.0 c.1 (All-tail (λ b. b < 256) b bs (All-tail (λ b. b < 256) a (b ∷ bs) h)) in
    line_first n a b bs more (letters a c.0).3 (letters b c.1).3 ∙ ap (λ r. then r (lines_from (n + 1) (slice_split (λ c. c == 10) more))) it

records_again : (n count place : ℕ) (tape : List ℕ) → Bytes tape → lines_from n (slice_split (λ c. c == 10) (listed count place tape)) ≡ Ok (drop place tape)
unfolding listed
records_again n zero place tape h = rows_again n (chunk_count (length (drop place tape)) 16) (drop place tape) (All-drop (λ b. b < 256) place tape h) (omega arith)
records_again n (suc count) place tape h =
    let bytes = drop place tape in
    let all : Bytes bytes = All-drop (λ b. b < 256) place tape h in
    elim (record_of turn.Any place bytes) as (λ r. record_of turn.Any place bytes ≡ r → lines_from n (slice_split (λ c. c == 10) (listed_by r (λ size. listed count (place + size) tape) bytes)) ≡ Ok bytes) [
      | Ok e ↦ λ q.
          let row = take (size_of e) bytes in
          let two = two_or_more e in
          let c = record_letters turn.Any place bytes e q in
          let whole : 2 ≤ length row = omega (arith, length-take (size_of e) bytes, record_fits turn.Any place bytes e q) in
          let first = get_or-take (size_of e) bytes 0 0 (omega arith) in
          let second = get_or-take (size_of e) bytes 1 0 (omega arith) in
          let again = records_again (n + 1) count (place + size_of e) tape h ∙ ap Ok (sym (drop-drop (size_of e) place tape)) in
          record_first n row _ (All-take (λ b. b < 256) (size_of e) bytes all) whole (rw (first, second) c) ∙ ap (before row) again ∙ ap Ok (take-append-drop (size_of e) bytes)
      | Err f ↦ λ q. rows_again n (chunk_count (length bytes) 16) bytes all (omega arith)
    ] refl

pub punched_again : (tape : List ℕ) → ((i : ℕ) → get_or tape i 0 < 256) → tape_of (text_of tape) ≡ Ok tape
punched_again tape h = records_again 1 (length tape) 0 tape (All-from_get_or (λ b. b < 256) tape 0 (λ i l. h i))
