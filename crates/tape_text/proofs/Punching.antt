-- One byte more of a line, and a mark before bytes.
use Rattle.std.proofs.Common.{◌≡◌, ℕ, ◌+◌, ◌<◌, ◌≤◌, true, false, ◌==◌, List, [], ◌∷◌, ◌++◌, length, get_or, drop, Some, Ok, Err, Result, refl, ap, sym, ◌∙◌, append_assoc, append-nil, subst, zero-add, arith}
use Rattle.std.proofs.lemmas.Bool.Decides.{nat_tests}
use Rattle.std.proofs.lemmas.List.{drop_more, at_drop_all}
use Rattle.std.proofs.lemmas.List.FromFn.{length-enumerate_from, get_or-enumerate_from}
use Rattle.std.specs.Global.{Vec}
use Rattle.std.specs.List.{enumerate_from}
use Rattle.tape_text.specs.declared.fault.TextFault.{TextFault}
use Rattle.tape_text.specs.declared.fault.PunchError.{PunchError}
use Rattle.tape_text.specs.declared.fault.PunchError.TheVariants.{Text, OutOfMemory}
use Rattle.tape_text.specs.Reading.{is_blank, is_capital, byte_of, bytes_from, line_from, line_at, lines_from, before, then, Reads, Punched}

before_before : (xs ys : List ℕ) (r : Result (List ℕ) TextFault) → before (xs ++ ys) r ≡ before xs (before ys r)
before_before xs ys (Ok zs) = ap Ok (append_assoc xs ys zs)
before_before xs ys (Err f) = refl

pub byte_more : (n end b : ℕ) (rest old : List ℕ) → 2 ≤ length rest → get_or rest 0 0 == 35 ≡ false → is_blank (get_or rest 0 0) ≡ false → Some b ≡ byte_of (get_or rest 0 0) (get_or rest 1 0) → before (old ++ b ∷ []) (bytes_from n end (drop 2 rest)) ≡ before old (bytes_from n end rest)
byte_more n end b [] old l e s t = absurd (omega arith)
byte_more n end b (c ∷ []) old l e s t = absurd (omega arith)
byte_more n end b (c ∷ d ∷ rest) old l e s t = rw (e, s, ← t) (before_before old (b ∷ []) (bytes_from n end rest))

pub marked_line : (n end : ℕ) (rest : List ℕ) → 2 ≤ length rest → is_capital (get_or rest 0 0) ≡ true → is_capital (get_or rest 1 0) ≡ true → line_from n end rest ≡ before (get_or rest 0 0 ∷ get_or rest 1 0 ∷ []) (bytes_from n end (drop 2 rest))
marked_line n end [] l p q = absurd (omega arith)
marked_line n end (c ∷ []) l p q = absurd (omega arith)
marked_line n end (c ∷ d ∷ rest) l p q = grind (arith, nat_tests)

pub reads_before : (xs old new : List ℕ) (r : Result (List ℕ) TextFault) (o : Result (Unit {0}) PunchError) → Reads r (old ++ xs) o new → Reads (before xs r) old o new
reads_before xs old new r (Ok u) h = sym (before_before old xs r) ∙ h
reads_before xs old new r (Err (Text f)) h = ap (before xs) h
reads_before xs old new r (Err OutOfMemory) h = tt

pub numbered : (parts : List (List ℕ)) (k n : ℕ) (line : List ℕ) → (k < length (enumerate_from 0 parts)) × ((n, line) ≡ get_or (enumerate_from 0 parts) k (n, line)) → (k < length parts) × (n ≡ k) × (line ≡ get_or parts k line)
numbered parts k n line h =
    let l : k < length parts = rw (length-enumerate_from 0 parts) at h.0 in
    let e = h.1 ∙ get_or-enumerate_from 0 parts k (n, line) l in
    (l, ap (λ p. p.0) e ∙ zero-add k, ap (λ p. p.1) e)

-- where line number n + 1 is next
next_line : (parts : List (List ℕ)) (k n : ℕ) (line : List ℕ) → (k < length parts) × (n ≡ k) × (line ≡ get_or parts k line) → lines_from (k + 1) (drop k parts) ≡ then (line_at (n + 1) line) (lines_from (k + 1 + 1) (drop (k + 1) parts))
next_line parts k n line h =
    let e : drop k parts ≡ line ∷ drop (k + 1) parts = drop_more parts k line h.0 ∙ ap (λ x. x ∷ drop (k + 1) parts) (sym h.2) in
    ap (lines_from (k + 1)) e ∙ ap (λ m. then (line_at (m + 1) line) (lines_from (k + 1 + 1) (drop (k + 1) parts))) (sym h.1)

then_more : (old new : List ℕ) (r more : Result (List ℕ) TextFault) → before old r ≡ Ok new → before old (then r more) ≡ before new more
then_more old new (Ok xs) more h = sym (before_before old xs more) ∙ ap (λ t. before t more) (cc)
then_more old new (Err f) more h = absurd (cc)

pub line_more : (parts : List (List ℕ)) (k n : ℕ) (line old new : List ℕ) (whole : Result (List ℕ) TextFault) → (k < length parts) × (n ≡ k) × (line ≡ get_or parts k line) → before old (line_at (n + 1) line) ≡ Ok new → before old (lines_from (k + 1) (drop k parts)) ≡ whole → before new (lines_from (k + 1 + 1) (drop (k + 1) parts)) ≡ whole
line_more parts k n line old new whole h r w = sym (then_more old new (line_at (n + 1) line) _ r) ∙ sym (ap (before old) (next_line parts k n line h)) ∙ w

refused_in : (xs : List ℕ) (r : Result (List ℕ) TextFault) (f : TextFault) → before xs r ≡ Err f → r ≡ Err f
refused_in xs (Ok ys) f h = absurd (cc)
refused_in xs (Err g) f h = h

pub line_refused : (parts : List (List ℕ)) (k n : ℕ) (line old new first last : List ℕ) (whole : Result (List ℕ) TextFault) (e : PunchError) (o : Result (Unit {0}) PunchError) → (k < length parts) × (n ≡ k) × (line ≡ get_or parts k line) → Reads (line_at (n + 1) line) old (Err e) new → before old (lines_from (k + 1) (drop k parts)) ≡ before first whole → o ≡ Err e → Reads whole first o last
line_refused parts k n line old new first last whole (Text f) o h r w q =
    let e : then (line_at (n + 1) line) (lines_from (k + 1 + 1) (drop (k + 1) parts)) ≡ Err f = ap (λ t. then t (lines_from (k + 1 + 1) (drop (k + 1) parts))) r in
    subst (λ t. Reads whole first t last) (sym q) (refused_in first whole f (sym w ∙ ap (before old) (next_line parts k n line h ∙ e)))
line_refused parts k n line old new first last whole OutOfMemory o h r w q = subst (λ t. Reads whole first t last) (sym q) tt

pub all_read : (parts : List (List ℕ)) (k : ℕ) (tape : List ℕ) (whole : Result (List ℕ) TextFault) → k ≡ length (enumerate_from 0 parts) → before tape (lines_from (k + 1) (drop k parts)) ≡ whole → whole ≡ Ok tape
all_read parts k tape whole h w =
    sym w ∙ ap (before tape) (at_drop_all (lines_from (k + 1)) parts k (omega (arith, h, length-enumerate_from 0 parts))) ∙ ap Ok (append-nil tape)

-- a whole tape is punched from nothing
pub punched : (r : Result (List ℕ) TextFault) (u : Unit {0}) (tape : Vec ℕ) → Reads r [] (Ok u) tape.items → Punched r (Ok tape)
punched (Ok xs) u tape h = h
punched (Err f) u tape h = h

pub not_punched : (r : Result (List ℕ) TextFault) (e : PunchError) (new : List ℕ) → Reads r [] (Err e) new → Punched r (Err e)
not_punched r (Text f) new h = h
not_punched r OutOfMemory new h = tt
