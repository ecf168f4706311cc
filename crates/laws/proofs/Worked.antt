-- What an operation leaves of the row's length, of decimal mode and of E.
use Rattle.std.proofs.Common.{◌≡◌, ℕ, suc, ◌+◌, ◌*◌, ◌/◌, ◌%◌, Bool, false, cond, ◌&&◌, List, [], ◌∷◌, length, refl, ap}
use Rattle.counting.specs.declared.Link.{Link}
use Rattle.counting.specs.declared.Link.TheVariants as link
use Rattle.counting.specs.Chain.{linked, first, others, row_of}
use Rattle.counting.specs.System.{System}
use Rattle.alu.specs.declared.logic.Logic.{Logic}
use Rattle.alu.specs.declared.logic.Logic.TheVariants as logic
use Rattle.alu.specs.declared.operations.Flags.{Flags}
use Rattle.alu.specs.declared.operations.Operation.{Operation}
use Rattle.alu.specs.declared.operations.Operation.TheVariants.{ExtendedLeft, ExtendedRight, LogicalLeft, LogicalRight, Increment, Decrement, Negate, Complement, Test, Clear, Or, ExclusiveOr, And, Load, Compare, Add, Subtract}
use Rattle.alu.specs.Logic.{joined_row}
use Rattle.alu.specs.Operations.{Done, radix_in, incoming_of, worked}
use Rattle.alu.specs.Shifts.{left_row, left_out, right_row, right_out}
use Rattle.alu.specs.Sums.{system_of}
use Rattle.laws.specs.Parts.{shifts}

chain_length : (s : System) (l : Link) (xs ys : List ℕ) (c : Bool) → length (row_of s l xs ys c) ≡ length xs
chain_length s l [] ys c = refl
chain_length s l (x ∷ xs) ys c = ap suc (chain_length s l xs (others ys) (linked s l x (first ys) c).1)

joined_length : (o : Logic) (xs ys : List ℕ) → length (joined_row o xs ys) ≡ length xs
joined_length o [] ys = refl
joined_length o (x ∷ xs) ys = ap suc (joined_length o xs (others ys))

left_length : (k : ℕ) (xs : List ℕ) (c : ℕ) → length (left_row k xs c) ≡ length xs
left_length k [] c = refl
left_length k (x ∷ xs) c = ap suc (left_length k xs ((x * k + c) / 256))

right_length : (k : ℕ) (xs : List ℕ) (c : ℕ) → length (right_row k xs c) ≡ length xs
right_length k [] c = refl
right_length k (x ∷ xs) c = ap suc (right_length k xs c)

chained : (l : Link) (f : Flags) (xs ys : List ℕ) → length (row_of (system_of f.status.dcm) l xs ys false) ≡ length xs
chained l f xs ys = chain_length (system_of f.status.dcm) l xs ys false

pub record WorkedOn (o : Operation) (f : Flags) (xs : List ℕ) (d : Done) : Type 0 where
  pub size : length d.row ≡ length xs
  pub mode : d.flags.status.dcm ≡ f.status.dcm
  pub e : (shifts o && f.status.dcm) ≡ false → d.flags.e ≡ f.e

abbrev stays : {o : Operation} {f : Flags} {xs : List ℕ} {d : Done} → length d.row ≡ length xs → d.flags.status.dcm ≡ f.status.dcm → d.flags.e ≡ f.e → WorkedOn o f xs d
stays h m k = record { size = h; mode = m; e = λ _. k }

abbrev moves : {o : Operation} {f : Flags} {xs : List ℕ} {d : Done} → length d.row ≡ length xs → d.flags.status.dcm ≡ f.status.dcm → ((shifts o && f.status.dcm) ≡ false → d.flags.e ≡ f.e) → WorkedOn o f xs d
moves h m k = record { size = h; mode = m; e = k }

lost : (f : Flags) (out : ℕ) → f.status.dcm ≡ false → cond f.status.dcm out f.e ≡ f.e
lost f out h = ap (λ b. cond b out f.e) h

pub worked_on : (o : Operation) (f : Flags) (xs ys : List ℕ) → WorkedOn o f xs (worked o f xs ys)
worked_on ExtendedLeft f xs ys = moves (left_length (radix_in f) xs (incoming_of f % radix_in f)) refl (lost f (left_out (radix_in f) xs (incoming_of f % radix_in f)))
worked_on ExtendedRight f xs ys = moves (right_length (radix_in f) xs (incoming_of f % radix_in f)) refl (lost f (right_out (radix_in f) xs (incoming_of f % radix_in f)))
worked_on LogicalLeft f xs ys = moves (left_length (radix_in f) xs (0 % radix_in f)) refl (lost f (left_out (radix_in f) xs (0 % radix_in f)))
worked_on LogicalRight f xs ys = moves (right_length (radix_in f) xs (0 % radix_in f)) refl (lost f (right_out (radix_in f) xs (0 % radix_in f)))
worked_on Increment f xs ys = stays (chained link.Add f xs (1 ∷ [])) refl refl
worked_on Decrement f xs ys = stays (chained link.Subtract f xs (1 ∷ [])) refl refl
worked_on Negate f xs ys = stays (chained link.Negate f xs []) refl refl
worked_on Complement f xs ys = stays (chained link.Complement f xs []) refl refl
worked_on Test f xs ys = stays refl refl refl
worked_on Clear f xs ys = stays (joined_length logic.Replace xs []) refl refl
worked_on Or f xs ys = stays (joined_length logic.Or xs ys) refl refl
worked_on ExclusiveOr f xs ys = stays (joined_length logic.ExclusiveOr xs ys) refl refl
worked_on And f xs ys = stays (joined_length logic.And xs ys) refl refl
worked_on Load f xs ys = stays (joined_length logic.Replace xs ys) refl refl
worked_on Compare f xs ys = stays (chained link.Subtract f xs ys) refl refl
worked_on Add f xs ys = stays (chained link.Add f xs ys) refl refl
worked_on Subtract f xs ys = stays (chained link.Subtract f xs ys) refl refl
