-- What an operation tells of its row: all of the status but CY and OVF is seen of it.
use Rattle.std.proofs.Common.{◌≡◌, ℕ, List, Ok, Err, Result, refl, ap, ◌∙◌}
use Rattle.std.specs.Result.{result_and}
use Rattle.alu.specs.declared.operations.Operation.{Operation}
use Rattle.alu.specs.declared.operations.Operation.TheVariants.{ExtendedLeft, ExtendedRight, LogicalLeft, LogicalRight, Increment, Decrement, Negate, Complement, Test, Clear, Or, ExclusiveOr, And, Load, Compare, Add, Subtract}
use Rattle.alu.specs.declared.operations.Flags.{Flags}
use Rattle.alu.specs.declared.operations.NotDecimal.{NotDecimal}
use Rattle.alu.specs.Seen.{seen}
use Rattle.alu.specs.Operations.{Done, done, worked, checked, operated}

-- what is seen of the row again, where CY and OVF are known
abbrev seen_again : Flags → List ℕ → Flags → Done
seen_again f row g = done row (record { status = seen f.status g.status.cy g.status.ovf row; e = g.e })

abbrev Shows : Flags → Done → Type 0
Shows f d = seen_again f d.row d.flags ≡ d

worked_shows : (o : Operation) (f : Flags) (xs ys : List ℕ) → Shows f (worked o f xs ys)
worked_shows ExtendedLeft f xs ys = refl
worked_shows ExtendedRight f xs ys = refl
worked_shows LogicalLeft f xs ys = refl
worked_shows LogicalRight f xs ys = refl
worked_shows Increment f xs ys = refl
worked_shows Decrement f xs ys = refl
worked_shows Negate f xs ys = refl
worked_shows Complement f xs ys = refl
worked_shows Test f xs ys = refl
worked_shows Clear f xs ys = refl
worked_shows Or f xs ys = refl
worked_shows ExclusiveOr f xs ys = refl
worked_shows And f xs ys = refl
worked_shows Load f xs ys = refl
worked_shows Compare f xs ys = refl
worked_shows Add f xs ys = refl
worked_shows Subtract f xs ys = refl

shows_if : (f : Flags) (w d : Done) (r : Result (Unit {0}) NotDecimal) → Shows f w → Ok d ≡ result_and r (Ok w) → Ok (seen_again f d.row d.flags) ≡ result_and r (Ok w)
shows_if f w d (Ok u) h e = let p : d ≡ w = cc in ap Ok (ap (λ x. seen_again f x.row x.flags) p ∙ h)
shows_if f w d (Err n) h e = cc

pub operated_shows : (o : Operation) (f : Flags) (xs ys : List ℕ) (d : Done) → Ok d ≡ operated o f xs ys → Ok (seen_again f d.row d.flags) ≡ operated o f xs ys
operated_shows o f xs ys d e = shows_if f (worked o f xs ys) d (checked o f.status.dcm xs ys) (worked_shows o f xs ys) e
