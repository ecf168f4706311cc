-- The refusals of a record. The place of each is the record's offset.
use Rattle.std.specs.Prelude.{ℕ}
use Rattle.engine.specs.Loads.{load_described}
use Rattle.noninterference.specs.declared.refusal.Description.{Description}
use Rattle.noninterference.specs.declared.refusal.Detail.TheVariants.{None}
use Rattle.noninterference.specs.Refusals.{described}
use Rattle.tape.specs.Records.{tape_number}
use Rattle.play.specs.declared.fault.Refusal.{Refusal}
use Rattle.play.specs.declared.fault.Refusal.TheVariants.{Sheet, Tape, Load, Step, Buffer}

-- 1 a sheet of another size, 10 to 12 a record that is not there to play, 13 a load, 14 a line buffer of under 512 bytes. A step's
-- refusal keeps its number and its detail.
abbrev pub refusal_described : Refusal → Description
refusal_described Sheet = record { number = 1; detail = None }
refusal_described (Tape f) = record { number = tape_number f; detail = None }
refusal_described (Load f) = load_described f
refusal_described (Step r) = described r.fault
refusal_described Buffer = record { number = 14; detail = None }

-- The number alone.
abbrev pub refusal_number : Refusal → ℕ
refusal_number r = (refusal_described r).number
