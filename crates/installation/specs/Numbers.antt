-- The numbers of refused calls, with place and detail.
use Rattle.std.specs.Prelude.{ℕ, Option, None}
use Rattle.noninterference.specs.declared.refusal.Description.{Description}
use Rattle.noninterference.specs.declared.refusal.Detail.TheVariants as detail
use Rattle.noninterference.specs.Refusals.{described}
use Rattle.engine.specs.Loads.{load_described}
use Rattle.installation.specs.declared.fault.CallFault.{CallFault}
use Rattle.installation.specs.declared.fault.CallFault.TheVariants.{OutOfTurn, Load, Exchange}

-- 12 out of turn; what is refused below keeps its number and its detail.
abbrev pub call_described : CallFault → Description
call_described OutOfTurn = record { number = 12; detail = detail.None }
call_described (Load f) = load_described f
call_described (Exchange r) = described r.fault

-- The program counter beforehand, where the exchange refused; else 0.
abbrev pub call_place : CallFault → ℕ
call_place OutOfTurn = 0
call_place (Load f) = 0
call_place (Exchange r) = r.place

-- The stain that a refused step told.
abbrev pub call_told : CallFault → Option ℕ
call_told OutOfTurn = None
call_told (Load f) = None
call_told (Exchange r) = r.told
