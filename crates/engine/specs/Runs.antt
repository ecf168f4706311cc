-- What a run reports. With a sheet of another size than 8,192 bytes it is refused whole.
use Rattle.std.specs.Prelude.{ℕ, cond, length, None, Ok, Err, Result, ◌==◌}
use Rattle.registers.specs.State.{pc_of}
use Rattle.noninterference.specs.declared.refusal.Refusal.{Refusal}
use Rattle.noninterference.specs.declared.refusal.StepFault.TheVariants.{Sheet}
use Rattle.noninterference.specs.Steps.{State as ExchangeState, Ran, run}
use Rattle.engine.specs.declared.live.running.Report.{Report}
use Rattle.engine.specs.Machine.{machine}

-- All but the state after it.
abbrev pub reported : Ran machine → Report
reported r = record { done = r.done; letter = r.why; last = r.last }

-- What a run answers.
abbrev pub run_outcome : ℕ → ExchangeState machine → Result Report Refusal
run_outcome n s = cond (length s.sheet == 8192) (Ok (reported (run machine n s))) (Err (record { place = pc_of s.cpu; fault = Sheet; told = None }))

-- What a run leaves.
abbrev pub run_after : ℕ → ExchangeState machine → ExchangeState machine
run_after n s = cond (length s.sheet == 8192) (run machine n s).state_after_all s
