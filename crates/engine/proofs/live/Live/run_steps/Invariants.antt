use Rattle.std.proofs.Common.{◌≡◌, ◌-◌}
use Rattle.noninterference.specs.declared.answer.Letter.TheVariants.{Done}
use Rattle.noninterference.specs.Steps.{tries, last_letter, summed, run}
use Rattle.engine.specs.Machine.{machine}
use Rattle.engine.specs.States.{in_service}
use Rattle.engine.proofs.live.Live.run_steps.Given as goal

-- what is left of the run comes to the whole run
abbrev pub invariant-loop-i : goal.invariant-loop-i
invariant-loop-i g l =
    let meaning = g.B.Bus.meaning in
    let now = in_service l.self l.sheet (meaning l.bus) in
    (last_letter machine l.last ≡ Done)
    × (summed machine l.i l.last now (tries machine (l.n - l.i) now) ≡ run machine l.n (in_service l.initial.self l.initial.sheet (meaning l.initial.bus)))
    × (g.B.Bus.held l.bus ≡ g.B.Bus.held l.initial.bus)
