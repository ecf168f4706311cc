use Rattle.std.proofs.Common.{ap, ◌∙◌, arith}
use Rattle.registers.specs.Model.{state_of}
use Rattle.engine.proofs.Taken.{executed_taken}
use Rattle.engine.proofs.live.Live.advance.Goals as goal

pub returns-in-Ok-clause-after : goal.returns-in-Ok-clause-after
returns-in-Ok-clause-after g c =
    let carried = c.carry_out-carried in
    let all = executed_taken g.B.Bus.meaning c.new-reader.result carried.new.reader (state_of c.args.self.now.cpu) (state_of carried.new.cpu) carried.result c.in-Ok.executed carried.ensures.outcome c.in-Ok.is in
    let bus = c.new-reader.ensures.bus in
    grind (arith, all, bus)
