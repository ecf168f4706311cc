use Rattle.std.proofs.Common.{◌≡◌, ◌+◌, ◌≤◌, length}
use Rattle.tape_text.specs.Reading.{line_from, line_at}
use Rattle.tape_text.proofs.reading.Line.read.Given as goal

abbrev pub invariant-loop-rest : goal.invariant-loop-rest
invariant-loop-rest l = (length l.rest ≤ length l.self.text.now) × (l.tape.items ≡ l.fn.tape.items) × (line_from l.self.number (length l.self.text.now + 1) l.rest ≡ line_at l.self.number l.self.text.now)

abbrev pub decreases-loop-rest : goal.decreases-loop-rest
decreases-loop-rest l = length l.rest
