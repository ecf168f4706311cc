use Rattle.std.proofs.Common.{◌≡◌, ◌+◌, ◌≤◌, length}
use Rattle.tape_text.specs.Reading.{bytes_from, before}
use Rattle.tape_text.proofs.reading.Line.read_bytes.Given as goal

abbrev pub invariant-loop-rest : goal.invariant-loop-rest
invariant-loop-rest l = (length l.rest ≤ length l.self.text.now) × (before l.tape.items (bytes_from l.self.number (length l.self.text.now + 1) l.rest) ≡ before l.fn.tape.items (bytes_from l.self.number (length l.self.text.now + 1) l.fn.rest))

abbrev pub decreases-loop-rest : goal.decreases-loop-rest
decreases-loop-rest l = length l.rest
