use Rattle.std.proofs.Common.{◌≡◌, ◌+◌, ◌==◌, length, drop}
use Rattle.std.specs.List.{slice_split}
use Rattle.tape_text.specs.Reading.{tape_of, lines_from, before}
use Rattle.tape_text.proofs.reading.read_lines.Given as goal

abbrev pub invariant-loop-n : goal.invariant-loop-n
invariant-loop-n l = before l.tape.items (lines_from (length l.yielded + 1) (drop (length l.yielded) (slice_split (λ c. c == 10) l.text))) ≡ before l.fn.tape.items (tape_of l.text)
