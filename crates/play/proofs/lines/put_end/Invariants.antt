use Rattle.std.proofs.Common.{◌+◌, ◌*◌, ◌≤◌, ◌++◌}
use Rattle.std.specs.List.{flat_map, range_with_len}
use Rattle.play.specs.Lines.{end_line, register_line}
use Rattle.play.proofs.Playing.{Put}
use Rattle.play.proofs.lines.put_end.Given as goal

abbrev pub invariant-loop-n : goal.invariant-loop-n
invariant-loop-n l = Put l.fn.out l.out 0 l.wrote (end_line l.fn.read_out ++ flat_map (register_line l.fn.read_out.registers) (range_with_len 0 l.n)) × (l.wrote ≤ 14 + 28 * l.n)
