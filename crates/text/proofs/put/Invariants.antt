use Rattle.std.proofs.Common.{◌+◌, ◌≤◌, take}
use Rattle.text.specs.Line.{Wrote}
use Rattle.text.specs.Pieces.{joined, room}
use Rattle.text.proofs.put.Given as goal

abbrev pub invariant-loop-piece : goal.invariant-loop-piece
invariant-loop-piece l = Wrote l.initial.line l.line (joined (take l.piece-index l.pieces)) × (l.line.at ≤ l.at + room (take l.piece-index l.pieces))
