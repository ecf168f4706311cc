use Rattle.std.proofs.Common.{◌≡◌, ◌+◌, take}
use Rattle.text.specs.Pieces.{room}
use Rattle.text.proofs.room_after.Given as goal

abbrev pub invariant-loop-piece : goal.invariant-loop-piece
invariant-loop-piece l = l.left + room (take l.piece-index l.pieces) ≡ l.size
