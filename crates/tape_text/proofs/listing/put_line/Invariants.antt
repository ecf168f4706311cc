use Rattle.std.proofs.Common.{◌≡◌, [], ◌∷◌, ◌++◌, drop}
use Rattle.text.specs.Pieces.{apart}
use Rattle.tape_text.specs.Listing.{line_of}
use Rattle.tape_text.proofs.listing.put_line.Given as goal

abbrev pub invariant-loop-byte : goal.invariant-loop-byte
invariant-loop-byte l = l.text.items ++ (apart (drop l.byte-index l.bytes) ++ (10 ∷ [])) ≡ l.fn.text.items ++ line_of l.mark l.bytes
