use Rattle.std.proofs.Common.{◌≡◌, ◌++◌}
use Rattle.std.specs.Slice.Iter.{chunks_rest, chunks_size}
use Rattle.tape_text.specs.Listing.{rows_of}
use Rattle.tape_text.proofs.listing.put_rows.Given as goal

abbrev pub invariant-loop-row : goal.invariant-loop-row
invariant-loop-row l = (chunks_size l.row-iterator ≡ 16) × (l.text.items ++ rows_of (chunks_rest l.row-iterator) ≡ l.fn.text.items ++ rows_of l.bytes)
