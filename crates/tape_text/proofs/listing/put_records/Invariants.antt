use Rattle.std.proofs.Common.{◌≡◌, ◌-◌, ◌++◌, length}
use Rattle.tape_text.specs.Listing.{left}
use Rattle.tape_text.proofs.listing.put_records.Given as goal

abbrev pub invariant-loop-record : goal.invariant-loop-record
invariant-loop-record l = l.text.items ++ left l.reader.place l.reader.tape.now ≡ l.fn.text.items ++ left l.fn.reader.place l.fn.reader.tape.now

abbrev pub decreases-loop-record : goal.decreases-loop-record
decreases-loop-record l = length l.reader.tape.now - l.reader.place
