use Rattle.std.proofs.Common.{arith}
use Rattle.std.proofs.lemmas.Result.{err_from_is_err_and}
use Rattle.reading.proofs.Filling.{filling_more, filling_stops}
use Rattle.reading.proofs.reads.BusReader.row.Goals as goal

pub loop-i-preserved : goal.loop-i-preserved
loop-i-preserved g c = filling_more _ _ _ _ _ _ _ _ (omega arith) c.loop-i.invariant _ (rw c.in_ok-byte.was at c.byte.ensures)

pub returns-in_err-byte-clause-read : goal.returns-in_err-byte-clause-read
returns-in_err-byte-clause-read g c =
    let e = err_from_is_err_and c.from_residual.result c.from_residual.ensures.1 in
    rw (e.1, e.2) (filling_stops _ _ _ _ _ _ _ _ (omega arith) c.loop-i.invariant _ (rw c.in_err-byte.was at c.byte.ensures))
