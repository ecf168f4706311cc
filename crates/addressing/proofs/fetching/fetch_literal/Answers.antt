use Rattle.std.proofs.Common.{Ok, Err, ap, ◌∙◌}
use Rattle.std.proofs.lemmas.Result.{err_from_is_err_and}
use Rattle.byte_rows.specs.Short.{bytes_of}
use Rattle.reading.specs.Trees.{map_ok}
use Rattle.reading.proofs.Laws.{then, stops, at_once}
use Rattle.addressing.specs.Models.{with_literal}
use Rattle.addressing.proofs.fetching.fetch_literal.Goals as goal

pub returns-in_err-literal-clause-outcome : goal.returns-in_err-literal-clause-outcome
returns-in_err-literal-clause-outcome g c =
    let e = err_from_is_err_and c.from_residual.result c.from_residual.ensures.1 in
    stops _ _ _ _ _ _ _ _ (ap (map_ok bytes_of) c.in_err-literal.was) (ap (map_ok (with_literal c.args.instruction)) (e.1 ∙ ap Err e.2)) (rw (c.count_literals-count.ensures.value, c.pc-after.ensures) at c.read_bytes.ensures)

pub returns-clause-outcome : goal.returns-clause-outcome
returns-clause-outcome g c = then _ _ _ _ _ _ _ _ _ (ap (map_ok bytes_of) c.in_ok-literal.was) (rw (c.count_literals-count.ensures.value, c.pc-after.ensures) at c.read_bytes.ensures) (at_once _ (Ok _) _)
