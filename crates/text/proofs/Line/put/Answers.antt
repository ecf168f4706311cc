use Rattle.std.proofs.Common.{rules}
use Rattle.text.proofs.Writing.{row_apart}
use Rattle.text.proofs.Line.put.Goals as goal

pub returns-in-Row-clause-wrote : goal.returns-in-Row-clause-wrote
returns-in-Row-clause-wrote c = let same = row_apart c.in-Row.row c.map.result (search rules) (λ k d h. let at = c.map.ensures.items.at k 0 d (search rules) in search rules) in search rules
