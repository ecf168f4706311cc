use Rattle.std.proofs.Common.{◌≡◌, position, zip, rules, arith}
use Rattle.std.proofs.lemmas.Iterator.{YieldsList-from_slice, YieldsList-from_zip}
use Rattle.std.proofs.lemmas.Iterator.Search.{position_from_yields_List}
use Rattle.registers.proofs.Differing.{differ, first_differs}
use Rattle.registers.proofs.cpu.differences.first_register.Goals as goal
use borrow.Author.Tests.{tests}

pub returns : goal.returns
returns c =
    let at : c.position.result ≡ position differ (zip c.args.xs.now c.args.ys.now) = position_from_yields_List differ c.position.new.self _ _ c.position.ensures.ran (YieldsList-from_zip (YieldsList-from_slice c.args.xs.now cc) (YieldsList-from_slice c.args.ys.now cc)) (λ x b q k. search (rules, tests)) in
    rw (first_differs c.args.xs.now c.args.ys.now c.position.result (omega arith) at) (grind arith)
