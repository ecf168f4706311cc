use Rattle.std.proofs.Common.{◌≡◌}
use Rattle.stains.proofs.Making.{Making}
use Rattle.stains.proofs.make_stores.Given as goal

abbrev pub invariant-loop-i : goal.invariant-loop-i
invariant-loop-i g l =
    let meaning = g.B.Bus.meaning in
    Making l.stain l.address l.bytes (meaning l.initial.bus) l.initial.sheet l.i (meaning l.bus) l.sheet
    × (g.B.Bus.held l.bus ≡ g.B.Bus.held l.initial.bus)
