use Rattle.std.proofs.Common.{[], ◌∷◌, ◌∙◌, ap, rules}
use Rattle.byte_rows.proofs.Lows.{one_low}
use Rattle.reading.specs.Readings.{byte_tree}
use Rattle.reading.specs.Trees.{done}
use Rattle.reading.proofs.Laws.{then, at_once}
use Rattle.addressing.proofs.operands.read_bytes.Goals as goal

pub returns-in_ok-byte-in-1 : goal.returns-in_ok-byte-in-1
returns-in_ok-byte-in-1 g c =
    let w = c.of_word.ensures.bytes ∙ one_low _ (search rules) ∙ ap (λ b. b ∷ []) c.from.ensures in
    rw (c.in-1.is, w) (then g.B.Bus.meaning (byte_tree c.args.address) (λ b. done (b ∷ [])) _ _ _ _ _ _ c.in_ok-byte-in-1.was c.byte.ensures (at_once g.B.Bus.meaning _ _))
