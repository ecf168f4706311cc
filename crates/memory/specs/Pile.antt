-- What the memory means: a split, with a guard over RAM below its bound and a line board above.
use Rattle.std.specs.Prelude.{map, vec_items}
use Rattle.bus.specs.Meaning.{Meaning}
use Rattle.bus.specs.Rules.{Rules}
use Rattle.bus.specs.Kinds.{ram_meaning, board_meaning, trunk_byte}
use Rattle.bus.specs.Kept.{ram_rules, bytes_rules}
use Rattle.layers.specs.Layers.{split_meaning, guard_meaning}
use Rattle.layers.specs.Kept.{split_rules, guard_rules}
use Rattle.memory.specs.declared.memory.Memory.{Memory}

-- Below the bound, a guard over RAM.
abbrev low_of : Memory → Meaning
low_of m = guard_meaning m.pile.low.first m.pile.low.last (ram_meaning m.pile.low.below.base (vec_items m.pile.low.below.bytes))

-- From the bound on, a line board.
abbrev high_of : Memory → Meaning
high_of m = board_meaning m.pile.high.base m.pile.high.trunks

abbrev pub meaning_of : Memory → Meaning
meaning_of m = split_meaning m.pile.at (low_of m) (high_of m)

-- It keeps the bus rules, as its layers and its RAM and line board do.
abbrev pub rules_of : (m : Memory) → Rules (meaning_of m)
rules_of m =
    split_rules m.pile.at (low_of m) (high_of m)
    (guard_rules m.pile.low.first m.pile.low.last (ram_meaning m.pile.low.below.base (vec_items m.pile.low.below.bytes)) (ram_rules m.pile.low.below.base (vec_items m.pile.low.below.bytes)))
    (bytes_rules m.pile.high.base 16 (map trunk_byte m.pile.high.trunks))
