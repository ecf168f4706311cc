-- The memory before anything is loaded.
use Rattle.byte_rows.specs.Rows.{zeros}
use Rattle.bus.specs.Meaning.{Meaning}
use Rattle.bus.specs.Kinds.{ram_meaning, bytes_meaning}
use Rattle.layers.specs.Layers.{split_meaning, guard_meaning}

-- A split at 32,768: below it a guard of 0 to 255 over 32,768 zero bytes at 0, from it on sixteen zero trunks.
abbrev pub blank : Meaning
blank = split_meaning 32768 (guard_meaning 0 255 (ram_meaning 0 (zeros 32768))) (bytes_meaning 32768 16 (zeros 16))
