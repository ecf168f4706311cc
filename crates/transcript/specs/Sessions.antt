-- What a session plays and holds.
use Rattle.std.specs.Prelude.{ℕ, List}
use Rattle.memory.specs.Pile.{meaning_of}
use Rattle.play.specs.Play.{World, world_of, tape_of, Outcome, play_of}
use Rattle.transcript.specs.declared.session.Session.{Session}

-- The tape of a session.
abbrev pub tape_in : Session → List ℕ
tape_in s = tape_of s.player

-- Its exchange with sheet and memory, and its place on the tape.
abbrev pub world_in : Session → World
world_in s = world_of s.player s.sheet (meaning_of s.memory)

-- What its next record comes to; the line buffer has the size that a player asks for.
abbrev pub next_in : Session → Outcome
next_in s = play_of 512 (tape_in s) (world_in s)
