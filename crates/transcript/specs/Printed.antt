-- What is printed of a whole tape.
use Rattle.std.specs.Prelude.{◌≡◌, ℕ, zero, suc, ◌+◌, cond, List, [], ◌++◌, length}
use Rattle.stains.specs.Marks.{blank as unstained}
use Rattle.memory.specs.Blank.{blank}
use Rattle.play.specs.Work.{cold, scene}
use Rattle.play.specs.Lines.{lines_of}
use Rattle.play.specs.Play.{World, world, play_of, over_of}

-- A cold exchange with a clean sheet, on zero memory, at the tape's first byte.
abbrev pub start : World
start = world (scene cold unstained blank) 0

-- The lines of at most n records, one record's after another's.
unfoldable pub printed : ℕ → List ℕ → World → List ℕ
printed zero tape w = []
printed (suc n) tape w = cond (over_of w.scene.stage tape w.place) [] (lines_of (play_of 512 tape w).outcome ++ printed n tape (play_of 512 tape w).after)

-- The lines of a whole tape, which has fewer records than bytes.
abbrev pub transcript_of : List ℕ → List ℕ
transcript_of tape = printed (length tape + 1) tape start

-- That count is enough: were more records asked for, nothing more would be printed.
abbrev pub EveryRecordIsPlayed : Type 0
EveryRecordIsPlayed = (tape : List ℕ) (more : ℕ) → printed (length tape + 1 + more) tape start ≡ transcript_of tape
