-- What playing a record comes to.
use Rattle.std.specs.Prelude.{ℕ, ◌+◌, Bool, true, false, cond, List, length, drop, Ok, Err, Result, ◌==◌, nat_le, nat_lt}
use Rattle.bus.specs.Meaning.{Meaning}
use Rattle.tape.specs.declared.record.TapeFault.{TapeFault}
use Rattle.tape.specs.declared.record.Record.{Record}
use Rattle.tape.specs.Records.{Entry, entry_of, size_of, record_of}
use Rattle.play.specs.declared.fault.Refusal.{Refusal}
use Rattle.play.specs.declared.fault.Refusal.TheVariants.{Sheet, Tape, Buffer}
use Rattle.play.specs.declared.fault.PlayFault.{PlayFault}
use Rattle.play.specs.declared.fault.Event.{Event}
use Rattle.play.specs.declared.player.Player.{Player}
use Rattle.play.specs.Work.{Stage, cold, live, ended, refused, stage_of, turn_of, Scene, scene, work_of}

-- The exchange with its sheet and bus, and the reader's place on the tape.
pub record World : Type 0 where
  pub scene : Scene
  pub place : ℕ

abbrev pub world : Scene → ℕ → World
world s n = record { scene = s; place = n }

-- The tape that a player reads.
abbrev pub tape_of : Player → List ℕ
tape_of p = p.reader.tape.now

-- A player, its sheet and what its bus means.
abbrev pub world_of : Player → List ℕ → Meaning → World
world_of p sheet m = world (scene (stage_of p.phase) sheet m) p.reader.place

-- What came of a record, and what is left.
pub record Handled : Type 0 where
  pub outcome : Result Event Refusal
  pub after : World

-- A refused record ends the tape, and the place stays before it.
abbrev pub refuse : Refusal → World → Handled
refuse r w = record { outcome = Err r; after = world (scene refused w.scene.sheet w.scene.meaning) w.place }

-- The place moves past a record that was played.
abbrev pub place_after : Result Event Refusal → ℕ → ℕ → ℕ
place_after (Ok e) place n = place + n
place_after (Err r) place n = place

-- A refusal of the tape is one of the record.
abbrev pub tape_refusal : Result Entry TapeFault → Result Entry Refusal
tape_refusal (Ok e) = Ok e
tape_refusal (Err f) = Err (Tape f)

-- The sheet is checked before the record.
abbrev pub next_of : List ℕ → Stage → List ℕ → ℕ → Result Entry Refusal
next_of tape stage sheet place = cond (length sheet == 8192) (tape_refusal (record_of (turn_of stage) place (drop place tape))) (Err Sheet)

abbrev pub entry_in : Result Record Refusal → Result Entry Refusal
entry_in (Ok r) = Ok (entry_of r)
entry_in (Err r) = Err r

-- A record that was read is played, and passed unless that refuses it.
abbrev pub performed_of : Entry → World → Handled
performed_of e w = record { outcome = (work_of e w.scene).outcome; after = world (work_of e w.scene).after (place_after (work_of e w.scene).outcome w.place (size_of e)) }

abbrev pub handled_by : Result Entry Refusal → World → Handled
handled_by (Err r) w = refuse r w
handled_by (Ok e) w = performed_of e w

-- The next record, read and played.
abbrev pub handled_of : List ℕ → World → Handled
handled_of tape w = handled_by (next_of tape w.scene.stage w.scene.sheet w.place) w

-- What came of a record, a refusal with the offset at which it begins, and what is left.
pub record Outcome : Type 0 where
  pub outcome : Result Event PlayFault
  pub after : World

abbrev pub at_offset : ℕ → Result Event Refusal → Result Event PlayFault
at_offset o (Ok e) = Ok e
at_offset o (Err r) = Err (record { offset = o; refusal = r })

-- A buffer under 512 bytes is refused first, and nothing changes.
abbrev pub play_of : ℕ → List ℕ → World → Outcome
play_of size tape w =
    cond (nat_lt size 512)
    (record { outcome = Err (record { offset = w.place; refusal = Buffer }); after = w })
    (record { outcome = at_offset w.place (handled_of tape w).outcome; after = (handled_of tape w).after })

-- Nothing is left to play once a record was refused, or when EN was the last.
abbrev pub over_of : Stage → List ℕ → ℕ → Bool
over_of cold tape place = false
over_of (live s v) tape place = false
over_of ended tape place = nat_le (length tape) place
over_of refused tape place = true
