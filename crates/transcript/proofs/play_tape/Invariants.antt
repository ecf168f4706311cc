use Rattle.std.proofs.Common.{◌≡◌, ◌-◌, ◌++◌, suc, cond, length}
use Rattle.play.specs.Play.{over_of}
use Rattle.transcript.specs.Printed.{transcript_of}
use Rattle.transcript.specs.Sessions.{tape_in, world_in}
use Rattle.transcript.proofs.Progress.{left}
use Rattle.transcript.proofs.play_tape.Given as goal

abbrev pub invariant-loop-session : goal.invariant-loop-session
invariant-loop-session l = l.session.text.items ++ left (tape_in l.session) (world_in l.session) ≡ transcript_of l.tape

abbrev pub decreases-loop-session : goal.decreases-loop-session
decreases-loop-session l = cond (over_of (world_in l.session).scene.stage (tape_in l.session) (world_in l.session).place) 0 (suc (length (tape_in l.session) - (world_in l.session).place))
