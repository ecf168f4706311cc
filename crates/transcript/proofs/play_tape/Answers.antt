use Rattle.transcript.proofs.Progress.{left_over, left_more, left_at_start}
use Rattle.transcript.proofs.play_tape.Goals as goal

pub loop-session-init : goal.loop-session-init
loop-session-init c =
    let s = c.in_ok-session.ensures in
    left_at_start _ _ _ _ s.tape s.world s.text

pub loop-session-preserved : goal.loop-session-preserved
loop-session-preserved c =
    let p = c.play_record.ensures in
    left_more _ _ _ _ _ _ _ (cc) p.tape p.world c.in_ok-play_record.ensures.text c.loop-session.invariant

pub returns : goal.returns
returns c = left_over _ _ _ _ (cc) c.loop-session.invariant
