use Rattle.std.proofs.Common.{arith}
use Rattle.byte_rows.proofs.Writing.{over_front}
use Rattle.play.specs.Lines.{lines_of}
use Rattle.transcript.proofs.session.Session.play_record.Goals as goal

pub returns-clause-text : goal.returns-clause-text
returns-clause-text c = grind (arith, over_front c.args.self.now.lines (lines_of c.play-played.result.outcome))
