use Rattle.std.proofs.Common.{take, ap, ◌∙◌}
use Rattle.std.proofs.lemmas.List.{take_min}
use Rattle.transcript.proofs.front.Goals as goal

pub returns : goal.returns
returns c = ap (λ n. take n c.args.tape.now) c.min.ensures ∙ take_min 16384 c.args.tape.now
