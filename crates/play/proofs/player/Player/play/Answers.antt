use Rattle.std.proofs.Common.{◌≡◌, ◌++◌, length, drop, ap, ◌∙◌, arith, rules}
use Rattle.std.proofs.lemmas.Bool.{le-ltb}
use Rattle.byte_rows.specs.Rows.{over}
use Rattle.play.specs.Lines.{lines_of}
use Rattle.play.specs.Play.{at_offset}
use Rattle.play.proofs.Playing.{over_chunk}
use Rattle.play.proofs.player.Player.play.Goals as goal

pub returns-clause-outcome : goal.returns-clause-outcome
returns-clause-outcome c =
    let place = c.args.self.now.reader.place in
    let e : c.map_err-outcome.result ≡ at_offset place c.handle.result = search rules in
    rw (le-ltb (length c.args.out.now) 512 (omega (arith, c.in-Some.ensures.cases.enough))) (e ∙ ap (at_offset place) c.handle.ensures.outcome)

pub returns-clause-after : goal.returns-clause-after
returns-clause-after c = rw (le-ltb (length c.args.out.now) 512 (omega (arith, c.in-Some.ensures.cases.enough))) c.handle.ensures.after

pub returns-clause-lines : goal.returns-clause-lines
returns-clause-lines c =
    let chunk = c.in-Some.ensures.cases in
    let lines = lines_of c.map_err-outcome.result in
    ap (λ w. w ++ drop 512 c.args.out.now) (c.put_lines-wrote.ensures.row ∙ ap (λ t. over t 0 lines) chunk.same) ∙ over_chunk c.args.out.now lines 512 (omega arith) chunk.enough

-- by `cc`, so that a wrong number of bytes is refused for this and not at a limit
pub returns-clause-wrote : goal.returns-clause-wrote
returns-clause-wrote c = cc
