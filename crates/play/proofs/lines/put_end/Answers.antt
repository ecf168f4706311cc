use Rattle.std.proofs.Common.{◌<◌, ◌≡◌, zero-add, arith, rules}
use Rattle.std.specs.Simd.{first_chunks}
use Rattle.play.specs.Lines.{end_line}
use Rattle.play.proofs.Playing.{line_more}
use Rattle.play.proofs.lines.put_end.Goals as goal

pub loop-n-preserved : goal.loop-n-preserved
loop-n-preserved c =
    let d : c.as_chunks.result.0.now ≡ first_chunks 8 8 c.args.read_out.registers = search rules in
    let h : c.loop-n.n < 8 = omega arith in
    (line_more _ _ _ _ _ (end_line c.args.read_out) c.args.read_out.registers c.loop-n.n h c.loop-n.invariant.0 (record { row = cc; end = cc }), omega arith)

pub returns : goal.returns
returns c =
    let e : c.loop-n.n ≡ 8 = omega arith in
    let p = rw e at c.loop-n.invariant.0 in
    record { row = p.row; size = rw zero-add at p.end; room = omega arith }
