use Rattle.std.proofs.Common.{◌≡◌, ◌++◌, Ok, length, take, drop, ap, sym, ◌∙◌}
use Rattle.std.proofs.Math.Seq.{take-append_seam}
use Rattle.byte_rows.specs.Short.{bytes_of}
use Rattle.alu.specs.Operations.{done}
use Rattle.alu.proofs.Shows.{operated_shows}
use Rattle.alu.proofs.words.operate_bytes.Goals as goal

pub returns : goal.returns
returns c =
    let flags = c.in_ok-status.field-0 in
    let row = bytes_of c.args.row.now in
    let operand = bytes_of c.args.operand.now in
    let own : take c.len-n.result c.bytes-bytes.result ≡ row = ap (λ n. take n c.bytes-bytes.result) c.len-n.ensures.value ∙ c.bytes-bytes.ensures.bytes in
    let others : take c.len.result c.bytes-others.result ≡ operand = ap (λ n. take n c.bytes-others.result) c.len.ensures.value ∙ c.bytes-others.ensures.bytes in
    let n : c.len-n.result ≡ length c.operate.new.bytes = c.len-n.ensures.value ∙ ap length (sym own) ∙ sym c.operate.auto.bytes in
    let left : bytes_of c.new.result ≡ c.operate.new.bytes = c.new.ensures ∙ ap (λ k. take k (c.operate.new.bytes ++ drop c.len-n.result c.bytes-bytes.result)) n ∙ take-append_seam c.operate.new.bytes _ in
    operated_shows c.args.op c.args.flags row operand (done (bytes_of c.new.result) flags) (ap (λ b. Ok (done b flags)) left ∙ rw (own, others) at c.in_ok-status.ensures.outcome)
