use Rattle.std.proofs.Common.{◌≡◌, ◌==◌, length, drop, ◌+◌, sym, subst, rules}
use borrow.Author.Tests.{tests}
use Rattle.std.specs.List.{slice_split}
use Rattle.std.proofs.lemmas.List.{length_push}
use Rattle.std.proofs.lemmas.Iterator.Splits.{YieldsList-from_slice_split}
use Rattle.std.proofs.lemmas.Iterator.Consumers.{YieldsList-turn, YieldsList-end, YieldsList-from_enumerate}
use Rattle.tape_text.specs.Reading.{lines_from, before, tape_of}
use Rattle.tape_text.proofs.Punching.{numbered, line_more, line_refused, all_read}
use Rattle.tape_text.proofs.reading.read_lines.Goals as goal

pub loop-n-preserved : goal.loop-n-preserved
loop-n-preserved c =
    let parts = slice_split (λ x. x == 10) c.args.text.now in
    let t = YieldsList-turn (YieldsList-from_enumerate (YieldsList-from_slice_split _ (λ x. x == 10) c.args.text.now (cc) (cc) (cc) (λ x r q k. search (rules, tests))) (cc)) c.loop-n.yielded _ c.loop-n.yielded_by _ _ (c.in-Some.n, c.in-Some.text) c.in-Some.is c.next.ensures.steps in
    let more = line_more parts (length c.loop-n.yielded) c.in-Some.n c.in-Some.text.now c.loop-n.tape.items c.read.new.tape.items (before c.args.tape.now.items (tape_of c.args.text.now)) (numbered parts (length c.loop-n.yielded) c.in-Some.n c.in-Some.text.now t) (search rules) c.loop-n.invariant in
    subst (λ k. before c.read.new.tape.items (lines_from (k + 1) (drop k parts)) ≡ before c.args.tape.now.items (tape_of c.args.text.now)) (sym (length_push c.loop-n.yielded (c.in-Some.n, c.in-Some.text))) more

pub returns-in_err-read : goal.returns-in_err-read
returns-in_err-read c =
    let parts = slice_split (λ x. x == 10) c.args.text.now in
    let t = YieldsList-turn (YieldsList-from_enumerate (YieldsList-from_slice_split _ (λ x. x == 10) c.args.text.now (cc) (cc) (cc) (λ x r q k. search (rules, tests))) (cc)) c.loop-n.yielded _ c.loop-n.yielded_by _ _ (c.in-Some.n, c.in-Some.text) c.in-Some.is c.next.ensures.steps in
    line_refused parts (length c.loop-n.yielded) c.in-Some.n c.in-Some.text.now c.loop-n.tape.items c.read.new.tape.items c.args.tape.now.items c.read.new.tape.items (tape_of c.args.text.now) c.in_err-read.field-0.0 c.from_residual.result (numbered parts (length c.loop-n.yielded) c.in-Some.n c.in-Some.text.now t) c.in_err-read.ensures c.loop-n.invariant (search rules)

pub returns : goal.returns
returns c =
    let t = YieldsList-end (YieldsList-from_enumerate (YieldsList-from_slice_split _ (λ x. x == 10) c.args.text.now (cc) (cc) (cc) (λ x r q k. search (rules, tests))) (cc)) c.loop-n.yielded _ c.loop-n.yielded_by _ _ c.in-None.is c.next.ensures.steps in
    all_read (slice_split (λ x. x == 10) c.args.text.now) (length c.loop-n.yielded) c.loop-n.tape.items (before c.args.tape.now.items (tape_of c.args.text.now)) t.1 c.loop-n.invariant
