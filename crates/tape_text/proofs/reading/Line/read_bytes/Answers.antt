use Rattle.std.proofs.Common.{◌≡◌, ◌==◌, ◌+◌, false, length, get_or, arith}
use Rattle.std.proofs.lemmas.List.{take_all}
use Rattle.std.proofs.lemmas.Bool.Decides.{nat_tests}
use Rattle.tape_text.specs.Reading.{is_blank}
use Rattle.tape_text.proofs.Punching.{byte_more}
use Rattle.tape_text.proofs.reading.Line.read_bytes.Goals as goal

pub loop-rest-preserved-in_default-rest-2 : goal.loop-rest-preserved-in_default-rest-2
loop-rest-preserved-in_default-rest-2 c =
    let rest = c.loop-rest.rest.now in
    let comment : get_or rest 0 0 == 35 ≡ false = grind (arith, nat_tests) in
    let blank : is_blank (get_or rest 0 0) ≡ false = grind (arith, nat_tests) in
    let more = byte_more c.args.self.now.number (length c.args.self.now.text.now + 1) c.in-Some.byte rest c.loop-rest.tape.items c.in-len2-up.len_at_least comment blank c.in-Some.ensures in
    (omega arith, grind (arith, more, take_all))
