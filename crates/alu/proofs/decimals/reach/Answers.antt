use Rattle.std.proofs.Common.{◌/◌, ltb, arith, ◌∙◌, ap, ◌-◌, ◌*◌, map}
use Rattle.std.proofs.lemmas.Bool.Decides.{nat_tests}
use Rattle.alu.proofs.Lanes.{each_added, reached_by}
use Rattle.alu.proofs.decimals.reach.Goals as goal

pub returns : goal.returns
returns c =
    let k = c.args.k in
    c.top_bits.ensures
    ∙ ap (map (λ b. b / 128)) (each_added (128 - k) (λ b. ltb b (2 * k)) c.args.word (λ b l q. grind (arith, nat_tests, c.requires.small)) c.ranges.word.fits c.requires.bytes)
    ∙ reached_by k c.requires.small c.args.word c.requires.bytes
