use Rattle.std.proofs.Common.{ℕ, ◌*◌, ◌+◌, ◌/◌, ltb, refl, arith, rules}
use Rattle.std.proofs.lemmas.Bool.Decides.{nat_tests}
use Rattle.alu.specs.Lanes.{reached, rest}
use Rattle.alu.proofs.Lanes.{each_sum, map_again, all_told, all_below}
use Rattle.alu.proofs.decimals.tens.Goals as goal

pub part-eighty-requires-clause-bytes : goal.part-eighty-requires-clause-bytes
part-eighty-requires-clause-bytes c = all_below c.args.word (λ b. ltb b 100) (λ b. ltb b 160) (λ b l q. grind (arith, nat_tests)) c.requires

pub part-forty-requires-clause-bytes : goal.part-forty-requires-clause-bytes
part-forty-requires-clause-bytes c = all_told c.args.word (rest 80) (λ b. ltb b 100) (λ b. ltb b 80) c.part-eighty.result.rest c.part-eighty.ensures.rest (λ b l q. grind (arith, nat_tests)) c.requires

pub part-twenty-requires-clause-bytes : goal.part-twenty-requires-clause-bytes
part-twenty-requires-clause-bytes c = all_told c.part-eighty.result.rest (rest 40) (λ b. ltb b 80) (λ b. ltb b 40) c.part-forty.result.rest c.part-forty.ensures.rest (λ b l q. grind (arith, nat_tests)) (part-forty-requires-clause-bytes c.before)

pub reach-requires-clause-bytes : goal.reach-requires-clause-bytes
reach-requires-clause-bytes c = all_told c.part-forty.result.rest (rest 20) (λ b. ltb b 40) (λ b. ltb b 20) c.part-twenty.result.rest c.part-twenty.ensures.rest (λ b l q. grind (arith, nat_tests)) (part-twenty-requires-clause-bytes c.before)

pub returns : goal.returns
returns c =
    let w = c.args.word in
    let a = c.part-eighty in
    let b = c.part-forty in
    let d = c.part-twenty in
    let rb = map_again w (rest 80) (rest 40) a.result.rest b.result.rest a.ensures.rest b.ensures.rest in
    let rd = map_again w (λ x. rest 40 (rest 80 x)) (rest 20) b.result.rest d.result.rest rb d.ensures.rest in
    let tb = map_again w (rest 80) (reached 40) a.result.rest b.result.reached a.ensures.rest b.ensures.reached in
    let td = map_again w (λ x. rest 40 (rest 80 x)) (reached 20) b.result.rest d.result.reached rb d.ensures.reached in
    let te = map_again w (λ x. rest 20 (rest 40 (rest 80 x))) (reached 10) d.result.rest c.reach.result rd c.reach.ensures in
    let f2 : ℕ → ℕ = λ x. reached 10 (rest 20 (rest 40 (rest 80 x))) + 2 * reached 20 (rest 40 (rest 80 x)) in
    let f4 : ℕ → ℕ = λ x. f2 x + 4 * reached 40 (rest 80 x) in
    let s2 = each_sum w 2 (λ x. reached 10 (rest 20 (rest 40 (rest 80 x)))) (λ x. reached 20 (rest 40 (rest 80 x))) f2 (λ x. ltb x 100) c.reach.result d.result.reached (λ x l q. refl) (λ x l q. grind (arith, nat_tests)) c.reach.type_inv (search rules) te td c.requires in
    let s4 = each_sum w 4 f2 (λ x. reached 40 (rest 80 x)) f4 (λ x. ltb x 100) _ b.result.reached (λ x l q. refl) (λ x l q. grind (arith, nat_tests)) (omega arith) (search rules) s2 tb c.requires in
    each_sum w 8 f4 (reached 80) (λ x. x / 10) (λ x. ltb x 100) _ a.result.reached (λ x l q. grind (arith, nat_tests)) (λ x l q. omega arith) (omega arith) (search rules) s4 a.ensures.reached c.requires
