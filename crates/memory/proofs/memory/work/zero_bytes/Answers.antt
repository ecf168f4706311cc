use Rattle.byte_rows.proofs.Writing.{is_zeros}
use Rattle.memory.proofs.memory.work.zero_bytes.Goals as goal

pub returns-clause-bytes : goal.returns-clause-bytes
returns-clause-bytes c = is_zeros 32768 _ (c.in_ok-vec.ensures.items_if_clones_equal (λ y e. e))
