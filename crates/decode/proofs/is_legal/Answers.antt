use Rattle.decode.proofs.Table.{one_to_one}
use Rattle.decode.proofs.is_legal.Goals as goal

pub returns-clause-one_code : goal.returns-clause-one_code
returns-clause-one_code c = one_to_one
