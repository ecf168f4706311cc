use Rattle.piles.proofs.Piles.{pile_laws}
use Rattle.piles.proofs.pile.Pile.new.Goals as goal

pub returns-clause-every_pile : goal.returns-clause-every_pile
returns-clause-every_pile g c = pile_laws
