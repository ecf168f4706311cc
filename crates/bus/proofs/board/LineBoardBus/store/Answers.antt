use Rattle.std.proofs.Common.{rules}
use Rattle.std.proofs.lemmas.List.{map-set, length-map}
use Rattle.bus.proofs.board.LineBoardBus.store.Goals as goal

pub returns-clause-after : goal.returns-clause-after
returns-clause-after c = search (rules, map-set, length-map)
