use Rattle.std.proofs.Common.{map}
use Rattle.bus.specs.Kept.{bytes_rules, ram_rules, rom_rules}
use Rattle.bus.specs.Kinds.{trunk_byte}
use Rattle.registers.proofs.Same.{none_differs}
use Rattle.piles.proofs.Piles.{pile_laws}
use Rattle.noninterference.proofs.AnyBus.{bus_is_its_meaning, leave_no_trace_on}
use Rattle.noninterference.proofs.LastStore.{stains_tell, sheets_keep}
use Rattle.noninterference.proofs.Whole.{leave_no_trace, has_a_double}
use Rattle.engine.specs.Machine.{machine}
use Rattle.engine.proofs.cold.Cold.go.Goals as goal

pub returns-clause-clean_handlers_leave_no_trace : goal.returns-clause-clean_handlers_leave_no_trace
returns-clause-clean_handlers_leave_no_trace g c = leave_no_trace machine none_differs

pub returns-clause-every_exchange_has_a_double : goal.returns-clause-every_exchange_has_a_double
returns-clause-every_exchange_has_a_double g c = has_a_double machine none_differs

pub returns-clause-stains_tell_the_last_store : goal.returns-clause-stains_tell_the_last_store
returns-clause-stains_tell_the_last_store g c = stains_tell machine

pub returns-clause-sheets_keep_their_size : goal.returns-clause-sheets_keep_their_size
returns-clause-sheets_keep_their_size g c = sheets_keep machine

pub returns-clause-a_bus_is_its_meaning : goal.returns-clause-a_bus_is_its_meaning
returns-clause-a_bus_is_its_meaning g c = bus_is_its_meaning machine g.B.Bus.meaning

pub returns-clause-clean_handlers_leave_no_trace_on_buses : goal.returns-clause-clean_handlers_leave_no_trace_on_buses
returns-clause-clean_handlers_leave_no_trace_on_buses g c = leave_no_trace_on machine none_differs g.B.Bus.meaning g.B.Bus.meaning

pub returns-clause-bottoms_are_buses : goal.returns-clause-bottoms_are_buses
returns-clause-bottoms_are_buses g c = record { ram = ram_rules; rom = rom_rules; board = λ base ts. bytes_rules base 16 (map trunk_byte ts) }

pub returns-clause-piles_are_buses : goal.returns-clause-piles_are_buses
returns-clause-piles_are_buses g c = pile_laws
