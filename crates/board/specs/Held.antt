-- What a handle owns: the installation at its pointer with the right to free it, or nothing.
use base.Fml.{Fml, ftrue}
use base.Stored.{Coded}
use denote.RawPtr.{Ptr}
use Rattle.std.specs.Prelude.{Option, Some, None}
use Rattle.std.specs.Coded.{coded_option}
use Rattle.std.specs.Box.Ownership.{box_owns}
use Rattle.std.specs.declared.alloc.Global.{Global}
use Rattle.std.specs.declared.boxed.Box.{Box}
use Rattle.std.specs.contracts.impls.GlobalAllocator.TheImpl.{ghosts}
use Rattle.installation.specs.contracts.installation.Installation.{the_row}

-- All handles to the C library's heap are equal.
abbrev heap : Global
heap = record { memory = record { seal = tt } }

abbrev pub held : Ptr → Option the_row.Denot → Fml
held p None = ftrue
held p (Some i) = box_owns (ghosts.dealloc_token heap) the_row p i

-- The code of its type, which a ghost field has to have.
abbrev pub held_coded : Coded (Option the_row.Denot)
held_coded = coded_option the_row.coded

-- The installation in a box, if there is one.
abbrev pub opened : Option (Box the_row.Denot Global) → Option the_row.Denot
opened None = None
opened (Some b) = Some b.value
