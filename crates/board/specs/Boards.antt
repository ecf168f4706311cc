-- What a board holds, and what a call of it comes to.
use Rattle.std.specs.Prelude.{◌≡◌, ℕ, cond, Option, Some, None, Err, Result, ◌==◌, ◌⊎◌}
use Rattle.stains.specs.Marks.{blank as unstained}
use Rattle.memory.specs.Blank.{blank}
use Rattle.installation.specs.declared.installation.Installation.{Installation}
use Rattle.installation.specs.declared.fault.CallFault.{CallFault}
use Rattle.installation.specs.declared.fault.CallFault.TheVariants.{OutOfTurn}
use Rattle.installation.specs.Worlds.{World, world_of, cold}
use Rattle.installation.specs.Calls.{Called, pc_call}
use Rattle.board.specs.declared.board.Board.{Board}

abbrev pub world_in : Option Installation → Option World
world_in None = None
world_in (Some i) = Some (world_of i)

-- A board that was not made has none.
abbrev pub board_world : Board → Option World
board_world b = world_in b.handle.installation

-- Without an installation every call is out of turn.
abbrev pub outcome_in : {A : Type 0} → (World → Called A) → Option World → Result A CallFault
outcome_in call None = Err OutOfTurn
outcome_in call (Some w) = (call w).outcome

-- What a call leaves.
abbrev pub after_in : {A : Type 0} → (World → Called A) → Option World → Option World
after_in call None = None
after_in call (Some w) = Some (call w).after

-- The program counter.
abbrev pub pc_in : Option World → Result ℕ CallFault
pc_in None = Err OutOfTurn
pc_in (Some w) = pc_call w

-- What making a board answers: 12 where it was made before, else 0, or 255 for want of memory.
abbrev pub MayMake : Option World → ℕ → Type 0
MayMake None n = (n ≡ 0) ⊎ (n ≡ 255)
MayMake (Some w) n = n ≡ 12

-- What making a board leaves: a cold exchange with a clean sheet on zero memory, where 0 was answered.
abbrev pub made_from : Option World → ℕ → Option World
made_from None n = cond (n == 0) (Some (cold unstained blank)) None
made_from (Some w) n = Some w

-- Freeing a board that was not made is out of turn.
abbrev pub free_number : Option World → ℕ
free_number None = 12
free_number (Some w) = 0
