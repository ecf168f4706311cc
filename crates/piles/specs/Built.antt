-- The pile that is built in memory, as a pile.
use Rattle.std.specs.Prelude.{ℕ}
use Rattle.bus.specs.Meaning.{Meaning}
use Rattle.bus.specs.Rules.{Rules}
use Rattle.layers.specs.Pages.{kept_of}
use Rattle.piles.specs.Piles.{Layered}
use Rattle.piles.specs.Piles as piles
use Rattle.piles.specs.declared.pile.Pile.{Pile}
use Rattle.piles.specs.declared.pile.Pile.TheVariants.{Bottom, Guard', Split', Shadow'}

-- A pile by what the bus at its bottom means, and how its layers lie over it.
abbrev pub built : {B : Type 0} (mean : B → Meaning) → ((b : B) → Rules (mean b)) → Pile B → Layered
built mean rules (Bottom b) = piles.bottom (mean b) (rules b)
built mean rules (Guard' first last x below) = piles.guard first last (built mean rules below)
built mean rules (Split' at x low y high) = piles.split at (built mean rules low) (built mean rules high)
built mean rules (Shadow' page x below) = piles.shadow page.number (kept_of page) (built mean rules below)

-- What no store through a built pile changes: the layers with their bounds, what no store changes at the bottom, and all that lies under a shadow.
pub data Outline (B F : Type 0) : Type 0 where
  bottom : F → Outline B F
  guard : ℕ → ℕ → Outline B F → Outline B F
  split : ℕ → Outline B F → Outline B F → Outline B F
  shadow : ℕ → Pile B → Outline B F

abbrev pub outline : {B F : Type 0} → (B → F) → Pile B → Outline B F
outline held (Bottom b) = bottom (held b)
outline held (Guard' first last x below) = guard first last (outline held below)
outline held (Split' at x low y high) = split at (outline held low) (outline held high)
outline held (Shadow' page x below) = shadow page.number below
