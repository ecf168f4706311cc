-- A line that is being written.
use Rattle.std.specs.Prelude.{ℕ, ◌≡◌, ◌+◌, ◌≤◌, List, length}
use Rattle.byte_rows.specs.Rows.{over}
use Rattle.text.specs.declared.Line.{Line}

-- There are n bytes or more after the line.
abbrev pub HasRoom : Line → ℕ → Type 0
HasRoom l n = l.at + n ≤ length l.out.now

-- From line l to line m, these bytes were written at the end, in the same buffer.
pub record Wrote (l m : Line) (bytes : List ℕ) : Type 0 where
  pub same : m.out.ghost_name ≡ l.out.ghost_name
  pub row : m.out.now ≡ over l.out.now l.at bytes
  pub size : length m.out.now ≡ length l.out.now
  pub place : m.at ≡ l.at + length bytes
