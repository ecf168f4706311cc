-- The bus rules that speak of one meaning. The others speak of a call: that reading and inquiring change nothing stands in their types, what a store leaves in its contract.
use Rattle.std.specs.Prelude.{◌≡◌, ℕ, ◌≤◌, true, is_ok, Ok, Err, Result}
use Rattle.bus.specs.declared.refusal.BusRefusal.{BusRefusal}
use Rattle.bus.specs.Meaning.{Meaning}

-- The depth of a refusal; an answer has none.
abbrev pub depth_of : {X : Type 0} → Result X BusRefusal → ℕ
depth_of (Ok _) = 0
depth_of (Err r) = r.depth

pub record Rules (m : Meaning) : Type 0 where
  -- An address that takes stores can be read.
  pub readable : (a : ℕ) → is_ok (m.takes a) ≡ true → is_ok (m.reads a) ≡ true
  -- A refusal's depth fits a byte.
  pub read_depth : (a : ℕ) → depth_of (m.reads a) ≤ 255
  pub store_depth : (a : ℕ) → depth_of (m.takes a) ≤ 255
