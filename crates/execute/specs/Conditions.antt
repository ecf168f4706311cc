-- When a jump is taken, and where it goes.
use Rattle.std.specs.Prelude.{ℕ, ◌+◌, ◌-◌, ◌%◌, Bool, true, cond, not, ◌==◌, nat_lt}
use Rattle.std.specs.Bool.{beq}
use Rattle.registers.specs.declared.status.Status.{Status}
use Rattle.decode.specs.declared.instruction.Condition.{Condition}
use Rattle.decode.specs.declared.instruction.Condition.TheVariants.{Always, NoOverflow, Odd, Even, Negative, Positive, NotZero, Zero, ENotZero, EZero, NoCarry, Carry, LeftZero, LeftNotZero, RightZero, RightNotZero}

-- JMP JNO JOD JEV JNG JPS JNZ JZR JEN JEZ JNC JCY JLZ JLN JRZ JRN. A number is negative when MSB and OVF differ.
abbrev pub met : Condition → Status → ℕ → Bool
met Always s e = true
met NoOverflow s e = not s.ovf
met Odd s e = s.lsb
met Even s e = not s.lsb
met Negative s e = not (beq s.msb s.ovf)
met Positive s e = beq s.msb s.ovf
met NotZero s e = not s.z
met Zero s e = s.z
met ENotZero s e = not (e == 0)
met EZero s e = e == 0
met NoCarry s e = not s.cy
met Carry s e = s.cy
met LeftZero s e = s.ldz
met LeftNotZero s e = not s.ldz
met RightZero s e = s.rdz
met RightNotZero s e = not s.rdz

-- The offset is added to the address after it; one of 128 to 255 counts as itself less 256. Addresses wrap.
abbrev pub jumped : ℕ → ℕ → ℕ
jumped pc offset = cond (nat_lt offset 128) ((pc + offset) % 65536) ((pc + (65536 - (256 - offset))) % 65536)
