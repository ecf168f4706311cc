-- The first part in which two states differ: registers, then ARP, DRP, status, E.
use Rattle.std.specs.Prelude.{ℕ, ◌+◌, Bool, cond, ◌&&◌, List, [], ◌∷◌, Some, None, Option, ◌==◌}
use Rattle.std.specs.Bool.{beq}
use Rattle.std.specs.Option.{option_or}
use Rattle.registers.specs.declared.mar.Mar.{Mar}
use Rattle.registers.specs.declared.mar.Mar.TheVariants.{Register, Arp, Drp, Status as StatusMar, E}
use Rattle.registers.specs.declared.status.Status.{Status}
use Rattle.registers.specs.State.{State}

-- All eight status bits count.
abbrev pub same_status : Status → Status → Bool
same_status s t = beq s.dcm t.dcm && (beq s.cy t.cy && (beq s.ovf t.ovf && (beq s.lsb t.lsb && (beq s.msb t.msb && (beq s.z t.z && (beq s.ldz t.ldz && beq s.rdz t.rdz))))))

-- The first register that differs, counted from k.
abbrev pub register_mar : ℕ → List ℕ → List ℕ → Option Mar
register_mar k [] [] = None
register_mar k [] (y ∷ ys) = Some (Register k)
register_mar k (x ∷ xs) [] = Some (Register k)
register_mar k (x ∷ xs) (y ∷ ys) = cond (x == y) (register_mar (k + 1) xs ys) (Some (Register k))

-- The first of the pointers, the status and E that differs.
abbrev pub other_mar : State → State → Option Mar
other_mar s t =
    cond (s.arp == t.arp)
    (cond (s.drp == t.drp)
    (cond (same_status s.status t.status)
    (cond (s.e == t.e) None (Some E))
    (Some StatusMar))
    (Some Drp))
    (Some Arp)

-- The first part that differs at all.
abbrev pub mar_of : State → State → Option Mar
mar_of s t = option_or (register_mar 0 s.registers t.registers) (other_mar s t)
