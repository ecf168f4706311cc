-- Where an operand in memory, or a store, is.
use Rattle.std.specs.Prelude.{ℕ, ◌+◌, ◌-◌, ◌%◌, Bool, true, false, List, slice_index}
use Rattle.byte_rows.specs.Rows.{pair}
use Rattle.registers.specs.declared.cpu.rows.Form.{Form}
use Rattle.registers.specs.State.{State}
use Rattle.registers.specs.Rows.{pair_at, span_of, with_pair}
use Rattle.reading.specs.Trees.{Tree, done}
use Rattle.reading.specs.Readings.{pair_tree}
use Rattle.decode.specs.declared.instruction.Base.{Base}
use Rattle.decode.specs.declared.instruction.Base.TheVariants.{Register, Literal, Indexed, StackUp, StackDown}

-- The literal address.
abbrev pub literal_pair : List ℕ → ℕ
literal_pair ls = pair (slice_index ls 0) (slice_index ls 1)

-- A stack pointer moves by as many bytes as the data, or by 2 when indirect.
abbrev pub distance_of : Bool → Form → ℕ → ℕ
distance_of true f drp = 2
distance_of false f drp = span_of f drp

-- The pair at ARP.
abbrev pub pointed_at : State → ℕ
pointed_at s = pair_at s.registers s.arp

-- The base address: the pair at ARP, the literal, or both added; PO- and PU- lower the pair at ARP first.
abbrev pub base_of : Base → Bool → Form → State → List ℕ → ℕ
base_of Register i f s ls = pointed_at s
base_of Literal i f s ls = literal_pair ls
base_of Indexed i f s ls = (pointed_at s + literal_pair ls) % 65536
base_of StackUp i f s ls = pointed_at s
base_of StackDown i f s ls = (pointed_at s + (65536 - distance_of i f s.drp)) % 65536

-- The pair that an instruction moves on the way: indexed writes the sum to R2-R3, PO+ and PU+ raise the pair at ARP after its use,
-- PO- and PU- leave it lowered.
abbrev pub with_moved : Base → Bool → Form → State → List ℕ → State
with_moved Register i f s ls = s
with_moved Literal i f s ls = s
with_moved Indexed i f s ls = with_pair s 2 (base_of Indexed i f s ls)
with_moved StackUp i f s ls = with_pair s s.arp ((pointed_at s + distance_of i f s.drp) % 65536)
with_moved StackDown i f s ls = with_pair s s.arp (base_of StackDown i f s ls)

-- Direct, the address is the base; indirect, the pair found there.
abbrev pub address_tree : Bool → ℕ → Tree ℕ
address_tree false at = done at
address_tree true at = pair_tree at
