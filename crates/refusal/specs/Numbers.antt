-- The number of each refusal.
use Rattle.std.specs.Prelude.{ℕ}
use Rattle.refusal.specs.declared.Refusal.{Refusal}
use Rattle.refusal.specs.declared.Refusal.TheVariants.{Address, Access, Mode, ControlBits, Stage, Request, Channel, TurnTaken, NoTurn, Repeats, NotSending, NoRoom, Memory, EntryRange, EntryTwice}

abbrev pub number_of : Refusal → ℕ
-- a register's address and access, what is written to it, and when
number_of Address = 1
number_of Access = 2
number_of Mode = 3
number_of ControlBits = 4
number_of Stage = 5
-- a DMA cycle
number_of Request = 6
-- turns and sends
number_of Channel = 7
number_of TurnTaken = 8
number_of NoTurn = 9
number_of Repeats = 10
number_of NotSending = 11
number_of NoRoom = 12
-- the making of a make, and a patch table
number_of Memory = 13
number_of EntryRange = 14
number_of EntryTwice = 15
