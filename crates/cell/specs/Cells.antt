-- A cell: a byte and its tag.
use Rattle.std.specs.Prelude.{ℕ, ◌-◌, Bool, true, false, cond, nat_lt}
use Rattle.cell.specs.declared.cells.Cell.{Cell}
use Rattle.cell.specs.declared.cells.Tag.{Tag}
use Rattle.cell.specs.declared.cells.Tag.TheVariants.{Data, Command}
use Rattle.cell.specs.declared.cells.Kind.{Kind}
use Rattle.cell.specs.declared.lines.Shown.{Shown}
use Rattle.cell.specs.declared.lines.Answer.{Answer}
use Rattle.cell.specs.declared.cells.Kind.TheVariants.{Byte, Count, Address}

-- the tag as a line of the cable: high is data
abbrev pub level_of : Tag → Bool
level_of Data = true
level_of Command = false

abbrev pub tag_at : Bool → Tag
tag_at true = Data
tag_at false = Command

-- a command with bit 7 set is an address, its low seven bits the channel; any other command is a count
abbrev pub kind_at : Tag → ℕ → Kind
kind_at Data b = Byte b
kind_at Command b = cond (nat_lt b 128) (Count b) (Address (b - 128))

abbrev pub kind_of : Cell → Kind
kind_of c = kind_at c.tag c.byte

-- a cell on the cable: the byte, and the sender's Ack line as its tag
abbrev pub sent_as : Shown → Cell
sent_as s = record { byte = s.byte; tag = tag_at s.lines.ack }

abbrev pub came_as : Answer → Cell
came_as a = record { byte = a.byte; tag = tag_at a.lines.ack }
