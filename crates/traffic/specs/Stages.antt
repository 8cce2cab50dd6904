-- What the stages allow.
use Rattle.std.specs.Prelude.{Bool, true, false, List, [], ◌∷◌, length, nat_lt}
use Rattle.cell.specs.declared.cells.Cell.{Cell}
use Rattle.modes.specs.declared.mode.Mode.{Mode}
use Rattle.modes.specs.declared.mode.Direction.{Direction}
use Rattle.modes.specs.Modes.{receives}
use Rattle.queue.specs.Depth.{depth}
use Rattle.traffic.specs.declared.stage.Stage.{Stage}
use Rattle.traffic.specs.declared.stage.Stage.TheVariants.{Idle, Low, High, Asked}

abbrev pub is_idle : Stage → Bool
is_idle Idle = true
is_idle (Low c) = false
is_idle (High c) = false
is_idle Asked = false

-- the transmitter holds the moved cell in stage low, and nothing else
abbrev pub transmitter : Stage → List Cell
transmitter Idle = []
transmitter (Low c) = c ∷ []
transmitter (High c) = []
transmitter Asked = []

-- a cell is asked for only while cells come back
abbrev pub asks_rightly : Stage → Mode → Direction → Bool
asks_rightly Idle m d = true
asks_rightly (Low c) m d = true
asks_rightly (High c) m d = true
asks_rightly Asked m d = receives m d

-- and only with a place for it
abbrev pub asks_with_room : Stage → List Cell → Bool
asks_with_room Idle q = true
asks_with_room (Low c) q = true
asks_with_room (High c) q = true
asks_with_room Asked q = nat_lt (length q) depth
