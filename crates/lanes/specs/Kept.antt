-- What lent bytes are seen as: what each lane holds, and its free places.
use Rattle.std.specs.Prelude.{ℕ, List}
use Rattle.lanes.specs.declared.lane_bytes.LaneBytes.{LaneBytes}
use Rattle.lanes.specs.Lanes.{lane, room}

abbrev pub held_by : LaneBytes → ℕ → List ℕ
held_by s = lane s.bytes.now s.lens

abbrev pub free_in : LaneBytes → ℕ → ℕ
free_in s = room s.bytes.now s.lens
