-- Clearing, and what a change of mode and a write of DCR do to what is on its way.
use Rattle.std.specs.Prelude.{ℕ, ◌+◌, Bool, cond, [], length, None, nat_lt}
use Rattle.cell.specs.declared.lines.Answer.{Answer}
use Rattle.modes.specs.declared.mode.Mode.{Mode}
use Rattle.modes.specs.declared.mode.Mode.TheVariants.{Spp, Byte, Ecp, Test, Config}
use Rattle.modes.specs.declared.mode.Direction.{Direction}
use Rattle.modes.specs.declared.mode.Direction.TheVariants.{Out}
use Rattle.modes.specs.Modes.{same}
use Rattle.traffic.specs.declared.stage.Stage.TheVariants.{Idle}
use Rattle.traffic.specs.Stages.{transmitter}
use Rattle.traffic.specs.Flow.{Flow}

-- what a clearing answers: the cells in transmitter and queue, and one more for a waiting count above 0
abbrev pub clears : Flow → ℕ
clears f = length (transmitter f.stage) + length f.queue + cond (nat_lt 0 f.waiting) 1 0

-- queue, transmitter and waiting count are emptied, and the address is forgotten; it ends idle
abbrev pub cleared_into : Mode → Direction → Flow → Flow
cleared_into m d f = record f { mode = m; direction = d; queue = []; stage = Idle; waiting = 0; known = None }

abbrev pub cleared : Flow → Flow
cleared f = cleared_into f.mode f.direction f

-- entering mode 000 makes the direction 0
abbrev pub entering : Mode → Direction → Direction
entering Spp d = Out
entering Byte d = d
entering Ecp d = d
entering Test d = d
entering Config d = d

-- a change of mode clears; a write of the same mode enters nothing
abbrev pub entered : Mode → Flow → Flow
entered m f = cond (same m f.mode) f (cleared_into m (entering m f.direction) f)

abbrev pub entry_clears : Mode → Flow → ℕ
entry_clears m f = cond (same m f.mode) 0 (clears f)

-- the direction is changed only in mode 001
abbrev pub steering : Mode → Direction → Direction → Direction
steering Spp new old = old
steering Byte new old = new
steering Ecp new old = old
steering Test new old = old
steering Config new old = old

abbrev pub steered : Bool → Direction → Flow → Flow
steered b d f = record f { direction = steering f.mode d f.direction; forward = b }

-- the lines and byte answered are kept
abbrev pub keeping : Answer → Flow → Flow
keeping a f = record f { heard = a }
