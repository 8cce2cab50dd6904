-- What is on its way through a port: what clauses see of its record, the queue as a list.
use Rattle.std.specs.Prelude.{ℕ, Bool, false, List, [], None, Option}
use Rattle.cell.specs.declared.cells.Cell.{Cell}
use Rattle.cell.specs.declared.lines.Answer.{Answer}
use Rattle.cell.specs.declared.lines.PeriphLines.{PeriphLines}
use Rattle.modes.specs.declared.mode.Mode.{Mode}
use Rattle.modes.specs.declared.mode.Mode.TheVariants.{Spp}
use Rattle.modes.specs.declared.mode.Direction.{Direction}
use Rattle.modes.specs.declared.mode.Direction.TheVariants.{Out}
use Rattle.modes.specs.Modes.{forwards, receives}
use Rattle.traffic.specs.declared.stage.Stage.{Stage}
use Rattle.traffic.specs.declared.stage.Stage.TheVariants.{Idle}

pub record Flow : Type 0 where
  pub mode : Mode
  pub direction : Direction
  pub forward : Bool
  pub queue : List Cell
  pub stage : Stage
  pub waiting : ℕ
  pub known : Option ℕ
  pub heard : Answer

-- a new port's: mode 000, direction 0, nothing on its way, no address known, and the far end's lines as handed to it
abbrev pub new_flow : PeriphLines → Flow
new_flow l =
    record { mode = Spp; direction = Out; forward = false; queue = []; stage = Idle; waiting = 0; known = None; heard = record { lines = l; byte = 0 } }

-- cells stored now are forward cells
abbrev pub sends : Flow → Bool
sends f = forwards f.mode f.direction

-- cells come back
abbrev pub gets : Flow → Bool
gets f = receives f.mode f.direction

-- another queue and stage, and all else as it was
abbrev pub with_queue : List Cell → Stage → Flow → Flow
with_queue q s f = record f { queue = q; stage = s }
