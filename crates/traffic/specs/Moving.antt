-- The port's half of a step: at most one move, and what is then shown on the cable.
use Rattle.std.specs.Prelude.{ℕ, Bool, true, false, cond, not, ◌&&◌, List, [], ◌∷◌, ◌++◌}
use Rattle.cell.specs.declared.cells.Cell.{Cell}
use Rattle.cell.specs.declared.lines.Shown.{Shown}
use Rattle.cell.specs.Cells.{level_of, came_as}
use Rattle.modes.specs.declared.mode.Mode.{Mode}
use Rattle.modes.specs.declared.mode.Mode.TheVariants.{Spp, Byte, Ecp, Test, Config}
use Rattle.queue.specs.Cells.{room}
use Rattle.traffic.specs.declared.stage.Stage.{Stage}
use Rattle.traffic.specs.declared.stage.Stage.TheVariants.{Idle, Low, High, Asked}
use Rattle.traffic.specs.Flow.{Flow, sends, gets, with_queue}

-- the first cell moves to the transmitter
abbrev pub begun : List Cell → Flow → Flow
begun [] f = f
begun (c ∷ q) f = with_queue q (Low c) f

-- mode 011, direction 0, DCR bit 2 one, nAckReverse high, PeriphAck low
abbrev pub may_send : Flow → Bool
may_send f = sends f && (f.forward && (f.heard.lines.nackreverse && not f.heard.lines.ack))

-- mode 011, direction 1, DCR bit 2 zero, nAckReverse low, PeriphClk low, queue not full
abbrev pub may_ask : Flow → Bool
may_ask f = gets f && (not f.forward && (not f.heard.lines.nackreverse && (not f.heard.lines.clk && room 1 f.queue)))

-- the byte and PeriphAck as its tag
abbrev pub heard_cell : Flow → Cell
heard_cell f = came_as f.heard

abbrev pub moved_at : Stage → Flow → Flow
moved_at Idle f = cond (may_send f) (begun f.queue f) (cond (may_ask f) (with_queue f.queue Asked f) f)
moved_at (Low c) f = cond f.heard.lines.ack (with_queue f.queue (High c) f) f
moved_at (High c) f = cond f.heard.lines.ack f (with_queue f.queue Idle f)
moved_at Asked f = cond f.heard.lines.clk (with_queue (f.queue ++ heard_cell f ∷ []) Idle f) f

abbrev pub moved : Flow → Flow
moved f = moved_at f.stage f

-- nReverseRequest is DCR bit 2 in modes 001 and 011, and high elsewhere
abbrev pub reverse_line : Mode → Bool → Bool
reverse_line Spp b = true
reverse_line Byte b = b
reverse_line Ecp b = b
reverse_line Test b = true
reverse_line Config b = true

-- HostClk is low only in stage low; low and high show the moved cell, its tag as HostAck; otherwise DATA, and HostAck is high only in asked
abbrev pub shown_at : Stage → Bool → ℕ → Shown
shown_at Idle r d = record { lines = record { clk = true; ack = false; nreverse = r }; byte = d }
shown_at (Low c) r d = record { lines = record { clk = false; ack = level_of c.tag; nreverse = r }; byte = c.byte }
shown_at (High c) r d = record { lines = record { clk = true; ack = level_of c.tag; nreverse = r }; byte = c.byte }
shown_at Asked r d = record { lines = record { clk = true; ack = true; nreverse = r }; byte = d }

abbrev pub shown : ℕ → Flow → Shown
shown d f = shown_at f.stage (reverse_line f.mode f.forward) d
