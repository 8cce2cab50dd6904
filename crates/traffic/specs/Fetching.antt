-- Reading the queue at 400.
use Rattle.std.specs.Prelude.{ℕ, ◌-◌, Bool, cond, not, ◌&&◌, List, [], ◌∷◌, Some, None, Ok, Err, Option, Result, nat_lt}
use Rattle.cell.specs.declared.cells.Cell.{Cell}
use Rattle.cell.specs.Cells.{level_of}
use Rattle.modes.specs.declared.mode.Mode.{Mode}
use Rattle.modes.specs.declared.mode.Mode.TheVariants.{Spp, Byte, Ecp, Test, Config}
use Rattle.modes.specs.declared.mode.Direction.{Direction}
use Rattle.modes.specs.declared.mode.Direction.TheVariants.{Out, In}
use Rattle.queue.specs.Cells.{rest}
use Rattle.traffic.specs.declared.undone.Undone.{Undone}
use Rattle.traffic.specs.declared.undone.Undone.TheVariants.{Empty, Ignored}
use Rattle.traffic.specs.Flow.{Flow}

-- a command with bit 7 clear
abbrev pub is_count : Cell → Bool
is_count c = not (level_of c.tag) && nat_lt c.byte 128

-- the count at the head, if one is there
abbrev pub count_ahead : List Cell → Option ℕ
count_ahead [] = None
count_ahead (c ∷ q) = cond (is_count c) (Some c.byte) None

-- every count at the head moves into the waiting count, each in place of the one before
abbrev pub counted : ℕ → List Cell → ℕ
counted w [] = w
counted w (c ∷ q) = cond (is_count c) (counted c.byte q) w

-- what is left of the queue then
abbrev pub uncounted : List Cell → List Cell
uncounted [] = []
uncounted (c ∷ q) = cond (is_count c) (uncounted q) (c ∷ q)

-- a byte, or why there is none
abbrev pub Got : Type 0
Got = Result ℕ Undone

abbrev pub first_byte : List Cell → Got
first_byte [] = Err Empty
first_byte (c ∷ q) = Ok c.byte

-- a waiting count above 0 falls by 1, else the cell leaves
abbrev pub waiting_after : ℕ → List Cell → ℕ
waiting_after w [] = w
waiting_after w (c ∷ q) = w - 1

abbrev pub queue_after : ℕ → List Cell → List Cell
queue_after w [] = []
queue_after w (c ∷ q) = cond (nat_lt 0 w) (c ∷ q) q

-- another queue and waiting count, and all else as it was
abbrev pub with_waiting : List Cell → ℕ → Flow → Flow
with_waiting q w f = record f { queue = q; waiting = w }

abbrev pub given_out : Flow → Flow
given_out f = with_waiting (queue_after f.waiting f.queue) (waiting_after f.waiting f.queue) f

-- while cells come back, the first byte is given out as often as its count says
abbrev pub given_back : Flow → Flow
given_back f = given_out (with_waiting (uncounted f.queue) (counted f.waiting f.queue) f)

-- in 011 with direction 1 the queue is expanded, with direction 0 the read is ignored; in 110 the first cell leaves as it is
abbrev pub got_at : Mode → Direction → Flow → Got
got_at Spp d f = Err Ignored
got_at Byte d f = Err Ignored
got_at Ecp Out f = Err Ignored
got_at Ecp In f = first_byte (uncounted f.queue)
got_at Test d f = first_byte f.queue
got_at Config d f = Err Ignored

abbrev pub got : Flow → Got
got f = got_at f.mode f.direction f

abbrev pub fetched_at : Mode → Direction → Flow → Flow
fetched_at Spp d f = f
fetched_at Byte d f = f
fetched_at Ecp Out f = f
fetched_at Ecp In f = given_back f
fetched_at Test d f = with_waiting (rest f.queue) f.waiting f
fetched_at Config d f = f

abbrev pub fetched : Flow → Flow
fetched f = fetched_at f.mode f.direction f
