-- What an inserter of any make means.
use Rattle.std.specs.Prelude.{◌≡◌, ℕ, ◌<◌, Bool, true, false, cond, not, List, [], ◌∷◌, length, Some, None, Option, nat_lt, slice_index}
use Rattle.cell.specs.declared.cells.Cell.{Cell}
use Rattle.cell.specs.declared.cursor.Cursor.{Cursor}
use Rattle.cell.specs.declared.lines.PeriphLines.{PeriphLines}
use Rattle.cell.specs.declared.lines.Answer.{Answer}
use Rattle.cell.specs.Reading.{start}
use Rattle.inserter.specs.declared.front.Front.{Front}
use Rattle.inserter.specs.declared.front.Way.TheVariants.{Forward}

pub record Meaning : Type 0 where
  -- the bytes held on each channel, in order
  pub held : ℕ → List ℕ
  -- the free places of each channel
  pub free : ℕ → ℕ
  -- the channel and the count that its reading has reached
  pub cursor : Cursor
  -- the cells still on offer
  pub offers : List Cell
  -- the cell on show, the way, the lines and the patience
  pub front : Front

-- the eight channels alone hold bytes or have places
abbrev pub held_on : Meaning → ℕ → List ℕ
held_on m k = cond (nat_lt k 8) (m.held k) []

abbrev pub free_on : Meaning → ℕ → ℕ
free_on m k = cond (nat_lt k 8) (m.free k) 0

-- what stands at a place, if anything does
abbrev pub at_place : List ℕ → ℕ → Option ℕ
at_place xs i = cond (nat_lt i (length xs)) (Some (slice_index xs i)) None

abbrev pub any : List Cell → Bool
any [] = false
any (c ∷ cs) = true

-- nPeriphRequest is low exactly while cells are on offer, and Xflag is high
abbrev pub lines_of : Meaning → PeriphLines
lines_of m =
    record { clk = m.front.clk; ack = m.front.ack; nackreverse = m.front.nackreverse; nrequest = not (any m.offers); xflag = true }

-- the byte is that of the cell on show, and 0 with none
abbrev pub shown_byte : Option Cell → ℕ
shown_byte None = 0
shown_byte (Some c) = c.byte

abbrev pub answer_of : Meaning → Answer
answer_of m = record { lines = lines_of m; byte = shown_byte m.front.shown }

-- the front of a new inserter, and of one whose cable was dropped
abbrev pub resting : ℕ → Front
resting delay = record { shown = None; way = Forward; clk = true; ack = false; nackreverse = true; patience = delay }

-- a new inserter, whatever it offers
pub record New (delay : ℕ) (m : Meaning) : Type 0 where
  pub no_bytes : (k : ℕ) → m.held k ≡ []
  pub a_place : (k : ℕ) → k < 8 → 0 < m.free k
  pub at_start : m.cursor ≡ start
  pub at_rest : m.front ≡ resting delay
