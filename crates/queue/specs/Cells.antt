-- The rules of the queue, over its cells in order: the first is the first to leave.
use Rattle.std.specs.Prelude.{ℕ, ◌+◌, Bool, cond, List, [], ◌∷◌, ◌++◌, length, Some, None, Ok, Err, Option, Result, ◌==◌, nat_le}
use Rattle.cell.specs.declared.cells.Cell.{Cell}
use Rattle.queue.specs.declared.fifo.NoRoom.{NoRoom}
use Rattle.queue.specs.Depth.{depth}

abbrev pub empty : List Cell → Bool
empty cs = length cs == 0

abbrev pub full : List Cell → Bool
full cs = nat_le depth (length cs)

-- whether n cells more fit
abbrev pub room : ℕ → List Cell → Bool
room n cs = nat_le (length cs + n) depth

abbrev pub room_answer : Bool → Result (Unit {0}) NoRoom
room_answer b = cond b (Ok tt) (Err (record {}))

-- one cell more, where there is room
abbrev pub pushed : Cell → List Cell → List Cell
pushed c cs = cond (room 1 cs) (cs ++ c ∷ []) cs

module _ {T : Type 0} where
  abbrev pub first : List T → Option T
  first [] = None
  first (c ∷ cs) = Some c

  -- what is left once the first has left
  abbrev pub rest : List T → List T
  rest [] = []
  rest (c ∷ cs) = cs
