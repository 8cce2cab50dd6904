-- Storing cells in the queue: by a write, by a DMA cycle, or as a send.
use Rattle.std.specs.Prelude.{ℕ, ◌+◌, ◌-◌, Bool, false, cond, ◌&&◌, List, [], ◌∷◌, ◌++◌, length, Some, None, Ok, Err, Option, Result, ◌==◌, nat_lt}
use Rattle.cell.specs.declared.cells.Cell.{Cell}
use Rattle.cell.specs.declared.cells.Tag.TheVariants.{Data, Command}
use Rattle.cell.specs.declared.cells.Kind.{Kind}
use Rattle.cell.specs.declared.cells.Kind.TheVariants.{Byte, Count, Address}
use Rattle.cell.specs.Cells.{kind_of}
use Rattle.queue.specs.Cells.{room}
use Rattle.traffic.specs.declared.undone.Undone.{Undone}
use Rattle.traffic.specs.declared.undone.Undone.TheVariants.{Lost, Ignored}
use Rattle.traffic.specs.Flow.{Flow, sends, gets}

-- a stored address becomes known, a stored count makes it unknown, and data leaves it
abbrev pub known_by : Kind → Option ℕ → Option ℕ
known_by (Byte b) k = k
known_by (Count n) k = None
known_by (Address a) k = Some a

-- cells at the end of the queue
abbrev pub joined : List Cell → Option ℕ → Flow → Flow
joined cs k f = record f { queue = f.queue ++ cs; known = k }

-- while cells come back a store is ignored; otherwise a store to a full queue is lost
abbrev pub store_outcome : Flow → Result (Unit {0}) Undone
store_outcome f = cond (gets f) (Err Ignored) (cond (room 1 f.queue) (Ok tt) (Err Lost))

abbrev pub stored : Cell → Flow → Flow
stored c f = cond (gets f) f (cond (room 1 f.queue) (joined (c ∷ []) (known_by (kind_of c) f.known) f) f)

-- The cells of a send: the address unless it is the one known, count n - 1 where n is above 1, and the byte.
abbrev pub knows : Option ℕ → ℕ → Bool
knows None k = false
knows (Some a) k = a == k

abbrev pub address_cells : Option ℕ → ℕ → List Cell
address_cells o k = cond (knows o k) [] (record { byte = 128 + k; tag = Command } ∷ [])

abbrev pub count_cells : ℕ → List Cell
count_cells n = cond (nat_lt 1 n) (record { byte = n - 1; tag = Command } ∷ []) []

abbrev pub send_cells : Option ℕ → ℕ → ℕ → ℕ → List Cell
send_cells o k b n = address_cells o k ++ (count_cells n ++ (record { byte = b; tag = Data } ∷ []))

-- the queue has as many free places as the send has cells
abbrev pub send_fits : ℕ → ℕ → ℕ → Flow → Bool
send_fits k b n f = room (length (send_cells f.known k b n)) f.queue

-- all or nothing, and only while the port sends; the address is then known
abbrev pub sent : ℕ → ℕ → ℕ → Flow → Flow
sent k b n f = cond (sends f && send_fits k b n f) (joined (send_cells f.known k b n) (Some k) f) f
