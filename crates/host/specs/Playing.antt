-- What an inserter holds once a host has given it cells.
use Rattle.std.specs.Prelude.{◌≡◌, ℕ, ◌+◌, ◌*◌, ◌<◌, ◌≤◌, Bool, true, false, cond, List, [], ◌∷◌, ◌++◌, length, take, None, nat_lt, slice_index_or}
use Rattle.cell.specs.declared.cells.Cell.{Cell}
use Rattle.cell.specs.declared.cells.Tag.{Tag}
use Rattle.cell.specs.declared.cells.Tag.TheVariants.{Data}
use Rattle.cell.specs.declared.lines.HostLines.{HostLines}
use Rattle.cell.specs.declared.lines.Shown.{Shown}
use Rattle.cell.specs.Cells.{level_of}
use Rattle.cell.specs.declared.cursor.Cursor.{Cursor}
use Rattle.cell.specs.Reading.{cells, start, moved, gained, reached, reading}
use Rattle.inserter.specs.declared.front.Front.{Front}
use Rattle.inserter.specs.declared.front.Way.TheVariants.{Forward}
use Rattle.inserter.specs.Meaning.{Meaning, resting}
use Rattle.inserter.specs.Rules.{fits_as, refaced}

-- the host's lines with a cell on them: HostAck is its tag, and nReverseRequest is high
abbrev pub lines : Bool → Tag → HostLines
lines clk t = record { clk = clk; ack = level_of t; nreverse = true }

-- a cell as the host shows it
abbrev pub shown_as : Bool → Cell → Shown
shown_as clk c = record { lines = lines clk c.tag; byte = c.byte }

-- an inserter that has acknowledged a cell
abbrev pub ready : ℕ → Front
ready delay = record { shown = None; way = Forward; clk = true; ack = true; nackreverse = true; patience = delay }

-- a cell was shown to an inserter at rest until its patience was used up: it is acknowledged exactly where it fits
pub record Asked (delay : ℕ) (c : Cell) (m : Meaning) (r : Bool) (m' : Meaning) : Type 0 where
  pub answer : r ≡ fits_as c.tag m
  pub state : m' ≡ refaced m.free m (cond (fits_as c.tag m) (ready delay) (resting delay))

abbrev pub no_cell : Cell
no_cell = record { byte = 0; tag = Data }

-- how many bytes a cell adds, wherever it adds them
abbrev pub kept_of : Cursor → Cell → ℕ
kept_of r c = length (gained r c r.channel)

abbrev pub kept : Cursor → List Cell → ℕ
kept r [] = 0
kept r (c ∷ cs) = kept_of r c + kept (moved r c) cs

-- an inserter at rest took a cell
pub record Took (delay : ℕ) (c : Cell) (m m' : Meaning) : Type 0 where
  pub held : (k : ℕ) → m'.held k ≡ m.held k ++ gained m.cursor c k
  pub cursor : m'.cursor ≡ moved m.cursor c
  pub offers : m'.offers ≡ m.offers
  pub front : m'.front ≡ resting delay
  pub places : (k : ℕ) → m.free k ≤ m'.free k + kept_of m.cursor c

abbrev pub Gave : Bool → ℕ → Cell → Meaning → Meaning → Type 0
Gave true d c m m' = Took d c m m'
Gave false d c m m' = m' ≡ m

-- one cell was given to an inserter at rest: it is taken exactly where it fits, and otherwise all stays
pub record Given (delay : ℕ) (c : Cell) (m : Meaning) (r : Bool) (m' : Meaning) : Type 0 where
  pub answer : r ≡ fits_as c.tag m
  pub gave : Gave r delay c m m'

-- the cable was dropped and cells were given until one did not fit
pub record Plays (delay : ℕ) (m : Meaning) (cs : List Cell) (m' : Meaning) (taken spent : ℕ) : Type 0 where
  pub within : taken ≤ length cs
  -- each channel holds what it held, and then the reading of the cells that were taken
  pub held : (k : ℕ) → m'.held k ≡ m.held k ++ reading (cells (take taken cs)) k
  pub cursor : m'.cursor ≡ reached start (cells (take taken cs))
  pub offers : m'.offers ≡ m.offers
  pub front : m'.front ≡ resting delay
  -- no channel lost more places than bytes were kept
  pub places : (k : ℕ) → m.free k ≤ m'.free k + kept start (take taken cs)
  -- it stopped early only at a cell that does not fit
  pub stopped : taken < length cs → fits_as (slice_index_or cs taken no_cell).tag m' ≡ false
  -- a cell that is taken costs the delay and two looks, one that is not the delay and one
  pub looks : spent ≡ taken * (delay + 2) + cond (nat_lt taken (length cs)) (delay + 1) 0
