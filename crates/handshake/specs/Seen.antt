-- What the handshake over a storage means.
use Rattle.std.specs.Prelude.{◌≡◌, ℕ, Bool, cond, ◌&&◌, List, ◌++◌, length, nat_lt}
use Rattle.cell.specs.declared.cells.Cell.{Cell}
use Rattle.cell.specs.declared.cursor.Cursor.{Cursor}
use Rattle.cell.specs.Cells.{level_of}
use Rattle.cell.specs.Reading.{repeats, moved, gained}
use Rattle.inserter.specs.Meaning.{Meaning}
use Rattle.inserter.specs.Rules.{Places, rest_of}
use Rattle.handshake.specs.declared.shaken.Handshake.{Handshake}

abbrev pub seen : {S : Type 0} → (S → ℕ → List ℕ) → (S → ℕ → ℕ) → Handshake S → Meaning
seen held free s =
    record { held = held s.store; free = free s.store; cursor = s.cursor; offers = s.offers.now; front = s.front }

-- whether a cell, read here, is stored: data for one of the eight channels
abbrev pub stores : Cursor → Cell → Bool
stores r c = level_of c.tag && nat_lt r.channel 8

-- a cell joins the reading
pub record Read (c : Cell) (m m' : Meaning) : Type 0 where
  pub held : (k : ℕ) → m'.held k ≡ m.held k ++ gained m.cursor c k
  pub cursor : m'.cursor ≡ moved m.cursor c
  pub places : Places m.cursor.channel (cond (stores m.cursor c) (repeats m.cursor.count) 0) m.free m'.free
  pub offers : m'.offers ≡ m.offers
  pub front : m'.front ≡ m.front

-- the memory afterwards: a byte was written on the channel that the reading stands on, or all stays
abbrev pub remembered : {M : Type 0} → (M → ℕ → ℕ → ℕ → ℕ → M) → Bool → M → Meaning → ℕ → M
remembered rewritten t mem m b =
    cond t (rewritten mem (length (m.held m.cursor.channel)) m.cursor.channel (repeats m.cursor.count) b) mem

-- the first cell on offer is gone
abbrev pub withdrawn : Meaning → Meaning
withdrawn m = record { held = m.held; free = m.free; cursor = m.cursor; offers = rest_of m.offers; front = m.front }
