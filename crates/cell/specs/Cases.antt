-- The worked cases: numbers hexadecimal, c marks a command.
use Rattle.std.specs.Prelude.{◌≡◌, ℕ, List, [], ◌∷◌, replicate, ◌≢◌}
use Rattle.cell.specs.declared.cells.Cell.{Cell}
use Rattle.cell.specs.declared.cells.Tag.TheVariants.{Data, Command}
use Rattle.cell.specs.Reading.{cells, reading}
use Rattle.cell.specs.Expansion.{expanded}

abbrev c : ℕ → Cell
c b = record { byte = b; tag = Command }

abbrev d : ℕ → Cell
d b = record { byte = b; tag = Data }

-- what the list puts on channel k, and nothing on any other
pub record Reads (xs : List Cell) (k : ℕ) (bytes : List ℕ) : Type 0 where
  pub there : reading (cells xs) k ≡ bytes
  pub nowhere_else : (j : ℕ) → (j ≢ k) → reading (cells xs) j ≡ []

pub record WorkedCases : Type 0 where
  -- 85c 02c 41: three 41 on channel 5
  pub counted : Reads (c 0x85 ∷ c 0x02 ∷ d 0x41 ∷ []) 5 (0x41 ∷ 0x41 ∷ 0x41 ∷ [])
  -- 81c 7Fc 00: 128 zeros on channel 1
  pub longest : Reads (c 0x81 ∷ c 0x7F ∷ d 0x00 ∷ []) 1 (replicate 128 0)
  -- 02c 81c 41: the address drops the count
  pub dropped : Reads (c 0x02 ∷ c 0x81 ∷ d 0x41 ∷ []) 1 (0x41 ∷ [])
  -- 81c 01c 02c 41: the later count replaces the earlier
  pub replaced : Reads (c 0x81 ∷ c 0x01 ∷ c 0x02 ∷ d 0x41 ∷ []) 1 (0x41 ∷ 0x41 ∷ 0x41 ∷ [])
  -- 01c 85c coming back: an address is given out, twice
  pub given_out : expanded 0 (c 0x01 ∷ c 0x85 ∷ []) ≡ 0x85 ∷ 0x85 ∷ []
