-- A caption as cells.
use Rattle.std.specs.Prelude.{◌≡◌, ℕ, ◌+◌, ◌-◌, Bool, cond, ◌&&◌, List, [], ◌∷◌, ◌++◌, None, ◌==◌, ◌≢◌, nat_lt}
use Rattle.cell.specs.declared.cells.Cell.{Cell}
use Rattle.cell.specs.declared.cells.Tag.TheVariants.{Data, Command}
use Rattle.cell.specs.Reading.{cells, start, reached, reading}

abbrev pub data_cell : ℕ → Cell
data_cell b = record { byte = b; tag = Data }

-- the count that goes before a run of n equal bytes
abbrev pub count_cell : ℕ → Cell
count_cell n = record { byte = n - 1; tag = Command }

-- the address of a channel
abbrev pub address_cell : ℕ → Cell
address_cell channel = record { byte = 128 + channel; tag = Command }

-- a run of n bytes b: a count where n is above 1, and the byte
abbrev pub run_cells : ℕ → ℕ → List Cell
run_cells n b = cond (nat_lt 1 n) (count_cell n ∷ data_cell b ∷ []) (data_cell b ∷ [])

-- a run of n bytes b goes on while the byte stays the same, up to 128
abbrev pub goes_on : ℕ → ℕ → ℕ → Bool
goes_on x b n = x == b && nat_lt n 128

-- a text of which n bytes b came last
abbrev pub runs : ℕ → ℕ → List ℕ → List Cell
runs n b [] = run_cells n b
runs n b (x ∷ xs) = cond (goes_on x b n) (runs (n + 1) b xs) (run_cells n b ++ runs 1 x xs)

abbrev pub text_cells : List ℕ → List Cell
text_cells [] = []
text_cells (x ∷ xs) = runs 1 x xs

abbrev pub caption_cells : ℕ → List ℕ → List Cell
caption_cells channel text = address_cell channel ∷ text_cells text

-- read from the start, the cells give the text on its channel and nothing on any other, and leave no count behind
pub record Spells (cs : List Cell) (channel : ℕ) (text : List ℕ) : Type 0 where
  pub there : reading (cells cs) channel ≡ text
  pub nowhere_else : (k : ℕ) → (k ≢ channel) → reading (cells cs) k ≡ []
  pub ends : reached start (cells cs) ≡ record { channel = channel; count = None }
