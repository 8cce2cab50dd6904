-- A queue in slots that are used as a circle.
use Rattle.std.specs.Prelude.{ℕ, ◌+◌, ◌%◌, List, ◌++◌, take, drop}

module _ {T : Type 0} where
  -- the n items that begin after k slots, and go on at the first slot
  abbrev pub window : ℕ → ℕ → List T → List T
  window k n xs = take n (drop k xs ++ take k xs)

-- the slot of item i, of n slots, where k lie before item 0
abbrev pub place : ℕ → ℕ → ℕ → ℕ
place n k i = (k + i) % n
