-- A patch table: for each of the eight channels the one that it is below.
use Rattle.std.specs.Prelude.{ℕ, suc, Bool, false, cond, ◌||◌, List, [], ◌∷◌, Ok, Err, Result, ◌==◌, nat_le, nat_lt, slice_index}
use Rattle.refusal.specs.declared.Refusal.{Refusal}
use Rattle.refusal.specs.declared.Refusal.TheVariants.{EntryRange, EntryTwice}

-- whether an entry is 8 or more
abbrev pub any_high : List ℕ → Bool
any_high [] = false
any_high (x ∷ xs) = nat_le 8 x || any_high xs

-- whether x stands in a list
abbrev pub stands : ℕ → List ℕ → Bool
stands x [] = false
stands x (y ∷ ys) = y == x || stands x ys

-- whether two entries are alike
abbrev pub any_alike : List ℕ → Bool
any_alike [] = false
any_alike (x ∷ xs) = stands x xs || any_alike xs

-- whether there may be such a table
abbrev pub table_answer : List ℕ → Result (Unit {0}) Refusal
table_answer es = cond (any_high es) (Err EntryRange) (cond (any_alike es) (Err EntryTwice) (Ok tt))

-- the channel that channel k is below; a number above 7 stays what it is
abbrev pub entry_of : List ℕ → ℕ → ℕ
entry_of es k = cond (nat_lt k 8) (slice_index es k) k

-- the place at which an entry stands first, and behind them all where it does not stand
abbrev pub place_of : List ℕ → ℕ → ℕ
place_of [] c = 0
place_of (x ∷ xs) c = cond (x == c) 0 (suc (place_of xs c))

-- the channel whose entry is c; a number above 7 stays what it is
abbrev pub channel_of : List ℕ → ℕ → ℕ
channel_of es c = cond (nat_lt c 8) (place_of es c) c
