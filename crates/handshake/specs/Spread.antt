-- What memory holds once one item has been written several times over.
use Rattle.std.specs.Prelude.{ℕ, ◌+◌, cond, List, ◌++◌, length, take, drop, replicate, nat_le}

-- n places from `at` on hold x, and every other place what it held
abbrev pub written : {X : Type 0} → List X → ℕ → ℕ → X → List X
written xs at n x = take at xs ++ (replicate n x ++ drop (at + n) xs)

-- so many places have to be there
abbrev pub spread_out : {X : Type 0} → List X → ℕ → ℕ → X → List X
spread_out xs at n x = cond (nat_le (at + n) (length xs)) (written xs at n x) xs
