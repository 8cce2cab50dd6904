-- How many cells the queue holds.
use Rattle.std.specs.Prelude.{ℕ}

abbrev pub depth : ℕ
depth = 16
