-- What the records of a pool are seen as: what each channel holds, its free places, and the memory that was lent.
use Rattle.std.specs.Prelude.{ℕ, List}
use Rattle.pool.specs.declared.records.PoolRecords.{PoolRecords}
use Rattle.pool.specs.Pool.{Stored, pooled, left, stored}

abbrev pub held_by : PoolRecords → ℕ → List ℕ
held_by s = pooled s.records.now s.used

abbrev pub free_in : PoolRecords → ℕ → ℕ
free_in s k = left s.records.now s.used

abbrev pub lent_to : PoolRecords → Stored
lent_to s = stored s.records.now s.used
