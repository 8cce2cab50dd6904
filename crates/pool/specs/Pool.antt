-- One pool of records, which all channels share.
use Rattle.std.specs.Prelude.{ℕ, ◌+◌, ◌-◌, min, Bool, List, map, length, take, filter, ◌==◌}
use Rattle.pool.specs.declared.record.Record.{Record}
use Rattle.handshake.specs.Spread.{written}

-- the most records that a pool may have
abbrev pub pool_limit : ℕ
pool_limit = 65535

-- how many records the pool has
abbrev pub places : List Record → ℕ
places xs = min pool_limit (length xs)

-- how many of them are in use, from the first on
abbrev pub in_use : List Record → ℕ → ℕ
in_use xs used = min used (places xs)

abbrev pub record_of : ℕ → ℕ → Record
record_of c b = record { channel = c; byte = b }

abbrev pub is_on : ℕ → Record → Bool
is_on k x = x.channel == k

-- the bytes of channel k among the records, in order
abbrev pub bytes_of : ℕ → List Record → List ℕ
bytes_of k xs = map (λ x. x.byte) (filter (is_on k) xs)

-- what channel k holds
abbrev pub pooled : List Record → ℕ → ℕ → List ℕ
pooled xs used k = bytes_of k (take (in_use xs used) xs)

-- the free places, which are every channel's
abbrev pub left : List Record → ℕ → ℕ
left xs used = places xs - in_use xs used

-- the memory handed over, and how many records of it are in use
pub record Stored : Type 0 where
  pub records : List Record
  pub used : ℕ

abbrev pub stored : List Record → ℕ → Stored
stored xs used = record { records = xs; used = in_use xs used }

-- the memory once b is written n times on channel c, however many bytes that channel held
abbrev pub stored_after : Stored → ℕ → ℕ → ℕ → ℕ → Stored
stored_after m held c n b = record { records = written m.records m.used n (record_of c b); used = m.used + n }
