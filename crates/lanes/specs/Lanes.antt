-- Eight equal stretches of one piece of memory, a lane for each channel.
use Rattle.std.specs.Prelude.{ℕ, ◌+◌, ◌-◌, ◌*◌, ◌/◌, min, cond, List, length, take, drop, nat_lt, slice_index}
use Rattle.handshake.specs.Spread.{written}

-- the most places that a lane may have
abbrev pub lane_limit : ℕ
lane_limit = 65535

-- how many places each lane has
abbrev pub stretch : List ℕ → ℕ
stretch bytes = min lane_limit (length bytes / 8)

-- how many places of lane k are in use, where a lane has s
abbrev pub used : ℕ → List ℕ → ℕ → ℕ
used s lens k = cond (nat_lt k 8) (min (slice_index lens k) s) 0

-- what lane k holds: what is in use of its stretch
abbrev pub lane : List ℕ → List ℕ → ℕ → List ℕ
lane bytes lens k = take (used (stretch bytes) lens k) (drop (k * stretch bytes) bytes)

abbrev pub room : List ℕ → List ℕ → ℕ → ℕ
room bytes lens k = cond (nat_lt k 8) (stretch bytes - used (stretch bytes) lens k) 0

-- the place of lane k that comes next
abbrev pub next_place : List ℕ → List ℕ → ℕ → ℕ
next_place bytes lens k = k * stretch bytes + used (stretch bytes) lens k

-- the memory once b is written n times on channel c, whose lane held as many bytes as `held`
abbrev pub laned : List ℕ → ℕ → ℕ → ℕ → ℕ → List ℕ
laned bytes held c n b = written bytes (c * stretch bytes + held) n b
