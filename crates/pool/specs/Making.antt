-- When a pool may be made over memory handed to it.
use Rattle.std.specs.Prelude.{ℕ, Bool, cond, ◌&&◌, Ok, Err, Result, nat_le}
use Rattle.refusal.specs.declared.Refusal.{Refusal}
use Rattle.refusal.specs.declared.Refusal.TheVariants.{Memory}
use Rattle.handshake.specs.Limits.{offer_limit}
use Rattle.pool.specs.Pool.{pool_limit}

-- 1 to 65,535 records, and at most 65,535 offers
abbrev pub pool_allowed : ℕ → ℕ → Bool
pool_allowed records offers = nat_le 1 records && (nat_le records pool_limit && nat_le offers offer_limit)

abbrev pub pool_answer : ℕ → ℕ → Result (Unit {0}) Refusal
pool_answer records offers = cond (pool_allowed records offers) (Ok tt) (Err Memory)
