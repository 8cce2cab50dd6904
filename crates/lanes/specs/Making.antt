-- When a make may be made over memory handed to it.
use Rattle.std.specs.Prelude.{ℕ, ◌/◌, ◌%◌, Bool, cond, ◌&&◌, Ok, Err, Result, ◌==◌, nat_le}
use Rattle.refusal.specs.declared.Refusal.{Refusal}
use Rattle.refusal.specs.declared.Refusal.TheVariants.{Memory}
use Rattle.handshake.specs.Limits.{offer_limit}
use Rattle.lanes.specs.Lanes.{lane_limit}

-- eight equal lanes of 1 to 65,535 places in so many bytes, and at most 65,535 offers
abbrev pub lanes_allowed : ℕ → ℕ → Bool
lanes_allowed bytes offers = bytes % 8 == 0 && (nat_le 1 (bytes / 8) && (nat_le (bytes / 8) lane_limit && nat_le offers offer_limit))

abbrev pub lanes_answer : ℕ → ℕ → Result (Unit {0}) Refusal
lanes_answer bytes offers = cond (lanes_allowed bytes offers) (Ok tt) (Err Memory)
