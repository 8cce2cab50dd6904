-- The limit of what a make may be handed to offer.
use Rattle.std.specs.Prelude.{ℕ}

-- the most cells that may be on offer
abbrev pub offer_limit : ℕ
offer_limit = 65535
