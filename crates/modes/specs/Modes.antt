-- Modes and directions.
use Rattle.std.specs.Prelude.{ℕ, ◌/◌, Bool, true, false, cond, Some, None, Option, ◌==◌}
use Rattle.modes.specs.declared.mode.Mode.{Mode}
use Rattle.modes.specs.declared.mode.Mode.TheVariants.{Spp, Byte, Ecp, Test, Config}
use Rattle.modes.specs.declared.mode.Modes.{Modes}
use Rattle.modes.specs.declared.mode.Direction.{Direction}
use Rattle.modes.specs.declared.mode.Direction.TheVariants.{Out, In}

-- 000, 001, 011, 110, 111
abbrev pub code_of : Mode → ℕ
code_of Spp = 0
code_of Byte = 1
code_of Ecp = 3
code_of Test = 6
code_of Config = 7

abbrev pub mode_at : ℕ → Option Mode
mode_at n =
    cond (n == 0) (Some Spp) (cond (n == 1) (Some Byte) (cond (n == 3) (Some Ecp) (cond (n == 6) (Some Test) (cond (n == 7) (Some Config) None))))

-- the mode that ECR's bits 7 to 5 say
abbrev pub mode_in : ℕ → Option Mode
mode_in b = mode_at (b / 32)

abbrev pub same : Mode → Mode → Bool
same m n = code_of m == code_of n

abbrev pub admits : Modes → Mode → Bool
admits a Spp = a.spp
admits a Byte = a.byte
admits a Ecp = a.ecp
admits a Test = a.test
admits a Config = a.config

abbrev pub every : Modes
every = record { spp = true; byte = true; ecp = true; test = true; config = true }

-- direction 1
abbrev pub inward : Direction → Bool
inward Out = false
inward In = true

abbrev pub direction_at : Bool → Direction
direction_at true = In
direction_at false = Out

-- full, empty and the thresholds are told of the queue in 011 and 110
abbrev pub queues : Mode → Bool
queues Spp = false
queues Byte = false
queues Ecp = true
queues Test = true
queues Config = false

-- cells stored in 011 with direction 0 are forward cells
abbrev pub forwards : Mode → Direction → Bool
forwards Spp d = false
forwards Byte d = false
forwards Ecp Out = true
forwards Ecp In = false
forwards Test d = false
forwards Config d = false

-- the queue faces outward in 011 with direction 0
abbrev pub outward : Mode → Direction → Bool
outward Spp d = false
outward Byte d = false
outward Ecp Out = true
outward Ecp In = false
outward Test d = false
outward Config d = false

-- cells come back in 011 with direction 1
abbrev pub receives : Mode → Direction → Bool
receives Spp d = false
receives Byte d = false
receives Ecp Out = false
receives Ecp In = true
receives Test d = false
receives Config d = false
