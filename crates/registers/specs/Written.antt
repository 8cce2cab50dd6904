-- What a byte says that is written to a register.
use Rattle.std.specs.Prelude.{Bool, not, ◌||◌, ℕ, ◌/◌, ◌%◌, eqb}
use Rattle.registers.specs.declared.written.ControlBits.{ControlBits}
use Rattle.registers.specs.declared.written.ExtendedBits.{ExtendedBits}
use Rattle.registers.specs.declared.config.Fields.{Fields}
use Rattle.modes.specs.Modes.{direction_at}

-- whether the bit of weight w is 1
abbrev pub bit : ℕ → ℕ → Bool
bit w b = eqb ((b / w) % 2) 1

-- DCR: bits 2, 4 and 5
abbrev pub control_bits : ℕ → ControlBits
control_bits b = record { forward = bit 4 b; level = bit 16 b; direction = direction_at (bit 32 b) }

-- bits 0, 1, 3, 6 and 7 of DCR are zero
abbrev pub plain : ℕ → Bool
plain b = not (bit 1 b || (bit 2 b || (bit 8 b || (bit 64 b || bit 128 b))))

-- ECR: bits 4, 3 and 2; full and empty cannot be written
abbrev pub extended_bits : ℕ → ExtendedBits
extended_bits b = record { mask = bit 16 b; dma = bit 8 b; service = bit 4 b }

-- CnfgB: bits 5 to 3 and 2 to 0
abbrev pub fields : ℕ → Fields
fields b = record { irq = (b / 8) % 8; dma = b % 8 }
