-- What an address means. Addresses are hexadecimal.
use Rattle.std.specs.Prelude.{ℕ, Bool, cond, ◌||◌, Ok, Err, Result, ◌==◌}
use Rattle.refusal.specs.declared.Refusal.{Refusal}
use Rattle.refusal.specs.declared.Refusal.TheVariants.{Address, Access as NoAccess}
use Rattle.modes.specs.declared.mode.Mode.{Mode}
use Rattle.modes.specs.declared.mode.Mode.TheVariants.{Spp, Byte, Ecp, Test, Config}
use Rattle.modes.specs.declared.mode.Direction.{Direction}
use Rattle.modes.specs.declared.decode.Access.{Access}
use Rattle.modes.specs.declared.decode.Access.TheVariants.{Read, Write}
use Rattle.modes.specs.declared.decode.Register.{Register}
use Rattle.modes.specs.declared.decode.Register.TheVariants.{Data, FarByte, Status, Control, Commands, Fifo, ConfigA, ConfigB, Extended}
use Rattle.modes.specs.Modes.{inward}

abbrev pub Decoded : Type 0
Decoded = Result Register Refusal

-- whether it is one of the six
abbrev pub known_address : ℕ → Bool
known_address a = a == 0x000 || (a == 0x001 || (a == 0x002 || (a == 0x400 || (a == 0x401 || a == 0x402))))

abbrev pub elsewhere : ℕ → Refusal
elsewhere a = cond (known_address a) NoAccess Address

-- 000 reads DATA in modes 000 and 001; with direction 1 in 001 that is the far end's byte
abbrev pub reads_data : Mode → Direction → Decoded
reads_data Spp d = Ok Data
reads_data Byte d = cond (inward d) (Ok FarByte) (Ok Data)
reads_data Ecp d = Err NoAccess
reads_data Test d = Err NoAccess
reads_data Config d = Err NoAccess

-- 400 reads the queue in 011 and 110, and CnfgA in 111
abbrev pub reads_fifo : Mode → Decoded
reads_fifo Spp = Err NoAccess
reads_fifo Byte = Err NoAccess
reads_fifo Ecp = Ok Fifo
reads_fifo Test = Ok Fifo
reads_fifo Config = Ok ConfigA

-- 000 writes DATA in 000 and 001, and stores a command in 011
abbrev pub writes_data : Mode → Decoded
writes_data Spp = Ok Data
writes_data Byte = Ok Data
writes_data Ecp = Ok Commands
writes_data Test = Err NoAccess
writes_data Config = Err NoAccess

-- 400 stores data in 011 and 110
abbrev pub writes_fifo : Mode → Decoded
writes_fifo Spp = Err NoAccess
writes_fifo Byte = Err NoAccess
writes_fifo Ecp = Ok Fifo
writes_fifo Test = Ok Fifo
writes_fifo Config = Err NoAccess

-- 401 is CnfgB, in 111
abbrev pub config_b : Mode → Decoded
config_b Spp = Err NoAccess
config_b Byte = Err NoAccess
config_b Ecp = Err NoAccess
config_b Test = Err NoAccess
config_b Config = Ok ConfigB

abbrev pub read_at : ℕ → Mode → Direction → Decoded
read_at a m d =
    cond (a == 0x000) (reads_data m d)
    (cond (a == 0x001) (Ok Status)
    (cond (a == 0x002) (Ok Control)
    (cond (a == 0x400) (reads_fifo m)
    (cond (a == 0x401) (config_b m)
    (cond (a == 0x402) (Ok Extended) (Err Address))))))

-- 001 is read only
abbrev pub written_at : ℕ → Mode → Decoded
written_at a m =
    cond (a == 0x000) (writes_data m)
    (cond (a == 0x001) (Err NoAccess)
    (cond (a == 0x002) (Ok Control)
    (cond (a == 0x400) (writes_fifo m)
    (cond (a == 0x401) (config_b m)
    (cond (a == 0x402) (Ok Extended) (Err Address))))))

abbrev pub decoded : Access → ℕ → Mode → Direction → Decoded
decoded Read a m d = read_at a m d
decoded Write a m d = written_at a m
