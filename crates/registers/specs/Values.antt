-- The bytes that registers read as.
use Rattle.std.specs.Prelude.{Bool, true, false, not, ℕ, ◌+◌, ◌*◌}
use Rattle.cell.specs.declared.lines.PeriphLines.{PeriphLines}
use Rattle.registers.specs.declared.values.Extended.{Extended}
use Rattle.registers.specs.declared.written.ControlBits.{ControlBits}
use Rattle.registers.specs.declared.config.Fields.{Fields}
use Rattle.modes.specs.Modes.{code_of, inward}
use Rattle.registers.specs.Config.{irq_reads, dma_reads}

-- what a bit of weight w adds to its byte
abbrev pub bit_of : Bool → ℕ → ℕ
bit_of true w = w
bit_of false w = 0

-- DSR, from bit 7: PeriphAck inverted, PeriphClk, nAckReverse, Xflag, nPeriphRequest; bits 2 to 0 are 1
abbrev pub status : PeriphLines → ℕ
status l =
    bit_of (not l.ack) 128 + bit_of l.clk 64 + bit_of l.nackreverse 32 + bit_of l.xflag 16 + bit_of l.nrequest 8 + 7

-- DCR: bit 2, bit 4 (level interrupt) and bit 5 (direction); the others read 0
abbrev pub control : ControlBits → ℕ
control c = bit_of c.forward 4 + bit_of c.level 16 + bit_of (inward c.direction) 32

-- CnfgA: always hexadecimal 10
abbrev pub config_a : ℕ
config_a = 0x10

-- CnfgB: bit 7 is 0, bit 6 is 0 exactly while the level interrupt is raised, and the fields read as their tables say
abbrev pub config_b : Bool → Fields → ℕ
config_b raised f = bit_of (not raised) 64 + irq_reads f.irq * 8 + dma_reads f.dma

-- ECR: bits 7 to 5 mode, 4 fault mask, 3 DMA, 2 service, 1 full, 0 empty
abbrev pub extended : Extended → ℕ
extended e =
    code_of e.mode * 32 + bit_of e.bits.mask 16 + bit_of e.bits.dma 8 + bit_of e.bits.service 4 + bit_of e.full 2 + bit_of e.empty 1
