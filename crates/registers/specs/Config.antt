-- The fields of CnfgB: for a field as it was written, what it reads as and what it selects.
use Rattle.std.specs.Prelude.{cond, ℕ, ◌%◌, eqb}

-- IRQ, bits 5 to 3. The chip's rows: 010 reads 010 and selects line 9; 111 reads 111 and selects line 5; each other reads 001 and selects line 7
abbrev pub irq_reads : ℕ → ℕ
irq_reads f = cond (eqb (f % 8) 2) 2 (cond (eqb (f % 8) 7) 7 1)

abbrev pub irq_line : ℕ → ℕ
irq_line f = cond (eqb (f % 8) 2) 9 (cond (eqb (f % 8) 7) 5 7)

-- DMA, bits 2 to 0. The chip's rows, with the upper bit forced low: x00 reads 000 and selects channel 3; x01 reads 001 and selects 1;
-- x10 reads 010 and selects 2; x11 reads 011 and selects 3
abbrev pub dma_reads : ℕ → ℕ
dma_reads f = f % 4

abbrev pub dma_channel : ℕ → ℕ
dma_channel f = cond (eqb (f % 4) 0) 3 (f % 4)
