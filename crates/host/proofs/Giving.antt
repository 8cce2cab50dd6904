-- Looks at an inserter at rest, one after the other.
use Rattle.std.proofs.Common.{◌≡◌, ℕ, ◌-◌, Bool, true, false, cond, ◌&&◌, ltb, length, None, refl, arith}
use lib.ListN.{length-replicate}
use Rattle.std.proofs.lemmas.Bool.Decides.{nat_tests}
use Rattle.cell.specs.declared.cells.Cell.{Cell}
use Rattle.cell.specs.declared.cells.Tag.{Tag}
use Rattle.cell.specs.declared.cells.Tag.TheVariants.{Data, Command}
use Rattle.cell.specs.declared.cells.Kind.TheVariants.{Count, Address}
use Rattle.cell.specs.declared.cursor.Cursor.{Cursor}
use Rattle.cell.specs.Cells.{level_of}
use Rattle.cell.specs.Reading.{repeats, gained_by}
use Rattle.inserter.specs.declared.front.Front.{Front}
use Rattle.inserter.specs.declared.front.Way.TheVariants.{Forward}
use Rattle.inserter.specs.Meaning.{Meaning}
use Rattle.inserter.specs.Rules.{fits_as, refaced}
use Rattle.host.specs.Playing.{kept_of}

-- forward, with PeriphAck low and patience p
abbrev waiting : ℕ → Front
waiting p = record { shown = None; way = Forward; clk = true; ack = false; nackreverse = true; patience = p }

-- a meaning with this front
abbrev with : Meaning → Front → Meaning
with m f = refaced m.free m f

-- after i looks at a cell
abbrev pub shown_for : ℕ → ℕ → Cell → Meaning → Meaning
shown_for d i c m = with m (waiting (cond (fits_as c.tag m) (d - i) d))

-- how many bytes a cell adds, as the rules count them
pub adds_kept : (r : Cursor) (c : Cell) → cond (level_of c.tag && ltb r.channel 8) (repeats r.count) 0 ≡ kept_of r c
adds_kept r c = by_tag c.tag
  where
    by_kind : (t : Bool) → 0 ≡ length (gained_by r (cond t (Count c.byte) (Address (c.byte - 128))) r.channel)
    by_kind true = refl
    by_kind false = refl

    by_tag : (t : Tag) → cond (level_of t && ltb r.channel 8) (repeats r.count) 0 ≡ kept_of r (record { byte = c.byte; tag = t })
    by_tag Data = grind (arith, nat_tests, length-replicate {A = ℕ})
    by_tag Command = by_kind (ltb c.byte 128)
