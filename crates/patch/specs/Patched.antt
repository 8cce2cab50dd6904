-- What an inserter means that is seen through a patch.
use Rattle.std.specs.Prelude.{ℕ, ◌+◌, cond, List, nat_lt}
use Rattle.cell.specs.declared.cells.Cell.{Cell}
use Rattle.cell.specs.declared.cells.Kind.{Kind}
use Rattle.cell.specs.declared.cells.Kind.TheVariants.{Byte, Count, Address}
use Rattle.cell.specs.declared.cursor.Cursor.{Cursor}
use Rattle.cell.specs.Cells.{kind_of}
use Rattle.inserter.specs.Meaning.{Meaning}
use Rattle.patch.specs.Tables.{entry_of, channel_of}

-- the byte that is shown below for a cell: of an address below 8 its entry's, of all else its own
abbrev pub told_by : List ℕ → ℕ → Kind → ℕ
told_by es b (Address k) = cond (nat_lt k 8) (128 + entry_of es k) b
told_by es b (Byte x) = b
told_by es b (Count n) = b

abbrev pub told : List ℕ → Cell → ℕ
told es c = told_by es c.byte (kind_of c)

-- where the reading stands, seen from above
abbrev pub seen_from : List ℕ → Cursor → Cursor
seen_from es r = record { channel = channel_of es r.channel; count = r.count }

-- channel k is the lower one's channel of entry k, and all else is the lower one's
abbrev pub patched : List ℕ → Meaning → Meaning
patched es m =
    record {
      held = λ k. m.held (entry_of es k);
      free = λ k. m.free (entry_of es k);
      cursor = seen_from es m.cursor;
      offers = m.offers;
      front = m.front;
    }
