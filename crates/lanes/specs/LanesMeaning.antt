-- What lanes mean, and the memory that they were lent.
use Rattle.std.specs.Prelude.{ℕ, List}
use Rattle.cell.specs.declared.lines.HostLines.{HostLines}
use Rattle.inserter.specs.Meaning.{Meaning}
use Rattle.inserter.specs.Rules.{adds}
use Rattle.lanes.specs.declared.Lanes.{Lanes}
use Rattle.lanes.specs.Lanes.{laned}
use Rattle.lanes.specs.Kept.{held_by, free_in}
use Rattle.handshake.specs.Seen.{seen, remembered}

abbrev pub means : Lanes → Meaning
means s = seen held_by free_in s.shaken

abbrev pub memory : Lanes → List ℕ
memory s = s.shaken.store.bytes.now

-- the memory after a look: the bytes that it adds stand behind those that their channel holds, and every other place stays
abbrev pub memory_after : List ℕ → Meaning → HostLines → ℕ → List ℕ
memory_after bytes m h b = remembered laned (adds m h) bytes m b
