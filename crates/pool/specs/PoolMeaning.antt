-- What a pool means, and the memory that it was lent.
use Rattle.std.specs.Prelude.{ℕ}
use Rattle.cell.specs.declared.lines.HostLines.{HostLines}
use Rattle.inserter.specs.Meaning.{Meaning}
use Rattle.inserter.specs.Rules.{adds}
use Rattle.pool.specs.declared.Pool.{Pool}
use Rattle.pool.specs.Pool.{Stored, stored_after}
use Rattle.pool.specs.Kept.{held_by, free_in, lent_to}
use Rattle.handshake.specs.Seen.{seen, remembered}

abbrev pub means : Pool → Meaning
means s = seen held_by free_in s.shaken

abbrev pub memory : Pool → Stored
memory s = lent_to s.shaken.store

-- the memory after a look: the bytes that it adds stand behind all that were in use, and every other record stays
abbrev pub memory_after : Stored → Meaning → HostLines → ℕ → Stored
memory_after stored m h b = remembered stored_after (adds m h) stored m b
