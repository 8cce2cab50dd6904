-- The number and the words of each outcome.
use Rattle.std.specs.Prelude.{ℕ, List, Ok, Err, Result, codes}
use Rattle.traffic.specs.declared.undone.Undone.{Undone}
use Rattle.traffic.specs.declared.undone.Undone.TheVariants.{Lost, Empty, Ignored}

abbrev pub undone_number : Undone → ℕ
undone_number Lost = 1
undone_number Empty = 2
undone_number Ignored = 3

abbrev pub reason_of : Undone → List ℕ
reason_of Lost = codes "the queue is full, and the byte is lost"
reason_of Empty = codes "the queue is empty"
reason_of Ignored = codes "the queue works the other way"

-- done is 0
abbrev pub outcome_number : {T : Type 0} → Result T Undone → ℕ
outcome_number (Ok x) = 0
outcome_number (Err e) = undone_number e
