-- Cells that leave the queue leave room behind.
use Rattle.std.proofs.Common.{◌≡◌, ◌≤◌, true, List, [], ◌∷◌, length, refl, le_refl, arith}
use Rattle.std.proofs.lemmas.Bool.Decides.{nat_tests}
use Rattle.cell.specs.declared.cells.Cell.{Cell}
use Rattle.traffic.specs.declared.stage.Stage.{Stage}
use Rattle.traffic.specs.declared.stage.Stage.TheVariants.{Idle, Low, High, Asked}
use Rattle.traffic.specs.Stages.{asks_with_room}
use Rattle.traffic.specs.Fetching.{uncounted}

pub uncounted_within : (q : List Cell) → length (uncounted q) ≤ length q
uncounted_within [] = le_refl 0
uncounted_within (c ∷ q) = grind (arith, uncounted_within q)

pub room_left : (s : Stage) (q q' : List Cell) → length q' ≤ length q → asks_with_room s q ≡ true → asks_with_room s q' ≡ true
room_left Idle q q' within room = refl
room_left (Low c) q q' within room = refl
room_left (High c) q q' within room = refl
room_left Asked q q' within room = grind (arith, nat_tests)

pub room_uncounted : (s : Stage) (q : List Cell) → asks_with_room s q ≡ true → asks_with_room s (uncounted q) ≡ true
room_uncounted s q room = room_left s q (uncounted q) (uncounted_within q) room
