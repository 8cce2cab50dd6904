-- The slots of a circle that hold its items.
use Rattle.std.proofs.Common.{◌≡◌, ℕ, ◌+◌, ◌-◌, ◌<◌, ◌≤◌, ◌⊎◌, List, [], ◌∷◌, ◌++◌, length, get_or, slice_get, Some, None, drop, set, ap, ◌∙◌, inl, inr, mod-eq_of_lt, arith, length-drop, get_or-drop}
use native.Mathlib.Nat.{mod-eq-sub-mod}
use Rattle.std.proofs.lemmas.List.{same_lists}
use Rattle.std.proofs.lemmas.Option.{slice_get-get_or, slice_get_past}
use Rattle.std.proofs.lemmas.Bool.{cases_lt}
use Rattle.std.proofs.lemmas.Grind.{common_steps}
use Rattle.queue.specs.Circle.{place, window}

-- an item lies behind the slots before the first, or once round
pub place_is : (n k i : ℕ) → k ≤ n → i < n → ((i < n - k) × (place n k i ≡ k + i)) ⊎ ((n - k ≤ i) × (place n k i ≡ i - (n - k)))
place_is n k i start held = elim (cases_lt i (n - k)) [
  | inl low ↦ inl (low, mod-eq_of_lt (omega arith))
  | inr high ↦ inr (high, mod-eq-sub-mod (omega arith) ∙ mod-eq_of_lt (omega arith) ∙ omega arith)
]

module _ {T : Type 0} (N k n : ℕ) (xs : List T) (start : k ≤ N) (fits : n ≤ N) (slots : length xs ≡ N) where
  pub length_window : length (window k n xs) ≡ n
  length_window = grind (arith, common_steps)

  pub get_or_window : (i : ℕ) (d : T) → i < n → get_or (window k n xs) i d ≡ get_or xs (place N k i) d
  get_or_window i d held = grind (arith, common_steps, place_is N k i start (omega arith))

  -- as an `Option`: an item, and what lies past the last
  pub got_window : (i : ℕ) (d : T) → i < n → slice_get (window k n xs) i ≡ Some (get_or xs (place N k i) d)
  got_window i d held = slice_get-get_or _ i d (rw length_window held) ∙ ap Some (get_or_window i d held)

  pub got_beyond : (i : ℕ) → n ≤ i → slice_get (window k n xs) i ≡ None
  got_beyond i beyond = slice_get_past _ i (rw length_window beyond)

-- A second block, since these use the lemmas above at other windows. Two lists are compared item by item.
module _ {T : Type 0} (N k n : ℕ) (xs : List T) (start : k ≤ N) (fits : n ≤ N) (slots : length xs ≡ N) where
  -- a write behind the last item adds it at the end
  pub window_after_push : (x : T) → n < N → window k (n + 1) (set xs (place N k n) x) ≡ window k n xs ++ x ∷ []
  window_after_push x room =
      let ys = set xs (place N k n) x in
      let length_ys : length ys ≡ N = grind (arith, common_steps) in
      same_lists _ _ (grind (arith, common_steps)) (λ i d held. grind (
        arith,
        common_steps,
        length_window N k n xs start fits slots,
        place_is N k n start room,
        place_is N k i start,
        get_or_window N k n xs start fits slots i d,
        get_or_window N k (n + 1) ys start (omega arith) length_ys i d,
      ))

  -- without its first item, the window begins behind it
  pub window_after_drop : 0 < n → window (place N k 0 + 1) (n - 1) xs ≡ drop 1 (window k n xs)
  window_after_drop held =
      let within : place N k 0 + 1 ≤ N = grind (arith, place_is N k 0 start (omega arith)) in
      let length_old = length_window N k n xs start fits slots in
      let length_new = length_window N (place N k 0 + 1) (n - 1) xs within (omega arith) slots in
      same_lists _ _ (simp length-drop (omega arith)) (λ i d inside. grind (
        arith,
        place_is N k 0 start (omega arith),
        place_is N k (1 + i) start,
        place_is N (place N k 0 + 1) i within,
        get_or-drop 1 (window k n xs) i d,
        get_or_window N k n xs start fits slots (1 + i) d,
        get_or_window N _ (n - 1) xs within (omega arith) slots i d,
      ))
