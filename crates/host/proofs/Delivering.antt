-- A caption that has room is taken whole.
use Rattle.std.proofs.Common.{◌≡◌, ℕ, zero, suc, ◌+◌, ◌*◌, ◌<◌, ◌≤◌, false, cond, ◌&&◌, ltb, List, [], ◌∷◌, ◌++◌, length, get_or, take, drop, sym, refl, ap, ◌∙◌, subst, inl, inr, append-nil, arith}
use Rattle.std.proofs.lemmas.List.{take_more, take-append-drop, take_all}
use Rattle.std.proofs.lemmas.List.Elements.{All-take}
use Rattle.std.proofs.lemmas.Bool.Decides.{nat_tests}
use Rattle.std.proofs.lemmas.Bool.{true≢false, cases_lt, lt-ltb, le-ltb, cond-true, cond-false}
use Rattle.cell.specs.declared.cells.Tag.{Tag}
use Rattle.cell.specs.declared.cells.Tag.TheVariants.{Data, Command}
use Rattle.cell.specs.Cells.{level_of}
use Rattle.cell.specs.Reading.{cells, start, repeats, moved_by, gained_by, reached, reading}
use Rattle.inserter.specs.Meaning.{Meaning}
use Rattle.inserter.specs.Rules.{fits_as}
use Rattle.script.specs.Encoding.{text_cells, caption_cells}
use Rattle.script.proofs.Spelling.{on_channel, addresses, spells}
use Rattle.host.specs.declared.play.Played.{Played}
use Rattle.host.specs.Playing.{no_cell, kept_of, kept, Plays}
use Rattle.host.specs.Delivering.{Arrives}
use Rattle.host.proofs.Giving.{adds_kept}
use Rattle.host.proofs.Playing.{kept-++}
use Rattle.host.proofs.Steady.{Stays, steady_channel, text_steady, text_kept}

module _ (c : ℕ) (text : List ℕ) (low : c < 8) (m m' : Meaning) (room : length text ≤ m.free c) where
  -- data at a place of the text's cells has room, since the bytes before it left enough
  module _ (i : ℕ) (h : i < length (text_cells text)) (at : m'.cursor ≡ reached (on_channel c) (cells (take i (text_cells text))))
      (places : m.free c ≤ m'.free c + kept (on_channel c) (take i (text_cells text))) where
    here : m'.cursor.channel ≡ c
    here = ap (λ r. r.channel) at ∙ steady_channel (on_channel c) (take i (text_cells text)) (All-take Stays i (text_cells text) (text_steady text))

    next_kept : (get_or (text_cells text) i no_cell).tag ≡ Data → kept_of m'.cursor (get_or (text_cells text) i no_cell) ≡ repeats m'.cursor.count
    next_kept e = sym (adds_kept m'.cursor (get_or (text_cells text) i no_cell)) ∙ ap (λ t. cond (level_of t && ltb m'.cursor.channel 8) (repeats m'.cursor.count) 0) e ∙ cond-true (ltb m'.cursor.channel 8) _ 0 (lt-ltb m'.cursor.channel 8 (omega (arith, here)))

    enough : (get_or (text_cells text) i no_cell).tag ≡ Data → repeats m'.cursor.count ≤ m'.free c
    enough e =
        let ts = text_cells text in
        let x = get_or (text_cells text) i no_cell in
        let up_to : kept (on_channel c) (take (i + 1) (text_cells text)) ≡ kept (on_channel c) (take i (text_cells text)) + (repeats m'.cursor.count + 0) =
        ap (kept (on_channel c)) (take_more ts i no_cell h) ∙ kept-++ (on_channel c) (take i ts) (x ∷ [])
        ∙ ap (λ r. kept (on_channel c) (take i ts) + (kept_of r x + 0)) (sym at) ∙ ap (λ n. kept (on_channel c) (take i ts) + (n + 0)) (next_kept e) in
        let all : length text ≡ kept (on_channel c) (take (i + 1) (text_cells text)) + kept (reached (on_channel c) (cells (take (i + 1) (text_cells text)))) (drop (i + 1) (text_cells text)) =
        sym (text_kept c text low) ∙ ap (kept (on_channel c)) (sym (take-append-drop (i + 1) ts)) ∙ kept-++ (on_channel c) (take (i + 1) ts) (drop (i + 1) ts) in
        omega arith

    fits_here : (t : Tag) → (get_or (text_cells text) i no_cell).tag ≡ t → fits_as t m' ≡ false → ⊥
    fits_here Command e f = true≢false f
    fits_here Data e f =
        let k : m'.free m'.cursor.channel ≡ m'.free c = ap m'.free here in
        let n = enough e in
        grind (arith, nat_tests)

  -- so no cell of the caption is one that does not fit
  not_stopped : (t : ℕ) → t < length (caption_cells c text) → m'.cursor ≡ reached start (cells (take t (caption_cells c text))) →
      m.free c ≤ m'.free c + kept start (take t (caption_cells c text)) → fits_as (get_or (caption_cells c text) t no_cell).tag m' ≡ false → ⊥
  not_stopped zero h at places f = true≢false f
  not_stopped (suc i) h at places f =
      let ts = text_cells text in
      let a = addresses c low in
      fits_here i (omega arith) (at ∙ ap (λ κ. reached (moved_by start κ) (cells (take i ts))) a)
      (subst (λ n. m.free c ≤ m'.free c + n) (ap (λ κ. length (gained_by start κ 127) + kept (moved_by start κ) (take i ts)) a ∙ omega arith) places)
      (get_or ts i no_cell).tag refl f

module _ (d c : ℕ) (text : List ℕ) (low : c < 8) (m m' : Meaning) (p : Played) (room : length text ≤ m.free c) (plays : Plays d m (caption_cells c text) m' p.taken p.looks) where
  whole : p.taken ≡ length (caption_cells c text)
  whole = elim (cases_lt p.taken (length (caption_cells c text))) [
    | inl l ↦ absurd (not_stopped c text low m m' room p.taken l plays.cursor (plays.places c) (plays.stopped l))
    | inr l ↦ let w = plays.within in omega arith
  ]

  pub arrives : Arrives d c text m m' p
  arrives =
      let cs = caption_cells c text in
      let all : take p.taken (caption_cells c text) ≡ caption_cells c text = take_all p.taken cs (omega (arith, whole)) in
      let s = spells c text low in
      let held : (k : ℕ) → m'.held k ≡ m.held k ++ reading (cells (caption_cells c text)) k = λ k. plays.held k ∙ ap (λ z. m.held k ++ reading (cells z) k) all in
      record {
        room = room;
        here = held c ∙ ap (λ z. m.held c ++ z) s.there;
        elsewhere = λ k ne. held k ∙ ap (λ z. m.held k ++ z) (s.nowhere_else k ne) ∙ append-nil (m.held k);
        offers = plays.offers;
        cursor = plays.cursor ∙ ap (λ z. reached start (cells z)) all ∙ s.ends;
        front = plays.front;
        cells = whole;
        looks = plays.looks ∙ ap (λ n. p.taken * (d + 2) + n) (cond-false (ltb p.taken (length cs)) (d + 1) 0 (le-ltb p.taken (length cs) (omega (arith, whole)))) ∙ omega arith;
      }
