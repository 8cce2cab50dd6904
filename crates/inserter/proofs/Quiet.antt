-- Looks that take no cell.
use Rattle.std.proofs.Common.{◌≡◌, ℕ, false, cond, ◌&&◌, ltb, sym, ap, ◌∙◌, subst, inl, inr, add-zero, arith}
use mathlib.Core.Path.{fun_ext}
use Rattle.std.proofs.lemmas.Bool.{cases_eq}
use Rattle.cell.specs.declared.lines.HostLines.{HostLines}
use Rattle.cell.specs.declared.lines.Answer.{Answer}
use Rattle.cell.specs.Reading.{repeats}
use Rattle.inserter.specs.Meaning.{Meaning}
use Rattle.inserter.specs.Rules.{rule_of, carried, shown_cell, takes, Places, Looked}

-- where nothing is added no free place changes
pub unmoved : (c : ℕ) (free : ℕ → ℕ) → Places c 0 free free
unmoved c free = record { here = add-zero (free c); no_rise = λ k ne. omega arith; no_more = λ k ne. omega arith }

pub same_places : {c : ℕ} {free free' : ℕ → ℕ} → Places c 0 free free' → free' ≡ free
same_places {c} {free} {free'} p =
    fun_ext (λ k. elim (cases_eq k c) [ inl e ↦ subst (λ j. free' j ≡ free j) (sym e) (omega (arith, p.here)) | inr ne ↦ omega (arith, p.no_rise k ne, p.no_more k ne) ])

-- so such a look leaves just one meaning
pub quiet : {d : ℕ} {m : Meaning} {h : HostLines} {b : ℕ} {m' : Meaning} {r : Answer} → Looked d m h b m' r → takes (rule_of m h) ≡ false →
    m' ≡ carried (rule_of m h) d m.free (shown_cell h b) m
quiet {d} {m} {h} {b} {m'} l e =
    l.state
    ∙ ap (λ f. carried (rule_of m h) d f (shown_cell h b) m)
    (same_places (subst (λ t. Places m.cursor.channel (cond (t && (h.ack && ltb m.cursor.channel 8)) (repeats m.cursor.count) 0) m.free m'.free) e l.places))
