-- What the words of the arguments say, one after the other.
use Rattle.std.specs.Prelude.{ℕ, true, false, cond, List, Some, None, Ok, Err, Option, Result}
use Rattle.std.specs.Option.{unwrap_or}
use Rattle.script.specs.Digits.{eight_digits}
use Rattle.options.specs.declared.Make.{Make}
use Rattle.options.specs.declared.Make.TheVariants as make
use Rattle.options.specs.declared.Options.{Options}
use Rattle.options.specs.declared.Options.TheVariants as options
use Rattle.options.specs.declared.Wrong.{Wrong}
use Rattle.options.specs.declared.Wrong.TheVariants as wrong
use Rattle.options.specs.declared.words.Word.{Word}
use Rattle.options.specs.declared.words.Word.TheVariants as word
use Rattle.options.specs.declared.words.Wants.{Wants}
use Rattle.options.specs.declared.words.Wants.TheVariants as wants
use Rattle.options.specs.declared.said.Said.{Said}
use Rattle.options.specs.Words.{word_of, number_of}

abbrev pub nothing_said : Said
nothing_said = record { make = None; places = None; patch = None; help = false; wants = None }

abbrev pub places_unless_said : ℕ
places_unless_said = 4096

-- what is said once is kept, and may not be said again
abbrev pub once : {T : Type 0} → Option T → Said → Result Said Wrong
once None s = Ok s
once (Some x) s = Err wrong.Twice

abbrev pub with_make : Said → Make → Result Said Wrong
with_make s m = once s.make (record s { make = Some m })

abbrev pub with_places : Said → Option ℕ → Result Said Wrong
with_places s None = Err wrong.Places
with_places s (Some n) = once s.places (record s { places = Some n; wants = None })

abbrev pub with_patch : Said → Option (List ℕ) → Result Said Wrong
with_patch s None = Err wrong.Patch
with_patch s (Some es) = once s.patch (record s { patch = Some es; wants = None })

abbrev pub argument : Said → Word → Result Said Wrong
argument s (word.Make m) = with_make s m
argument s (word.Wants w) = Ok (record s { wants = Some w })
argument s word.Help = Ok (record s { help = true })

abbrev pub argument_if : Said → Option Word → Result Said Wrong
argument_if s None = Err wrong.Word
argument_if s (Some w) = argument s w

abbrev pub heard_as : Option Wants → Said → List ℕ → Result Said Wrong
heard_as None s w = argument_if s (word_of w)
heard_as (Some wants.Places) s w = with_places s (number_of w)
heard_as (Some wants.Patch) s w = with_patch s (eight_digits w)

-- one word more; once help was asked for, the rest does not matter
abbrev pub heard : Said → List ℕ → Result Said Wrong
heard s w = cond s.help (Ok s) (heard_as s.wants s w)

abbrev pub asked : Option Wants → Said → Result Options Wrong
asked (Some wants.Places) s = Err wrong.Places
asked (Some wants.Patch) s = Err wrong.Patch
asked None s = Ok (options.Play (record { make = unwrap_or s.make make.Lanes; places = unwrap_or s.places places_unless_said; patch = s.patch }))

-- what all the words together ask for
abbrev pub options_of : Said → Result Options Wrong
options_of s = cond s.help (Ok options.Help) (asked s.wants s)
