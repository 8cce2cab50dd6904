-- The seven rules of a look, and a dropped cable.
use Rattle.std.specs.Prelude.{◌≡◌, ℕ, ◌+◌, ◌-◌, ◌≤◌, Bool, true, false, cond, not, ◌&&◌, ◌||◌, List, [], ◌∷◌, ◌++◌, is_some, Some, None, ◌==◌, ◌≢◌, nat_le, nat_lt}
use Rattle.cell.specs.declared.cells.Cell.{Cell}
use Rattle.cell.specs.declared.cells.Tag.{Tag}
use Rattle.cell.specs.declared.cells.Tag.TheVariants.{Data, Command}
use Rattle.cell.specs.declared.lines.HostLines.{HostLines}
use Rattle.cell.specs.declared.lines.PeriphLines.{PeriphLines}
use Rattle.cell.specs.declared.lines.Answer.{Answer}
use Rattle.cell.specs.Cells.{level_of, tag_at}
use Rattle.cell.specs.Reading.{mark, repeats, moved, gained, reached}
use Rattle.inserter.specs.declared.front.Front.{Front}
use Rattle.inserter.specs.declared.front.Way.{Way}
use Rattle.inserter.specs.declared.front.Way.TheVariants.{Forward, Reverse}
use Rattle.inserter.specs.declared.front.Rule.{Rule}
use Rattle.inserter.specs.declared.front.Rule.TheVariants.{TurnForward, TurnReverse, Acknowledge, Take, Show, Release, Withdraw, Rest}
use Rattle.inserter.specs.Meaning.{Meaning, any, lines_of, answer_of, resting}

-- the cell that the host shows: the byte, tagged by HostAck
abbrev pub shown_cell : HostLines → ℕ → Cell
shown_cell h b = record { byte = b; tag = tag_at h.ack }

-- commands fit; data fits on a channel above 7, or where its repeats are at most the free places
abbrev pub fits_as : Tag → Meaning → Bool
fits_as Command m = true
fits_as Data m = nat_lt 7 m.cursor.channel || nat_le (repeats m.cursor.count) (m.free m.cursor.channel)

abbrev pub fits : Meaning → HostLines → Bool
fits m h = fits_as (tag_at h.ack) m

abbrev pub forward : Way → Bool
forward Forward = true
forward Reverse = false

abbrev pub reverse : Way → Bool
reverse w = not (forward w)

-- the first rule that applies
abbrev pub rule_of : Meaning → HostLines → Rule
rule_of m h =
    let f = m.front in
    cond (reverse f.way && h.nreverse) TurnForward
    (cond (forward f.way && (not h.nreverse && (h.clk && not f.ack))) TurnReverse
    (cond (forward f.way && (not h.clk && (not f.ack && fits m h))) Acknowledge
    (cond (forward f.way && (h.clk && (f.ack && fits m h))) Take
    (cond (reverse f.way && (not h.ack && (not (is_some f.shown) && any m.offers))) Show
    (cond (reverse f.way && (not f.clk && h.ack)) Release
    (cond (reverse f.way && (is_some f.shown && (f.clk && not h.ack))) Withdraw Rest))))))

-- the first cell goes on show: its byte, PeriphAck as its tag, and PeriphClk falls
abbrev pub showing : List Cell → Front → Front
showing [] f = f
showing (c ∷ cs) f = record { shown = Some c; way = f.way; clk = false; ack = level_of c.tag; nackreverse = f.nackreverse; patience = f.patience }

-- with patience 0 PeriphAck rises and patience becomes the delay; otherwise patience falls by 1
abbrev pub acknowledging : ℕ → Front → Front
acknowledging d f =
    cond (f.patience == 0)
    (record { shown = f.shown; way = f.way; clk = f.clk; ack = true; nackreverse = f.nackreverse; patience = d })
    (record { shown = f.shown; way = f.way; clk = f.clk; ack = f.ack; nackreverse = f.nackreverse; patience = f.patience - 1 })

-- what each rule does to the front; d is the delay, os what is on offer
abbrev pub faced : Rule → ℕ → List Cell → Front → Front
faced TurnForward d os f = record { shown = None; way = Forward; clk = true; ack = false; nackreverse = true; patience = f.patience }
faced TurnReverse d os f = record { shown = f.shown; way = Reverse; clk = f.clk; ack = f.ack; nackreverse = false; patience = f.patience }
faced Acknowledge d os f = acknowledging d f
faced Take d os f = record { shown = f.shown; way = f.way; clk = f.clk; ack = false; nackreverse = f.nackreverse; patience = f.patience }
faced Show d os f = showing os f
faced Release d os f = record { shown = f.shown; way = f.way; clk = true; ack = f.ack; nackreverse = f.nackreverse; patience = f.patience }
faced Withdraw d os f = record { shown = None; way = f.way; clk = f.clk; ack = false; nackreverse = f.nackreverse; patience = f.patience }
faced Rest d os f = f

abbrev pub rest_of : List Cell → List Cell
rest_of [] = []
rest_of (c ∷ cs) = cs

abbrev pub takes : Rule → Bool
takes Take = true
takes TurnForward = false
takes TurnReverse = false
takes Acknowledge = false
takes Show = false
takes Release = false
takes Withdraw = false
takes Rest = false

-- the inserter with another front, and nothing else changed but free places, which the make answers for
abbrev pub refaced : (ℕ → ℕ) → Meaning → Front → Meaning
refaced free m f = record { held = m.held; free = free; cursor = m.cursor; offers = m.offers; front = f }

-- what each rule does: a cell that is taken joins the reading, one that leaves is no longer on offer
abbrev pub carried : Rule → ℕ → (ℕ → ℕ) → Cell → Meaning → Meaning
carried TurnForward d free c m = refaced free m (faced TurnForward d m.offers m.front)
carried TurnReverse d free c m = refaced free m (faced TurnReverse d m.offers m.front)
carried Acknowledge d free c m = refaced free m (faced Acknowledge d m.offers m.front)
carried Take d free c m =
    record { held = λ k. m.held k ++ gained m.cursor c k; free = free; cursor = moved m.cursor c; offers = m.offers; front = faced Take d m.offers m.front }
carried Show d free c m = refaced free m (faced Show d m.offers m.front)
carried Release d free c m = refaced free m (faced Release d m.offers m.front)
carried Withdraw d free c m =
    record { held = m.held; free = free; cursor = m.cursor; offers = rest_of m.offers; front = faced Withdraw d m.offers m.front }
carried Rest d free c m = refaced free m (faced Rest d m.offers m.front)

-- whether a look adds bytes: it takes data on one of the eight channels
abbrev pub adds : Meaning → HostLines → Bool
adds m h = takes (rule_of m h) && (h.ack && nat_lt m.cursor.channel 8)

-- how many it adds
abbrev pub adds_many : Meaning → HostLines → ℕ
adds_many m h = cond (adds m h) (repeats m.cursor.count) 0

-- n bytes added to channel c: its free places fall by n, and no other channel's rise, or fall by more than n
pub record Places (c n : ℕ) (free free' : ℕ → ℕ) : Type 0 where
  pub here : free' c + n ≡ free c
  pub no_rise : (k : ℕ) → (k ≢ c) → free' k ≤ free k
  pub no_more : (k : ℕ) → (k ≢ c) → free k ≤ free' k + n

-- a look: all of the meaning afterwards is told, but for free places where bytes are added, which are bounded
pub record Looked (delay : ℕ) (m : Meaning) (h : HostLines) (b : ℕ) (m' : Meaning) (r : Answer) : Type 0 where
  pub state : m' ≡ carried (rule_of m h) delay m'.free (shown_cell h b) m
  pub places : Places m.cursor.channel (adds_many m h) m.free m'.free
  pub answer : r ≡ answer_of m'

-- two looks, one after the other
abbrev pub LookedTwice : ℕ → Meaning → HostLines → ℕ → Meaning → Answer → Answer → Type 0
LookedTwice d m h b m'' r r' = (m' : Meaning) × (Looked d m h b m' r × Looked d m' h b m'' r')

-- a dropped cable: bytes, offers and free places stay
abbrev pub fallen : ℕ → Meaning → Meaning
fallen d m = record { held = m.held; free = m.free; cursor = reached m.cursor (mark ∷ []); offers = m.offers; front = resting d }

pub record Dropped (delay : ℕ) (m m' : Meaning) (r : PeriphLines) : Type 0 where
  pub state : m' ≡ fallen delay m
  pub lines : r ≡ lines_of m'
