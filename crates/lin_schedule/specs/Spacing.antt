-- How far apart the slots of a frame are in a schedule table (ISO 17987-3, schedule tables).
use Rattle.std.specs.Prelude.{◌≡◌, ℕ, zero, suc, ◌+◌, ◌<◌, ◌≤◌, min, max, if◌then◌else◌, Bool, true, false}
use Rattle.std.specs.Prelude.{List, [], ◌∷◌, ◌++◌, length, count_by, slice_index_or, All}
use Rattle.std.specs.Prelude.{Option, None, Some, IfSome, MatchOption}
use Rattle.lin_parts.specs.declared.parts.Parts.{Parts}
use Rattle.lin_parts.specs.declared.parts.Line.{Line}
use Rattle.lin_parts.specs.declared.parts.Entry.{Entry}
use Rattle.lin_parts.specs.declared.parts.Entry.TheVariants.{Event}
use Rattle.lin_parts.specs.Cluster.{line_of, table_of}
use Rattle.lin_parts.specs.Rules.{IsEntry}
use Rattle.lin_schedule.specs.Ahead.{resolving_lines}
use Rattle.lin_schedule.specs.Carriers.{can_collide}
use Rattle.lin_schedule.specs.Occurs.{is_own, own_entries}
use Rattle.lin_schedule.specs.Rounds.{back_from}
use Rattle.lin_schedule.specs.Walk.{Passed, walk, IsUndisturbed, walk_time}
use Rattle.lin_schedule.specs.declared.spacing.Extremes.{Extremes}
use Rattle.lin_schedule.specs.declared.spacing.Stretch.{Stretch}
use Rattle.lin_schedule.specs.declared.spacing.OwnSlots.{OwnSlots}
use Rattle.lin_schedule.specs.declared.spacing.Walked.{Walked}

-- a table has no entry of the frame's own
abbrev pub HasNoOwn : Parts → ℕ → ℕ → Type 0
HasNoOwn c t f = own_entries c t f ≡ 0

-- a main slot of the frame's own
abbrev pub IsOwnSlot : Parts → ℕ → ℕ → ℕ → Type 0
IsOwnSlot c t f own = (own < length (table_of c t)) × (is_own f (line_of c t own).entry ≡ true)

-- how many slots of a walk are the frame's own
abbrev pub own_in : ℕ → List Passed → ℕ
own_in f slots = count_by (λ slot. is_own f slot.line.entry) slots

-- in a walk of the table, so much time is from the start of a slot of the frame's own to that of the
-- next one
pub record IsGap (c : Parts) (t f time : ℕ) : Type 0 where
  pub collisions : List Bool
  pub next : Passed
  pub between : List Passed
  pub former : Passed
  pub earlier : List Passed
  pub is : walk c t collisions ≡ next ∷ (between ++ former ∷ earlier)
  pub undisturbed : IsUndisturbed c (walk c t collisions)
  pub next_own : is_own f next.line.entry ≡ true
  pub former_own : is_own f former.line.entry ≡ true
  pub none_between : own_in f between ≡ 0
  pub passed : time ≡ walk_time (between ++ former ∷ [])

-- the shortest and the longest of these times
pub record AreGaps (c : Parts) (t f shortest longest : ℕ) : Type 0 where
  pub shortest_met : IsGap c t f shortest
  pub longest_met : IsGap c t f longest
  pub bounds : (time : ℕ) → IsGap c t f time → (shortest ≤ time) × (time ≤ longest)

-- ---- slots in turn

abbrev pub pair : ℕ → ℕ → Extremes
pair shortest longest = record { shortest = shortest; longest = longest }

-- one time
abbrev pub one : ℕ → Extremes
one time = pair time time

-- these times too
abbrev pub with_gap : Option Extremes → Extremes → Option Extremes
with_gap None times = Some times
with_gap (Some gaps) times =
    Some (pair (min gaps.shortest times.shortest) (max gaps.longest times.longest))

abbrev pub extremes : List ℕ → Option Extremes
extremes [] = None
extremes (time ∷ times) = with_gap (extremes times) (one time)

-- from the start of the slots of these lines to that of the next one of the frame's own, where so
-- much is between their end and the next one
abbrev pub next_from : ℕ → List Line → ℕ → ℕ
next_from f [] after = after
next_from f (line ∷ lines) after =
    if is_own f line.entry then 0 else line.delay_us + next_from f lines after

-- from the start of each of the frame's own to that of the next one
abbrev pub gaps_in : ℕ → List Line → ℕ → List ℕ
gaps_in f [] after = []
gaps_in f (line ∷ lines) after =
    if is_own f line.entry
    then (line.delay_us + next_from f lines after) ∷ gaps_in f lines after
    else gaps_in f lines after

-- the same by what is kept of these lines
abbrev pub next_by : ℕ → Option OwnSlots → ℕ → ℕ
next_by total None after = total + after
next_by total (Some own) after = own.before

abbrev pub gaps_by : Option OwnSlots → ℕ → Option Extremes
gaps_by None after = None
gaps_by (Some own) after = with_gap own.gaps (one (own.after + after))

pub record IsStretch (f : ℕ) (lines : List Line) (total : ℕ) (own : Option OwnSlots) : Type 0 where
  pub next : (after : ℕ) → next_from f lines after ≡ next_by total own after
  pub gaps : (after : ℕ) → extremes (gaps_in f lines after) ≡ gaps_by own after

-- one more slot, in front of slots that last so long
abbrev pub own_added : Option OwnSlots → ℕ → ℕ → Bool → Option OwnSlots
own_added None total delay false = None
own_added None total delay true =
    Some (record { before = 0; after = total + delay; gaps = None })
own_added (Some own) total delay false =
    Some (record { before = own.before + delay; after = own.after; gaps = own.gaps })
own_added (Some own) total delay true =
    Some
    (record {
      before = 0;
      after = own.after;
      gaps = with_gap own.gaps (one (own.before + delay));
    })

-- the slots that may follow an entry's slot
abbrev pub IsStretchOf : Parts → ℕ → Entry → Option Stretch → Type 0
IsStretchOf c f entry stretch =
    MatchOption stretch (can_collide c entry ≡ false)
    (λ s. (can_collide c entry ≡ true) × IsStretch f (resolving_lines c entry) s.total s.own)

-- those of all event-triggered frames, by their numbers
pub record AreStretches (c : Parts) (f : ℕ) (stretches : List (Option Stretch)) : Type 0 where
  pub number : length stretches ≡ length c.events
  pub each : (e : ℕ) → e < length stretches
      → IsStretchOf c f (Event e) (slice_index_or stretches e None)

-- and this is an entry of the cluster
abbrev pub HasStretches : Parts → ℕ → List (Option Stretch) → Entry → Type 0
HasStretches c f stretches entry = AreStretches c f stretches × IsEntry c entry

-- own slots inside slots that last so long
abbrev pub AreInside : ℕ → OwnSlots → Type 0
AreInside total own = (own.before ≤ total) × (own.after ≤ total)

abbrev pub HasItsOwn : Stretch → Type 0
HasItsOwn stretch = IfSome stretch.own (AreInside stretch.total)

-- slots of at most 1,024 delays
pub record IsBrief (stretch : Stretch) : Type 0 where
  pub few : stretch.total ≤ 1024000000000
  pub own : HasItsOwn stretch

abbrev pub AreBrief : List (Option Stretch) → Type 0
AreBrief stretches = All (λ stretch. IfSome stretch IsBrief) stretches

-- ---- main slots

-- the shorter, and the longer way from the start of a main slot to that of the next one of the
-- frame's own, where so much is between the start of the main slot behind it and the next own one
abbrev pub least_of : Parts → ℕ → Line → ℕ → ℕ
least_of c f line after =
    if is_own f line.entry then 0
    else line.delay_us
    + (if can_collide c line.entry
    then min after (next_from f (resolving_lines c line.entry) after)
    else after)

abbrev pub most_of : Parts → ℕ → Line → ℕ → ℕ
most_of c f line after =
    if is_own f line.entry then 0
    else line.delay_us
    + (if can_collide c line.entry
    then max after (next_from f (resolving_lines c line.entry) after)
    else after)

-- gaps with the shortest of some and the longest of others too
abbrev pub spread : Option Extremes → Option Extremes → Option Extremes → Option Extremes
spread gaps (Some low) (Some high) = with_gap gaps (pair low.shortest high.longest)
spread gaps (Some low) None = gaps
spread gaps None high = gaps

-- gaps with those from a main slot, and from the slots of the resolving table behind it
abbrev pub gaps_of : Parts → ℕ → Line → ℕ → ℕ → Option Extremes → Option Extremes
gaps_of c f line least most gaps =
    if is_own f line.entry then with_gap gaps (pair (line.delay_us + least) (line.delay_us + most))
    else if can_collide c line.entry
    then spread gaps (extremes (gaps_in f (resolving_lines c line.entry) least))
    (extremes (gaps_in f (resolving_lines c line.entry) most))
    else gaps

-- the gaps so far with those from one main slot more before them
abbrev pub gaps_before : Parts → ℕ → Line → Walked → Option Extremes
gaps_before c f line walked =
    gaps_of c f line walked.next.shortest walked.next.longest walked.gaps

-- the line of the main slot that is b slots before a main slot
abbrev pub line_before : Parts → ℕ → ℕ → ℕ → Line
line_before c t own b = line_of c t (back_from (length (table_of c t)) own b)

-- from there to the next slot of the frame's own, where the main slot `own` is one
abbrev pub least_before : Parts → ℕ → ℕ → ℕ → ℕ → ℕ
least_before c t f own zero = 0
least_before c t f own (suc b) =
    least_of c f (line_before c t own (suc b)) (least_before c t f own b)

abbrev pub most_before : Parts → ℕ → ℕ → ℕ → ℕ → ℕ
most_before c t f own zero = 0
most_before c t f own (suc b) =
    most_of c f (line_before c t own (suc b)) (most_before c t f own b)

-- the gaps from the b main slots before it
abbrev pub gaps_after : Parts → ℕ → ℕ → ℕ → ℕ → Option Extremes
gaps_after c t f own zero = None
gaps_after c t f own (suc b) =
    gaps_of c f (line_before c t own (suc b)) (least_before c t f own b) (most_before c t f own b)
    (gaps_after c t f own b)
