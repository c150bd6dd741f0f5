-- What is kept of the table that resolves a collision: sums that stand for its lines.
use Rattle.std.specs.Prelude.{◌≡◌, ℕ, zero, suc, ◌+◌, ◌-◌, ◌*◌, ◌≤◌, max, nat_le, if◌then◌else◌}
use Rattle.std.specs.Prelude.{List, [], ◌∷◌, length, slice_index, slice_index_or, count_by, All, Bool}
use Rattle.std.specs.Prelude.{Option, None, IfSome, MatchOption, true, false, ◌<◌}
use Rattle.lin_parts.specs.declared.parts.Line.{Line}
use Rattle.lin_parts.specs.declared.parts.Entry.{Entry}
use Rattle.lin_parts.specs.declared.parts.Entry.TheVariants.{Event}
use Rattle.lin_parts.specs.declared.parts.Parts.{Parts}
use Rattle.lin_parts.specs.Rules.{IsEntry}
use Rattle.lin_schedule.specs.Ahead.{through, longest_inside, resolving_lines}
use Rattle.lin_schedule.specs.Carriers.{Carriers, carries, can_collide}
use Rattle.lin_schedule.specs.declared.excursion.Excursion.{Excursion}

-- from the start of an excursion to the end of the n-th slot that carries: `ends` has for each slot
-- that carries, the last one first, the time from its end to the excursion's end
abbrev pub through_by : ℕ → List ℕ → ℕ → (ℕ → ℕ) → ℕ
through_by total ends n after =
    if nat_le n (length ends)
    then total - slice_index ends (length ends - n)
    else total + after (n - length ends)

-- the longest time to the end of the n-th slot that carries, where it lies behind the excursion:
-- `starts` has for each slot that carries, the last one first, the time from its start to the
-- excursion's end
abbrev pub longest_open : List ℕ → ℕ → (ℕ → ℕ) → ℕ
longest_open [] n after = 0
longest_open (start ∷ starts) zero after = 0
longest_open (start ∷ starts) (suc n) after =
    max (start + after (suc n)) (longest_open starts n after)

-- the longest wait inside an excursion, where one more slot that carries starts so long before its
-- end
abbrev pub within_from : ℕ → ℕ → List ℕ → ℕ → ℕ
within_from within start ends n =
    if nat_le n (length ends)
    then max within (start - slice_index ends (length ends - n))
    else within

-- sums that stand for these lines, where n carrying slots are waited for
pub record IsExcursion (k : Carriers) (lines : List Line) (n total : ℕ) (ends starts : List ℕ)
    (within : ℕ) : Type 0 where
  pub passes : (m : ℕ) (after : ℕ → ℕ) → after 0 ≡ 0 → 1 ≤ m
      → through k lines m after ≡ through_by total ends m after
  pub longest : (before : ℕ) (after : ℕ → ℕ) → after 0 ≡ 0
      → max (before + through k lines n after) (longest_inside k lines n after)
      ≡ max (before + through k lines n after) (max within (longest_open starts n after))
  pub carriers : length ends ≡ count_by (λ line. carries k line.entry) lines
  pub as_many : length starts ≡ length ends
  pub ends_in : All (λ time. time ≤ total) ends
  pub starts_in : All (λ time. time ≤ total) starts
  pub within_in : within ≤ total
  pub few : total ≤ length lines * 1000000000

-- these sums, as they are kept
abbrev pub IsSummary : Carriers → List Line → ℕ → Excursion → Type 0
IsSummary k lines n x = IsExcursion k lines n x.total x.ends.items x.starts.items x.within

-- one more line in front, with this delay, which carries what is waited for or not
abbrev pub AddsLine : ℕ → Bool → ℕ → Excursion → Excursion → Type 0
AddsLine delay is_carrying n old new =
    (k : Carriers) (line : Line) (lines : List Line) → IsSummary k lines n old
    → line.delay_us ≡ delay → carries k line.entry ≡ is_carrying → IsSummary k (line ∷ lines) n new

-- sums of which no one is above their total, of at most 1,024 delays
pub record HasSmallSums (x : Excursion) : Type 0 where
  pub few : x.total ≤ 1024000000000
  pub ends : All (λ time. time ≤ x.total) x.ends.items
  pub starts : All (λ time. time ≤ x.total) x.starts.items
  pub within : x.within ≤ x.total

abbrev pub HaveSmallSums : List (Option Excursion) → Type 0
HaveSmallSums xs = All (λ x. IfSome x HasSmallSums) xs

-- the excursion that an entry's slot may begin
abbrev pub IsExcursionOf : Parts → Carriers → ℕ → Entry → Option Excursion → Type 0
IsExcursionOf c k n entry x =
    MatchOption x (can_collide c entry ≡ false)
    (λ sums. (can_collide c entry ≡ true) × IsSummary k (resolving_lines c entry) n sums)

-- the excursions of all event-triggered frames, by their numbers
pub record AreExcursions (c : Parts) (k : Carriers) (n : ℕ)
    (xs : List (Option Excursion)) : Type 0 where
  pub number : length xs ≡ length c.events
  pub each : (e : ℕ) → e < length xs → IsExcursionOf c k n (Event e) (slice_index_or xs e None)

-- and this is an entry of the cluster
abbrev pub HasExcursions : Parts → Carriers → ℕ → List (Option Excursion) → Entry → Type 0
HasExcursions c k n xs entry = AreExcursions c k n xs × IsEntry c entry
