-- The least of several bounds of a wait.
use Rattle.std.specs.Prelude.{◌≡◌, ℕ, ◌<◌, ◌≤◌, min, List, length, Option, Some, None}
use Rattle.lin_parts.specs.declared.parts.Parts.{Parts}
use Rattle.lin_schedule.specs.Carriers.{carriers_of_frames, carriers_of_sporadic, rank}
use Rattle.lin_schedule.specs.Walk.{IsLongestWait}

-- a time after which one of these frames has gone, where no frame above it in rank goes twice
-- before it: the longest wait for one, and for so many slots of a sporadic frame as is the rank of
-- the first of them in it (ISO 17987-3, sporadic frames)
pub data IsBound (c : Parts) (t : ℕ) (frames : List ℕ) (time : ℕ) : Type 0 where
  sure : IsLongestWait c t (carriers_of_frames c frames) 1 time → IsBound c t frames time
  ranked : (s r : ℕ) → s < length c.sporadic → rank c frames s ≡ Some r
      → IsLongestWait c t (carriers_of_sporadic s) r time → IsBound c t frames time

-- the least of these times, or none where there is none
abbrev pub IsLeastBound : Parts → ℕ → List ℕ → Option ℕ → Type 0
IsLeastBound c t frames (Some time) =
    IsBound c t frames time × ((other : ℕ) → IsBound c t frames other → time ≤ other)
IsLeastBound c t frames None = (other : ℕ) → IsBound c t frames other → ⊥

-- the lesser of two times that may be missing
abbrev pub lesser : Option ℕ → Option ℕ → Option ℕ
lesser (Some a) (Some b) = Some (min a b)
lesser (Some a) None = Some a
lesser None b = b

-- a time that is at most another
pub record IsWithin (least : Option ℕ) (time : ℕ) : Type 0 where
  pub found : ℕ
  pub is : least ≡ Some found
  pub le : found ≤ time

-- the least of the times for the first sporadic frames
pub record IsLeastOf (c : Parts) (t : ℕ) (frames : List ℕ) (many : ℕ) (least : Option ℕ) : Type 0 where
  pub met : (time : ℕ) → least ≡ Some time → IsBound c t frames time
  pub sure_in : (time : ℕ) → IsLongestWait c t (carriers_of_frames c frames) 1 time
      → IsWithin least time
  pub ranked_in : (s r time : ℕ) → s < many → rank c frames s ≡ Some r
      → IsLongestWait c t (carriers_of_sporadic s) r time → IsWithin least time
