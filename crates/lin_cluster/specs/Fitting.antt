-- When the numbers of a description fit the types of a cluster's parts, as they do where nothing is
-- found.
use Rattle.std.specs.Prelude.{ℕ, ◌<◌, ◌≤◌, ◌^◌, length, All, IfSome}
use Rattle.lin_parts.specs.declared.description.Description.{Description}
use Rattle.lin_parts.specs.declared.description.Frame.{Frame}
use Rattle.lin_parts.specs.declared.description.Init.{Init}
use Rattle.lin_parts.specs.declared.description.Init.TheVariants.{Scalar, Array}
use Rattle.lin_parts.specs.declared.description.Signal.{Signal}
use Rattle.lin_cluster.specs.Described.{described_nad}

abbrev pub FitsInitial : Init → Type 0
FitsInitial (Scalar n) = n.value < 2 ^ 16
FitsInitial (Array place items) = (length items ≤ 8) × All (λ n. n.value < 2 ^ 8) items

pub record FitsSignal (s : Signal) : Type 0 where
  pub size : s.size.value < 2 ^ 8
  pub initial : FitsInitial s.init

pub record FitsFrame (f : Frame) : Type 0 where
  pub id : f.id.value < 64
  pub size : f.size.value < 2 ^ 8
  pub offsets : All (λ p. p.offset.value < 2 ^ 8) f.placed

-- the address of a node, where it has one
abbrev pub FitsNad : Description → ℕ → Type 0
FitsNad d n = IfSome (described_nad d n) (λ nad. nad < 2 ^ 8)

-- how many there are of each kind that is numbered
pub record FitsNumbers (d : Description) : Type 0 where
  pub slaves : length d.slaves ≤ 15
  pub signals : length d.signals ≤ 1024
  pub frames : length d.frames ≤ 60
  pub sporadic : length d.sporadic ≤ 256
  pub events : length d.events ≤ 60
  pub tables : length d.tables ≤ 256

pub record FitsParts (d : Description) : Type 0 where
  pub numbers : FitsNumbers d
  pub nads : (n : ℕ) → 1 ≤ n → n ≤ length d.slaves → FitsNad d n
  pub signals : All FitsSignal d.signals
  pub frames : All FitsFrame d.frames
  pub events : All (λ e. e.id.value < 64) d.events

-- what the grammar's lists of names have: one name at least
pub record HasMembers (d : Description) : Type 0 where
  pub responders : 1 ≤ length d.slaves
  pub sporadic : All (λ s. 1 ≤ length s.members) d.sporadic
  pub events : All (λ e. 1 ≤ length e.members) d.events
