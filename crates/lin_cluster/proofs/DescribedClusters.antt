-- A description without findings says a cluster, and its numbers fit.
use Rattle.std.proofs.Common.{◌≡◌, ◌<◌, ◌≤◌, ◌+◌, ◌*◌, ◌%◌, ◌^◌, ◌/◌, nat_lt, nat_le, ℕ, true, false, not, ◌&&◌, ◌==◌, List, length, get_or, Option, Some, None, arith}
use Rattle.std.specs.Prelude.{All, IfSome}
use Rattle.std.specs.List.{list_any}
use Rattle.std.proofs.Math.Pow.{pow_mono}
use Rattle.std.proofs.lemmas.Bool.{and_parts, leb-true, ltb-true, ltb-false, eqb-true, or_parts, not-true}
use Rattle.lin_parts.specs.declared.description.Description.{Description}
use Rattle.lin_parts.specs.declared.description.Init.{Init}
use Rattle.lin_parts.specs.declared.description.Init.TheVariants.{Scalar, Array}
use Rattle.lin_parts.specs.declared.description.Number.{Number}
use Rattle.lin_cluster.specs.Described.{described_nad, parts_of}
use Rattle.lin_cluster.specs.Findings.{HasOnlyShortSlots}
use Rattle.lin_cluster.specs.Sizes as sizes
use Rattle.lin_cluster.specs.Fitting.{FitsInitial, FitsSignal, FitsFrame, FitsParts, HasMembers}
use Rattle.lin_parts.specs.Rules.{AreTimes, IsCluster, IsAddress}
use Rattle.lin_cluster.proofs.DescribedErrors.{described-errors}
use Rattle.lin_cluster.proofs.DescribedEvents.{described-sporadic, described-events}
use Rattle.lin_cluster.proofs.DescribedFrames.{described-frames}
use Rattle.lin_cluster.proofs.DescribedIdentifiers.{described-identifiers}
use Rattle.lin_cluster.proofs.DescribedNodes.{good-nad, described-nodes}
use Rattle.lin_cluster.proofs.DescribedSignals.{size_fits, described-signals}
use Rattle.lin_cluster.proofs.DescribedTables.{described-tables}
use Rattle.lin_cluster.proofs.GoodParts.{good-signals, good-frames, good-events, within-limits}
use Rattle.lin_cluster.proofs.KnownNames.{the_signal}
use Rattle.lin_cluster.proofs.NothingIn.{none-has}
use Rattle.lin_cluster.proofs.NothingElse.{NothingElse, nothing-else}

-- ---- numbers that fit

small-power : (k x : ℕ) → k ≤ 16 → x < 2 ^ k → x < 2 ^ 16
small-power k x le lt = let h : 2 ^ k ≤ 2 ^ 16 = pow_mono le in omega arith

small-items : (items : List Number) → not (list_any (λ (n : Number). nat_lt 255 n.value) items) ≡ true → All (λ (n : Number). n.value < 2 ^ 8) items
small-items items e k n lt =
    let few : nat_lt 255 (get_or items k n).value ≡ false = none-has (λ (m : Number). nat_lt 255 m.value) items (not-true (list_any (λ (m : Number). nat_lt 255 m.value) items) e) k n lt
    in let h = ltb-false 255 (get_or items k n).value few
    in omega (arith, h)

fits-initial : (init : Init) (size : ℕ) → size_fits init size ≡ true → sizes.is_good_init size init ≡ true → FitsInitial init
fits-initial (Scalar n) size h e = small-power size n.value (leb-true size 16 (and_parts (nat_le 1 size) (nat_le size 16) h).1) (ltb-true n.value (2 ^ size) e)
fits-initial (Array place items) size h e =
    let parts = and_parts (length items == size / 8) (not (list_any (λ (n : Number). nat_lt 255 n.value) items)) e
    in let count : length items ≡ size / 8 = eqb-true (length items) (size / 8) parts.0
    in let few = leb-true size 64 (and_parts (nat_le 8 size) (nat_le size 64) (and_parts (nat_le 8 size && nat_le size 64) (size % 8 == 0) h).0).1
    in (omega (arith, count, few), small-items items parts.1)

small-size : (init : Init) (size : ℕ) → size_fits init size ≡ true → size ≤ 64
small-size (Scalar n) size h = let few = leb-true size 16 (and_parts (nat_le 1 size) (nat_le size 16) h).1 in omega (arith, few)
small-size (Array place items) size h = leb-true size 64 (and_parts (nat_le 8 size) (nat_le size 64) (and_parts (nat_le 8 size && nat_le size 64) (size % 8 == 0) h).0).1

fits-signals : (d : Description) → NothingElse d → All FitsSignal d.signals
fits-signals d none k s lt =
    let here = get_or d.signals k s
    in let good = good-signals d none k s lt
    in let few = small-size here.init here.size.value good.size
    in record { size = omega (arith, few); initial = fits-initial here.init here.size.value good.size good.init }

fits-frames : (d : Description) → NothingElse d → All FitsFrame d.frames
fits-frames d none k f lt =
    let here = get_or d.frames k f
    in let good = good-frames d none k f lt
    in let few = leb-true here.size.value 8 (and_parts (nat_le 1 here.size.value) (nat_le here.size.value 8) good.size).1
    in record {
      id = omega (arith, good.id);
      size = omega (arith, few);
      offsets = λ i p in'.
          let placed = get_or here.placed i p
          in let s = the_signal d placed
          in let inside = ltb-false (8 * here.size.value) (placed.offset.value + s.size.value) (or_parts (nat_lt (8 * here.size.value) (placed.offset.value + s.size.value)) (sizes.is_array_init s.init && not (placed.offset.value % 8 == 0)) (good.placed i p in').inside).0
          in omega (arith, few, inside);
    }

small-nad : (o : Option ℕ) → IfSome o IsAddress → IfSome o (λ nad. nad < 2 ^ 8)
small-nad None h = tt
small-nad (Some a) h = omega (arith, h.1)

pub numbers-fit : (d : Description) → HasOnlyShortSlots d → FitsParts d
numbers-fit d sound =
    let none = nothing-else d sound
    in let limits = within-limits d none
    in record {
      numbers = record { slaves = limits.slaves; signals = limits.signals; frames = limits.frames; sporadic = limits.sporadic; events = limits.events; tables = limits.tables };
      nads = λ n some few. small-nad (described_nad d n) (good-nad d none n some few);
      signals = fits-signals d none;
      frames = fits-frames d none;
      events = λ k e lt. omega (arith, (good-events d none k e lt).id);
    }

described-times : (d : Description) → NothingElse d → AreTimes (parts_of d)
described-times d none =
    let limits = within-limits d none
    in let speed = and_parts (nat_le 1 d.speed.value) (nat_le d.speed.value 20000) limits.speed
    in record {
      speed = (leb-true 1 d.speed.value speed.0, leb-true d.speed.value 20000 speed.1);
      jitter = limits.jitter;
      base = limits.base;
    }

-- the law: where nothing is found but slots too short, what the description says is a cluster
pub described-cluster : (d : Description) → HasOnlyShortSlots d → HasMembers d → IsCluster (parts_of d)
described-cluster d sound members =
    let none = nothing-else d sound
    in record {
      nodes = described-nodes d none members;
      signals = described-signals d none;
      frames = described-frames d none;
      identifiers = described-identifiers d none;
      sporadic = described-sporadic d none members;
      events = described-events d none members;
      tables = described-tables d none;
      times = described-times d none;
      errors = described-errors d;
      identities = record { each = λ k i lt. absurd (omega (arith, lt)); rising = λ j k i lt there. absurd (omega (arith, there)) };
    }
