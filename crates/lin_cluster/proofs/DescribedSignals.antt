-- The signals of a description without findings keep the rules of clusters.
use Rattle.std.proofs.Common.{◌≡◌, ◌<◌, ◌*◌, ◌%◌, ◌/◌, ◌==◌, nat_lt, nat_le, ℕ, Bool, true, false, not, ◌&&◌, if◌then◌else◌, List, length, get_or, map, refl, arith}
use Rattle.std.specs.Prelude.{All, IsTrue}
use Rattle.std.specs.List.{list_any}
use Rattle.std.proofs.lemmas.Bool.{and_parts, and_right, eqb-true, eq-eqb}
use Rattle.std.proofs.lemmas.List.{length-map}
use Rattle.std.proofs.lemmas.List.Elements.{All-map}
use Rattle.lin_frame.specs.Bits.{fits_place, has_good_size}
use Rattle.lin_parts.specs.declared.description.Description.{Description}
use Rattle.lin_parts.specs.declared.description.Init.{Init}
use Rattle.lin_parts.specs.declared.description.Init.TheVariants as inits
use Rattle.lin_parts.specs.declared.description.Number.{Number}
use Rattle.lin_parts.specs.Cluster.{nodes}
use Rattle.lin_cluster.specs.Described.{initial_of, described_signal, node_number, parts_of}
use Rattle.lin_cluster.specs.Sizes as sizes
use Rattle.lin_parts.specs.Rules.{AreSignals, is_array, place_at}
use Rattle.lin_parts.specs.declared.parts.Signal.{Signal}
use Rattle.lin_cluster.proofs.GoodParts.{good-signals, within-limits}
use Rattle.lin_cluster.proofs.KnownNames.{nodes-count, node-within}
use Rattle.lin_cluster.proofs.NothingElse.{NothingElse}

arrange : (few many whole at : Bool) → (few && many && whole) ≡ true → not at ≡ false → (at && whole && few && many) ≡ true
arrange true true true true h e = refl
arrange true true true false h e = absurd (cc)
arrange true true false at h e = absurd (cc)
arrange true false whole at h e = absurd (cc)
arrange false many whole at h e = absurd (cc)

-- a place of a good size
abbrev pub size_fits : Init → ℕ → Bool
size_fits init size = if sizes.is_array_init init then nat_le 8 size && nat_le size 64 && size % 8 == 0 else nat_le 1 size && nat_le size 16

pub good-size : (init : Init) (size offset : ℕ) → size_fits init size ≡ true → (sizes.is_array_init init && not (offset % 8 == 0)) ≡ false → has_good_size (record { offset = offset; size = size; array = is_array (initial_of init) }) ≡ true
good-size (inits.Scalar n) size offset h e = h
good-size (inits.Array place items) size offset h e = arrange (nat_le 8 size) (nat_le size 64) (size % 8 == 0) (offset % 8 == 0) h e

good-length : (items : List Number) (size : ℕ) → (length items == size / 8) ≡ true → (size % 8 == 0) ≡ true → (8 * length (map (λ (n : Number). n.value) items) == size) ≡ true
good-length items size count whole =
    let many : length items ≡ size / 8 = eqb-true (length items) (size / 8) count
    in let bytes : size % 8 ≡ 0 = eqb-true (size % 8) 0 whole
    in eq-eqb (8 * length (map (λ (n : Number). n.value) items)) size (omega (arith, length-map items (λ (n : Number). n.value)))

pub good-initial : (init : Init) (size : ℕ) → size_fits init size ≡ true → sizes.is_good_init size init ≡ true → fits_place (record { offset = 0; size = size; array = is_array (initial_of init) }) (initial_of init) ≡ true
good-initial (inits.Scalar n) size h e = e
good-initial (inits.Array place items) size h e =
    let count = and_parts (length items == size / 8) (not (list_any (λ (n : Number). nat_lt 255 n.value) items)) e
    in let whole = and_parts (nat_le 8 size && nat_le size 64) (size % 8 == 0) h
    in good-length items size count.0 whole.1

pub described-signals : (d : Description) → NothingElse d → AreSignals (parts_of d)
described-signals d none =
    let good = good-signals d none
    in record {
      number = omega (arith, (within-limits d none).signals, length-map d.signals (described_signal d));
      publishers = All-map (λ (s : Signal). s.publisher < nodes (parts_of d)) (described_signal d) d.signals
          (λ k s lt. rw (nodes-count d) (node-within d (get_or d.signals k s).publisher (good k s lt).publisher));
      subscribers = All-map (λ (s : Signal). All (λ n. n < nodes (parts_of d)) s.subscribers) (described_signal d) d.signals
          (λ k s lt. let names = (get_or d.signals k s).subscribers in All-map (λ n. n < nodes (parts_of d)) (node_number d) names
          (λ i n in'. rw (nodes-count d) (node-within d (get_or names i n) ((good k s lt).subscribers i n in'))));
      sizes = All-map (λ (s : Signal). IsTrue (has_good_size (place_at 0 s))) (described_signal d) d.signals
          (λ k s lt. let here = get_or d.signals k s in good-size here.init here.size.value 0 (good k s lt).size (and_right (sizes.is_array_init here.init) false refl));
      initials = All-map (λ (s : Signal). IsTrue (fits_place (place_at 0 s) s.initial)) (described_signal d) d.signals
          (λ k s lt. let here = get_or d.signals k s in good-initial here.init here.size.value (good k s lt).size (good k s lt).init);
    }
