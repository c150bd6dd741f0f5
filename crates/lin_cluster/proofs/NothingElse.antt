-- What holds of all findings of a description holds of those of each part; in a sound one all are
-- slots that are too short.
use Rattle.std.proofs.Common.{◌≡◌, List, [], ◌∷◌, ◌++◌, get_or, refl}
use Rattle.std.specs.Prelude.{All}
use Rattle.std.specs.List.{flat_map}
use Rattle.std.proofs.lemmas.List.Elements.{All-nil, All-head, All-same}
use Rattle.lin_cluster.specs.Findings.{IsFree, HasOnlyShortSlots, candidates, beside_ids, in_declarations, in_signal, in_frames, in_frame, in_sporadic, in_event, in_attributes, in_table, in_entry}
use Rattle.lin_cluster.specs.Addresses.{bad_nads, nads_twice}
use Rattle.lin_cluster.specs.Identifiers.{bad_ids, ids_twice}
use Rattle.lin_cluster.specs.Limits.{limits_passed, long_delay, long_table}
use Rattle.lin_cluster.specs.Slots.{short_slot_at, zero_delay}
use Rattle.lin_cluster.specs.UnknownNames.{unknown_entry}
use Rattle.lin_cluster.specs.Tables.{empty_table, no_table}
use Rattle.lin_cluster.specs.declared.finding.Finding.{Finding}
use Rattle.lin_parts.specs.declared.description.Description.{Description}
use Rattle.lin_parts.specs.declared.description.Table.{Table}
use Rattle.lin_cluster.proofs.NothingIn.{IsShort, two-parts, three-parts, four-parts, in-each}

pub record OfEachPart (P : Finding → Type 0) (d : Description) : Type 0 where
  pub signals : All P (flat_map (in_signal d) d.signals)
  pub frames : All P (flat_map (in_frame d) d.frames)
  pub sporadic : All P (flat_map (in_sporadic d) d.sporadic)
  pub events : All P (flat_map (in_event d) d.events)
  pub attributes : All P (flat_map (in_attributes d) d.attributes)
  pub tables : All P (flat_map (in_table d) d.tables)
  pub ids : All P (bad_ids d)
  pub ids_once : All P (ids_twice d)
  pub nads : All P (bad_nads d)
  pub nads_once : All P (nads_twice d)
  pub some_table : All P (no_table d)
  pub limits : All P (limits_passed d)

pub of-each-part : (P : Finding → Type 0) (d : Description) → All P (candidates d) → OfEachPart P d
of-each-part P d all =
    let whole = three-parts P (bad_ids d) (ids_twice d) (beside_ids d) all
    in let last = two-parts P (in_declarations d ++ bad_nads d ++ nads_twice d ++ no_table d) (limits_passed d) whole.2
    in let rest = four-parts P (in_declarations d) (bad_nads d) (nads_twice d) (no_table d) last.0
    in let parts = four-parts P (flat_map (in_signal d) d.signals) (in_frames d) (flat_map (in_attributes d) d.attributes) (flat_map (in_table d) d.tables) rest.0
    in let frames = three-parts P (flat_map (in_frame d) d.frames) (flat_map (in_sporadic d) d.sporadic) (flat_map (in_event d) d.events) parts.1
    in record {
      signals = parts.0;
      frames = frames.0;
      sporadic = frames.1;
      events = frames.2;
      attributes = parts.2;
      tables = parts.3;
      ids = whole.0;
      ids_once = whole.1;
      nads = rest.1;
      nads_once = rest.2;
      some_table = rest.3;
      limits = last.1;
    }

-- nothing else is found than slots that are too short
abbrev pub NothingElse : Description → Type 0
NothingElse d = OfEachPart IsShort d

pub nothing-else : (d : Description) → HasOnlyShortSlots d → NothingElse d
nothing-else d sound = of-each-part IsShort d sound

-- ---- where nothing is found at all

pub free-is-sound : (d : Description) → IsFree d → HasOnlyShortSlots d
free-is-sound d free = All-same IsShort (candidates d) [] free (All-nil IsShort)

never-nil : {X : Type 0} (xs : List X) → All (λ _. ⊥) xs → xs ≡ []
never-nil [] all = refl
never-nil (x ∷ xs) all = absurd (All-head (λ _. ⊥) x xs all)

pub no-short-slots : (d : Description) → IsFree d → All (λ (t : Table). All (λ x. short_slot_at d x ≡ []) t.entries) d.tables
no-short-slots d free k t lt i x in' =
    let Never = λ (f : Finding). ⊥
    in let here = get_or d.tables k t
    in let entry = get_or here.entries i x
    in let whole = of-each-part Never d (All-same Never (candidates d) [] free (All-nil Never))
    in let table = three-parts Never (empty_table here) (long_table here) (flat_map (in_entry d) here.entries) (in-each Never (in_table d) d.tables whole.tables k t lt)
    in let parts = four-parts Never (unknown_entry d entry) (short_slot_at d entry) (zero_delay entry) (long_delay entry) (in-each Never (in_entry d) here.entries table.2 i x in')
    in never-nil (short_slot_at d entry) parts.1
