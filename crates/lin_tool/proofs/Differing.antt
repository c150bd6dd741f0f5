-- The findings of an LDF that is to be compared, and the differences that are listed.
use Rattle.std.proofs.Common.{◌≡◌, ◌≢◌, ◌==◌, ℕ, List, length, true, false, Option, Result, ap, sym, subst, ◌∙◌}
use Rattle.std.specs.List.{list_any}
use Rattle.std.proofs.lemmas.Bool.{eqb-true, eqb-false}
use Rattle.lin_ldf.specs.Describes.{Describes}
use Rattle.lin_parts.specs.declared.description.Description.{Description}
use Rattle.lin_cluster.specs.Findings.{AreFindings, IsFree}
use Rattle.lin_cluster.specs.declared.finding.Finding.{Finding}
use Rattle.lin_cluster.proofs.CheckedDescriptions.{free-from-none, some-found}
use Rattle.lin_cluster.proofs.FindingsOrder.{one_answer}
use Rattle.lin_sections.specs.ListedDifferences.{lists_class}
use Rattle.lin_sections.specs.declared.diff.difference_lines.Classes.{Classes}
use Rattle.lin_field.specs.declared.normalizing.Normalized.{Normalized}
use Rattle.lin_sections.specs.Differences.{all_differences, difference_data, differences_data, DifferenceData}
use Rattle.lin_sections.specs.NewNames.{no_renames}
use Rattle.lin_sections.specs.Renames.{all_renames}
use Rattle.lin_sections.specs.Things.{all_things, ComparedData}
use Rattle.lin_sections.specs.declared.diff.fact.Thing.{Thing}
use Rattle.lin_sections.specs.declared.diff.difference.Difference.{Difference}
use Rattle.lin_sections.proofs.FactSteps.{any-of-map}
use Rattle.lin_tool.specs.Clusters.{AreTextFindings}
use Rattle.lin_tool.specs.Diffing.{differences_of, is_any_listed, FieldFaults, WritesCompared}
use Rattle.lin_tool.specs.Field.{CheckFaults, IsNormalized}
use Rattle.lin_tool.specs.declared.fault.Fault.{Fault}
use Rattle.lin_tool.specs.declared.fault.Fault.TheVariants.{Remarks, OutOfMemory}

-- a description of which the list of findings is empty
pub nothing-found : (d : Description) (found shown : List Finding) → AreFindings d found → shown ≡ found → (length shown == 0) ≡ true → IsFree d
nothing-found d found shown are same empty =
    free-from-none d found are (subst (λ (fs : List Finding). length fs ≡ 0) same (eqb-true (length shown) 0 empty))

-- and one of which it isn't
pub all-found : (text : List ℕ) (d : Description) (found shown : List Finding) → Describes text d → AreFindings d found → shown ≡ found → (length shown == 0) ≡ false
    → AreTextFindings text found
all-found text d found shown described are same some =
    let full : length found ≢ 0 = subst (λ (fs : List Finding). length fs ≢ 0) same (eqb-false (length shown) 0 some) in
    record {
      description = d;
      described = described;
      all = (are, some-found d found are full, λ other is. one_answer d other found is are);
    }

-- what is wrong with what an LDF is normalized to is why `--field` doesn't accept it
pub unchecked : (fault : Fault) (text : List ℕ) (s : Normalized) → IsNormalized text s → CheckFaults fault s → FieldFaults fault text
unchecked (Remarks found) text s settled h = (s, settled, h)
unchecked OutOfMemory text s settled h = tt
unchecked _ text s settled h = absurd h

-- a difference of these classes is in the list exactly if it is among its data
pub any-listed : (classes : Classes) (ds : List Difference) → list_any (λ d. lists_class classes d.class) ds ≡ is_any_listed classes (differences_data ds)
any-listed classes ds = sym (any-of-map difference_data (λ d. lists_class classes d.class) ds)

-- the differences between the things of two LDFs are those between the LDFs
pub compared-of : (o n a b : ComparedData) (xs ys : List (List Thing)) (ds : List DifferenceData) → a ≡ o → b ≡ n → xs ≡ all_things a (all_renames a b) → ys ≡ all_things b no_renames
    → ds ≡ all_differences xs ys → ds ≡ differences_of o n
compared-of o n a b xs ys ds old new olds news is =
    is
    ∙ ap (λ (l : List (List Thing)). all_differences l ys) (olds ∙ (λ j. all_things (old j) (all_renames (old j) (new j))))
    ∙ ap (λ (l : List (List Thing)). all_differences (all_things o (all_renames o n)) l) (news ∙ ap (λ (d : ComparedData). all_things d no_renames) new)

pub written-of : (f g : List ℕ) (classes : Classes) (ds es : List DifferenceData) (r : Result Unit Fault) (old new : Option (List ℕ)) → ds ≡ es
    → WritesCompared f g classes ds r old new → WritesCompared f g classes es r old new
written-of f g classes ds es r old new same h = subst (λ (l : List DifferenceData). WritesCompared f g classes l r old new) same h
