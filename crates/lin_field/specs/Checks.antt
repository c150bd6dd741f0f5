-- The check of a text of the field: a slot that is tight and possible is a warning.
use Rattle.std.specs.Prelude.{◌≡◌, ◌≢◌, ◌==◌, ◌&&◌, List, [], ◌++◌, Bool, true, false, not, map}
use Rattle.std.specs.Prelude.{filter, IsPermutation, IsSorted}
use Rattle.std.specs.List.{list_any}
use Rattle.std.specs.declared.cmp.Ordering.{Ordering}
use Rattle.std.specs.Ordering.{bool_cmp, ordering_then}
use Rattle.lin_cluster.specs.Findings.{candidates, finding_cmp, IsFree}
use Rattle.lin_cluster.specs.declared.finding.Finding.{Finding}
use Rattle.lin_parts.specs.declared.description.Description.{Description}
use Rattle.lin_field.specs.Times.{tight_slots}
use Rattle.lin_field.specs.declared.field_check.FieldFault.{FieldFault}
use Rattle.lin_field.specs.declared.field_check.FieldFault.TheVariants.{Remarks, OutOfMemory}
use Rattle.lin_field.specs.declared.field_check.Remark.{Remark}
use Rattle.lin_field.specs.declared.normalizing.Normalized.{Normalized}

abbrev pub same_finding : Finding → Finding → Bool
same_finding a b =
    a.line == b.line && (a.column == b.column
    && (a.number == b.number && a.needed_us == b.needed_us))

-- whether a finding is one of these
abbrev pub is_found : List Finding → Finding → Bool
is_found found f = list_any (same_finding f) found

abbrev pub is_tight : Description → Finding → Bool
is_tight d f = is_found (tight_slots d) f

-- what is wrong: all that is found but tight slots, and where the order of bytes matters
abbrev pub wrong : Normalized → List Finding
wrong s =
    filter (λ f. not (is_tight s.description f)) (candidates s.description) ++ s.byte_order.items

abbrev pub IsFieldFree : Normalized → Type 0
IsFieldFree s = wrong s ≡ []

abbrev pub remark : Bool → Finding → Remark
remark is_warning f = record { finding = f; is_warning = is_warning }

abbrev pub remarks : Normalized → List Remark
remarks s =
    map (remark false) (wrong s)
    ++ map (remark true) (tight_slots s.description ++ s.warnings.items)

-- by place, then by number
abbrev pub remark_cmp : Remark → Remark → Ordering
remark_cmp a b =
    ordering_then (finding_cmp a.finding b.finding) (bool_cmp a.is_warning b.is_warning)

pub record AreRemarks (s : Normalized) (rs : List Remark) : Type 0 where
  pub all : IsPermutation (remarks s) rs
  pub ordered : IsSorted remark_cmp rs

-- why there is no cluster: something is wrong, and this is all that is remarked, which no other list
-- is; out of memory says nothing of the text
abbrev pub IsRefusalOf : Normalized → FieldFault → Type 0
IsRefusalOf s (Remarks rs) =
    AreRemarks s rs × (wrong s ≢ []) × ((other : List Remark) → AreRemarks s other → other ≡ rs)
IsRefusalOf s OutOfMemory = Unit {0}

-- ---- a law

-- where nothing is remarked, nothing is found in what the text is settled to, nothing was settled with
-- a warning, and the order of bytes doesn't matter
abbrev pub SilenceIsFree : Type 0
SilenceIsFree =
    (s : Normalized) → AreRemarks s []
    → IsFree s.description × (s.warnings.items ≡ []) × (s.byte_order.items ≡ [])
