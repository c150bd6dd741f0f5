-- Warnings, and among them what is wrong with encodings, and what is odd in a text.
use Rattle.std.proofs.Common.{◌≡◌, ◌∙◌, refl, sym, ap, append-nil, append_assoc, List, [], ◌++◌, Option, Some, None, IfOk, Result, Ok, Err, true, map, subst}
use Rattle.std.specs.Prelude.{IsPermutation, IsSorted}
use Rattle.std.specs.Option.{option_map_or}
use Rattle.std.proofs.lemmas.List.{map-append}
use Rattle.std.proofs.lemmas.List.Sorted.{IsPermutation-refl, IsPermutation-trans, IsPermutation-map, IsPermutation-append_left, IsPermutation-append_right}
use Rattle.lin_cluster.specs.Lint.{lints}
use Rattle.lin_cluster.specs.declared.finding.Finding.{Finding}
use Rattle.lin_parts.specs.declared.parts.Parts.{Parts}
use Rattle.lin_cluster.specs.declared.lints.configurable.Configurable.{Configurable}
use Rattle.lin_parts.specs.declared.description.Description.{Description}
use Rattle.lin_parts.specs.declared.description.Name.{Name}
use Rattle.lin_field.specs.Checks.{remark, remark_cmp, remarks, AreRemarks}
use Rattle.lin_field.specs.declared.field_check.Remark.{Remark}
use Rattle.lin_field.specs.declared.normalizing.Normalized.{Normalized}
use Rattle.lin_tool.specs.Coding.{codings_kept, codings_told, with_lints, lints_told, reported_findings, unused_told, AreWarnings}
use Rattle.lin_tool.specs.declared.coding.Encodings.{Encodings}
use Rattle.lin_tool.specs.declared.coding.Encodings.TheVariants.{Unread, Read, Told}
use Rattle.lin_values.specs.Unused.{AreUnused}
use Rattle.lin_values.specs.Warnings.{encoding_warnings}
use Rattle.lin_values.specs.declared.codings.Codings.{Codings}

-- findings join warnings, in whatever order they were found
pub joined : (rs all : List Remark) (fs found : List Finding) → IsPermutation fs found → IsPermutation (rs ++ map (remark true) found) all
    → IsPermutation (rs ++ map (remark true) fs) all
joined rs all fs found are h = IsPermutation-trans (rs ++ map (remark true) fs) (rs ++ map (remark true) found) all
    (IsPermutation-append_right rs (map (remark true) fs) (map (remark true) found) (IsPermutation-map (remark true) fs found are)) h

-- what is odd in a description does, and then the encodings that no signal has
pub linted_all : (d : Description) (e : List Name) (cs : List Configurable) (k : Option Codings) (rs odd all : List Remark) (found unused : List Finding)
    → IsPermutation (lints d e cs) found → IsPermutation (rs ++ map (remark true) found) odd
    → IsPermutation (unused_told d k) unused → IsPermutation (odd ++ map (remark true) unused) all
    → IsPermutation (with_lints d e (Some cs) k rs) all
linted_all d e cs k rs odd all found unused are h those g =
    let first : List Remark = map (remark true) (lints d e cs) in
    let second : List Remark = map (remark true) (unused_told d k) in
    let before : IsPermutation (rs ++ first) odd = joined rs odd (lints d e cs) found are h in
    let after : IsPermutation (odd ++ second) all = joined odd all (unused_told d k) unused those g in
    let both : IsPermutation ((rs ++ first) ++ second) all =
    IsPermutation-trans ((rs ++ first) ++ second) (odd ++ second) all (IsPermutation-append_left second (rs ++ first) odd before) after in
    subst (λ xs. IsPermutation xs all)
    (append_assoc rs first second ∙ ap (λ xs. rs ++ xs) (sym (map-append (remark true) (lints d e cs) (unused_told d k)))) both

pub linted_answer : {E : Type 0} (d : Description) (e : List Name) (cs read : List Configurable) (k : Option Codings) (rs odd : List Remark) (found told unused heard : List Finding)
    (r : Result (List Remark) E) → read ≡ cs → IsPermutation (lints d e read) found → told ≡ found → IsPermutation (rs ++ map (remark true) told) odd
    → IsPermutation (unused_told d k) unused → heard ≡ unused → IfOk r (λ all. IsPermutation (odd ++ map (remark true) heard) all)
    → IfOk r (λ all. IsPermutation (with_lints d e (Some cs) k rs) all)
linted_answer d e cs read k rs odd found told unused heard (Ok all) same are is h those also g =
    linted_all d e cs k rs odd all found unused (subst (λ c. IsPermutation (lints d e c) found) same are)
    (subst (λ fs. IsPermutation (rs ++ map (remark true) fs) odd) is h) those (subst (λ fs. IsPermutation (odd ++ map (remark true) fs) all) also g)
linted_answer d e cs read k rs odd found told unused heard (Err failed) same are is h those also g = tt

-- the encodings that no signal has are those that were found
pub unused_found : {A E : Type 0} (f : A → List Finding) (d : Description) (k : Codings) (r : Result A E) → IfOk r (λ v. AreUnused d k (f v))
    → IfOk r (λ v. IsPermutation (unused_told d (Some k)) (f v))
unused_found f d k (Ok v) h = h.all
unused_found f d k (Err e) h = tt

-- what is told of findings doesn't depend on their order
pub told_permuted : (e : Encodings) (fs found : List Finding) → IsPermutation fs found → IsPermutation (reported_findings e fs) (reported_findings e found)
told_permuted Unread fs found are = IsPermutation-refl []
told_permuted Read fs found are = IsPermutation-refl []
told_permuted Told fs found are = are

-- where encodings aren't read, nothing is told of them
none_told : (e : Encodings) → reported_findings e [] ≡ []
none_told Unread = refl
none_told Read = refl
none_told Told = refl

pub untold : (e : Encodings) (c : Parts) (k : Option Codings) (rs : List Remark) → codings_kept e k ≡ None → IsSorted remark_cmp rs
    → AreWarnings e c k rs rs
untold e c k rs nothing ordered = record {
  all = subst (λ (kept : Option Codings). IsPermutation (rs ++ map (remark true) (reported_findings e (option_map_or (encoding_warnings c) kept []))) rs) (sym nothing)
      (subst (λ xs. IsPermutation xs rs) (sym (append-nil rs) ∙ ap (λ fs. rs ++ map (remark true) fs) (sym (none_told e))) (IsPermutation-refl rs));
  ordered = ordered;
}

-- what is wrong with encodings does
pub told : (e : Encodings) (c : Parts) (k : Option Codings) (kept : Codings) (rs all : List Remark) (found : List Finding) → codings_kept e k ≡ Some kept
    → IsPermutation (encoding_warnings c kept) found → IsPermutation (rs ++ map (remark true) (reported_findings e found)) all → IsSorted remark_cmp all
    → AreWarnings e c k rs all
told e c k kept rs all found is are h ordered = record {
  all = subst (λ (ks : Option Codings). IsPermutation (rs ++ map (remark true) (reported_findings e (option_map_or (encoding_warnings c) ks []))) all) (sym is)
      (joined rs all (reported_findings e (encoding_warnings c kept)) (reported_findings e found) (told_permuted e (encoding_warnings c kept) found are) h);
  ordered = ordered;
}

-- and the warnings that it joins may stand in any order
pub reordered : (e : Encodings) (c : Parts) (k : Option Codings) (qs rs warned : List Remark) → IsPermutation qs rs → AreWarnings e c k rs warned
    → AreWarnings e c k qs warned
reordered e c k qs rs warned are h = record {
  all = IsPermutation-trans (qs ++ map (remark true) (codings_told e c k)) (rs ++ map (remark true) (codings_told e c k)) warned
      (IsPermutation-append_left (map (remark true) (codings_told e c k)) qs rs are) h.all;
  ordered = h.ordered;
}

-- what is odd joins warnings in any order
pub linted_behind : (d : Description) (e : List Name) (cs : Option (List Configurable)) (k : Option Codings) (qs rs all : List Remark) → IsPermutation qs rs
    → IsPermutation (with_lints d e cs k rs) all → IsPermutation (with_lints d e cs k qs) all
linted_behind d e cs k qs rs all are h = IsPermutation-trans (with_lints d e cs k qs) (with_lints d e cs k rs) all
    (IsPermutation-append_left (map (remark true) (lints_told d e cs k)) qs rs are) h

-- and the remarks on what a text of the field is settled to, with further ones
pub remarked : (s : Normalized) (cs : Option (List Configurable)) (k : Option Codings) (us rs with_us all : List Remark) → AreRemarks s rs
    → IsPermutation (rs ++ us) with_us → IsPermutation (with_lints s.description s.placed_elsewhere cs k with_us) all
    → IsPermutation (with_lints s.description s.placed_elsewhere cs k (remarks s ++ us)) all
remarked s cs k us rs with_us all are joined h = linted_behind s.description s.placed_elsewhere cs k (remarks s ++ us) with_us all
    (IsPermutation-trans (remarks s ++ us) (rs ++ us) with_us (IsPermutation-append_left us (remarks s) rs are.all) joined) h
