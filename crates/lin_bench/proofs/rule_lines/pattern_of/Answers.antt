use Rattle.std.proofs.Common.{◌≡◌, ◌∙◌, ℕ, Bool, true, false, List, [], ◌∷◌, ◌++◌, Option, Some, None, option_map, refl, sym, ap}
use Rattle.lin_bench.specs.Parts.{fields_of}
use Rattle.lin_bench.specs.RuleLines.{AddsRow, has_star, all_parts, pattern_byte, pattern_of, row_of_pairs, without_star}
use Rattle.lin_bench.proofs.FieldParts.{before-is, last-is}
use Rattle.lin_bench.proofs.Rows.{is-whole, not-added}
use Rattle.lin_bench.proofs.rule_lines.pattern_of.Goals as goal

-- a pattern by its last field and those before it
by-last : (before : List (List ℕ)) (last : List ℕ)
    → pattern_of (before ++ last ∷ [])
    ≡ option_map (λ bytes. record { bytes = bytes; more = has_star last }) (all_parts (row_of_pairs pattern_byte) (before ++ without_star last ∷ []))
by-last [] last = refl
by-last (f ∷ before) last = rw (last-is (f ∷ before) last, before-is (f ∷ before) last) refl

found : (fs before : List (List ℕ)) (last f : List ℕ) (more was : Bool) (start new : List (Option ℕ)) → fs ≡ before ++ last ∷ []
    → f ≡ without_star last → more ≡ has_star last → was ≡ true → start ≡ []
    → AddsRow (all_parts (row_of_pairs pattern_byte) (before ++ f ∷ [])) start was new
    → Some (record { bytes = new; more = more }) ≡ pattern_of fs
found fs before last f more was start new is row star passed none adds =
    let whole = is-whole (all_parts (row_of_pairs pattern_byte) (before ++ f ∷ [])) new (rw (passed, none) at adds) in
    sym (ap pattern_of is ∙ by-last before last ∙ rw (← row, whole, star) refl)

not-found : (fs before : List (List ℕ)) (last f : List ℕ) (was : Bool) (start new : List (Option ℕ)) → fs ≡ before ++ last ∷ []
    → f ≡ without_star last → was ≡ false
    → AddsRow (all_parts (row_of_pairs pattern_byte) (before ++ f ∷ [])) start was new
    → None ≡ pattern_of fs
not-found fs before last f was start new is row failed adds =
    let none = not-added (all_parts (row_of_pairs pattern_byte) (before ++ f ∷ [])) start new (rw failed at adds) in
    sym (ap pattern_of is ∙ by-last before last ∙ rw (← row, none) refl)

pub returns-then-not-branch : goal.returns-then-not-branch
returns-then-not-branch c =
    not-found (fields_of c.args.fields) (fields_of c.in-Some.before) c.in-Some.last.now c.without_star-more.result.0.now c.in_ok-add_fields.field-0 c.new-bytes.result.items c.add_fields.new.bytes.items
    c.in-Some.ensures c.without_star-more.ensures.before c.if-not-branch.true c.in_ok-add_fields.ensures

pub returns : goal.returns
returns c =
    let e = found (fields_of c.args.fields) (fields_of c.in-Some.before) c.in-Some.last.now c.without_star-more.result.0.now c.without_star-more.result.1 c.in_ok-add_fields.field-0 c.new-bytes.result.items
    c.add_fields.new.bytes.items c.in-Some.ensures
    c.without_star-more.ensures.before c.without_star-more.ensures.more c.if-not-branch.false c.new-bytes.ensures.items c.in_ok-add_fields.ensures in
    rw c.new.ensures e
