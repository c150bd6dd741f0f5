-- The parameters that no line of a script uses, and the files that it includes.
use Rattle.std.proofs.Common.{◌≡◌, ◌≢◌, ◌∙◌, ◌++◌, ◌∷◌, ℕ, zero, suc, Bool, true, false, if◌then◌else◌, List, [], Option, Ordering, Some, None, arith, fold, refl, sym}
use Rattle.std.specs.Borrow.{Bor}
use Rattle.std.specs.Option.{option_map, option_map_or}
use Rattle.std.specs.Cmp.Lexicographic.{slice_cmp}
use Rattle.std.specs.Ordering.{is_lt, nat_cmp}
use Rattle.std.proofs.lemmas.Bool.Decides.{nat_tests}
use Rattle.std.proofs.lemmas.Cmp.{same_from_slice_cmp}
use Rattle.lin_bench.specs.Files.{file_name}
use Rattle.lin_bench.specs.declared.files.ScriptFile.{ScriptFile}
use Rattle.lin_tool.specs.Playing.{ChecksUsed, first_of_names, goes_before, included_file, least_name}
use Rattle.lin_tool.specs.declared.fault.Fault.{Fault}
use Rattle.lin_tool.specs.declared.fault.Fault.TheVariants.{OutOfMemory, UnusedParameter}
use Rattle.std.specs.Prelude.{Err}

-- ---- the order of bytes
pub is-before : (xs ys : List ℕ) (o : Ordering) → o ≡ slice_cmp nat_cmp xs ys → is_lt o ≡ goes_before xs ys
is-before = same_from_slice_cmp nat_cmp is_lt goes_before refl (λ _ _. refl) (λ _ _. refl) (λ x y xs ys o h. grind (arith, nat_tests))

-- ---- the first of these names, where one may be before them
abbrev pub first_after : Option (List ℕ) → List (List ℕ) → Option (List ℕ)
first_after None ns = first_of_names ns
first_after (Some m) ns = Some (fold least_name m ns)

pub first-next : (o : Option (Bor (List ℕ))) (n : List ℕ) (ns : List (List ℕ))
    → first_after (Some (option_map_or (λ (l : Bor (List ℕ)). least_name l.now n) o n)) ns ≡ first_after (option_map (λ (l : Bor (List ℕ)). l.now) o) (n ∷ ns)
first-next None n ns = refl
first-next (Some l) n ns = refl

pub first-end : (o : Option (List ℕ)) → first_after o [] ≡ o
first-end None = refl
first-end (Some m) = refl

-- ---- a script that is alone, or one of several
pub alone-or-not : (b : Bool) (unused : Option (List ℕ)) (fault : Fault) → ChecksUsed (Err fault) (if b then unused else None) → ChecksUsed (Err fault) unused
alone-or-not true unused fault h = h
alone-or-not false unused (UnusedParameter name) h = absurd (cc)
alone-or-not false unused OutOfMemory h = tt
alone-or-not false unused fault h = absurd h

-- ---- the file that a script includes
pub included : (fs : List ScriptFile) (n : ℕ) → n ≢ 0 → Some (file_name [] fs n) ≡ included_file fs n
included fs zero h = absurd (h refl)
included fs (suc i) h = refl
