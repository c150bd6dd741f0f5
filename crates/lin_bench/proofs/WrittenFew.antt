-- How many lines of a text have fields: at most one more than it has bytes.
use Rattle.std.proofs.Common.{◌≡◌, ◌≤◌, ◌+◌, ◌==◌, ℕ, List, [], ◌∷◌, ◌++◌, Bool, true, false, not, arith, length, Option, Some, None, if◌then◌else◌}
use Rattle.std.specs.List.{slice_split}
use Rattle.std.specs.Str.Lines.{strip_carriage_return}
use Rattle.std.proofs.lemmas.List.{length-map}
use Rattle.std.proofs.lemmas.List.Splits.{length-slice_split}
use Rattle.std.proofs.lemmas.List.Sums.{count_by-le-length}
use Rattle.std.proofs.lemmas.Grind.{common_steps}
use Rattle.lin_bench.specs.Written.{Written, goes_on, is_said, script_lines, without_mark, written_after, written_lines}

abbrev one_if : Option Written → ℕ
one_if None = 0
one_if (Some w) = 1

none-few : (n : ℕ) (l : List ℕ) (ls : List (List ℕ)) (said on : Bool)
    → (length (written_after None (n + 1) ls) ≤ length ls) → (length (written_after (Some (record { number = n; parts = l ∷ [] })) (n + 1) ls) ≤ length ls + 1)
    → length (if not said then written_after None (n + 1) ls
    else if on then written_after (Some (record { number = n; parts = l ∷ [] })) (n + 1) ls
    else record { number = n; parts = l ∷ [] } ∷ written_after None (n + 1) ls) ≤ length ls + 1
none-few n l ls false on h k = omega (arith, h)
none-few n l ls true true h k = k
none-few n l ls true false h k = omega (arith, h)

some-few : (n : ℕ) (w : Written) (ls : List (List ℕ)) (on : Bool)
    → (length (written_after None (n + 1) ls) ≤ length ls) → (length (written_after (Some w) (n + 1) ls) ≤ length ls + 1)
    → length (if on then written_after (Some w) (n + 1) ls else w ∷ written_after None (n + 1) ls) ≤ length ls + 2
some-few n w ls true h k = omega (arith, k)
some-few n w ls false h k = omega (arith, h)

after-few : (o : Option Written) (n : ℕ) (ls : List (List ℕ)) → length (written_after o n ls) ≤ length ls + one_if o
after-few None n [] = omega arith
after-few (Some w) n [] = omega arith
after-few None n (l ∷ ls) =
    let w : Written = record { number = n; parts = l ∷ [] } in
    let h = after-few None (n + 1) ls in
    let k = after-few (Some w) (n + 1) ls in
    let all = none-few n l ls (is_said l) (goes_on l) (omega (arith, h)) k in
    omega (arith, all)
after-few (Some w) n (l ∷ ls) =
    let longer : Written = record w { parts = w.parts ++ l ∷ [] } in
    let h = after-few None (n + 1) ls in
    let k = after-few (Some longer) (n + 1) ls in
    let all = some-few n longer ls (goes_on l) (omega (arith, h)) k in
    omega (arith, all)

shorter : (text : List ℕ) → length (without_mark text) ≤ length text
shorter text = grind (arith, common_steps)

pub written-few : (text : List ℕ) → length (written_lines text) ≤ length text + 1
written-few text =
    let p : ℕ → Bool = λ b. b == 10 in
    let some = after-few None 1 (script_lines text) in
    let mapped = length-map (slice_split p (without_mark text)) strip_carriage_return in
    let split = length-slice_split p (without_mark text) in
    let counted = count_by-le-length p (without_mark text) in
    let short = shorter text in
    omega (arith, some, mapped, split, counted, short)
