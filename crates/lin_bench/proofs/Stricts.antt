-- What a strict play judges of entries.
use Rattle.std.proofs.Common.{◌≡◌, ◌∙◌, ◌≤◌, ◌<◌, ◌+◌, ◌-◌, ℕ, nat_le, Bool, true, false, List, [], ◌∷◌, drop, take, length, refl, sym, ap, arith, slice_index_or, Option, Some, None}
use Rattle.std.specs.Prelude.{◌||◌, find, option_map}
use Rattle.std.specs.List.{list_any}
use Rattle.std.proofs.lemmas.List.{drop-take, drop_all, drop_more, get_or-take, length-drop, length-take, length-take-le, take_all}
use Rattle.std.proofs.lemmas.Grind.{common_steps}
use Rattle.lin_core.specs.declared.log.LogEntry.{LogEntry}
use Rattle.lin_core.specs.declared.reply.Refusal.{Refusal}
use Rattle.lin_bench.specs.Strict.{counted_entries, first_refusal, is_never_due, not_due, refusal_in, strictly, tells_due}
use Rattle.lin_bench.specs.declared.expected.Expected.TheVariants as expected
use Rattle.lin_bench.specs.declared.got.Got.TheVariants as got
use Rattle.lin_bench.specs.declared.got.Judged.{Judged}
use Rattle.lin_bench.specs.declared.got.Judged.TheVariants.{Unmet, NotDue}

-- where something is left, and where nothing is
last-dropped-by : {X : Type 0} (from : ℕ) (xs : List X) (t : Bool) → nat_le (length xs) from ≡ t → drop from (take (length xs - 1) xs) ≡ take (length (drop from xs) - 1) (drop from xs)
last-dropped-by from xs true h =
    let le : length xs ≤ from = grind (arith, common_steps) in
    let few = length-take (length xs - 1) xs in
    let none = drop_all from xs le in
    drop_all from (take (length xs - 1) xs) (omega (arith, few, le)) ∙ sym (ap (λ l. take (length l - 1) l) none)
last-dropped-by from xs false h =
    let lt : from < length xs = grind (arith, common_steps) in
    let n = length-drop from xs in
    let is : length xs - 1 ≡ from + (length (drop from xs) - 1) = omega (arith, n, lt) in
    ap (λ k. drop from (take k xs)) is ∙ drop-take from (length (drop from xs) - 1) xs

-- all but the last of what is left, and what is left of all but the last
pub last-dropped : {X : Type 0} (from : ℕ) (xs : List X) → drop from (take (length xs - 1) xs) ≡ take (length (drop from xs) - 1) (drop from xs)
last-dropped from xs = last-dropped-by from xs (nat_le (length xs) from) refl

pub all-entries : (from : ℕ) (log : List LogEntry) → first_refusal (drop from (take (length log) log)) ≡ first_refusal (drop from log)
all-entries from log = ap (λ l. first_refusal (drop from l)) (take_all (length log) log (omega arith))

-- no step was refused
pub strict-none : (nodes : List ℕ) (is_told : Bool) (es : List LogEntry) (node : Option ℕ) → first_refusal es ≡ None → node ≡ not_due nodes es
    → option_map (λ n. NotDue n) node ≡ strictly nodes is_told es
strict-none nodes is_told es node h e = rw (h, e) refl

-- one was, of those that count or not
pub strict-some : (nodes : List ℕ) (is_told : Bool) (es : List LogEntry) (refusal : Refusal) (why : Option Refusal) → first_refusal es ≡ Some refusal
    → why ≡ first_refusal (counted_entries is_told es) → option_map (λ (w : Refusal). Unmet expected.Done (got.Refused w)) why ≡ strictly nodes is_told es
strict-some nodes is_told es refusal why h e = rw (h, e) refl

pub next-entry : (log : List LogEntry) (i to : ℕ) (e : LogEntry) → e ≡ slice_index_or log i e → i < to → to ≤ length log → drop i (take to log) ≡ e ∷ drop (i + 1) (take to log)
next-entry log i to e is lt le =
    let few = length-take-le to log le in
    drop_more (take to log) i e (omega (arith, few, lt)) ∙ ap (λ x. x ∷ drop (i + 1) (take to log)) (get_or-take to log i e lt ∙ sym is)

-- the entry that comes next was refused, or done
pub refused-next : (log : List LogEntry) (i to : ℕ) (e : LogEntry) (why : Refusal) → e ≡ slice_index_or log i e → i < to → to ≤ length log → refusal_in e.reply ≡ Some why
    → Some why ≡ first_refusal (drop i (take to log))
refused-next log i to e why is lt le h = sym (ap first_refusal (next-entry log i to e is lt le) ∙ rw h refl)

pub done-next : (log : List LogEntry) (i to : ℕ) (e : LogEntry) → e ≡ slice_index_or log i e → i < to → to ≤ length log → refusal_in e.reply ≡ None
    → first_refusal (drop i (take to log)) ≡ first_refusal (drop (i + 1) (take to log))
done-next log i to e is lt le h = ap first_refusal (next-entry log i to e is lt le) ∙ rw h refl

-- the entry that comes next tells that a node is due, or not
due-next : (node : ℕ) (log : List LogEntry) (i : ℕ) (e : LogEntry) → e ≡ slice_index_or log i e → i < length log
    → list_any (tells_due node) (drop i log) ≡ (tells_due node e || list_any (tells_due node) (drop (i + 1) log))
due-next node log i e is lt = ap (list_any (tells_due node)) (drop_more log i e lt ∙ ap (λ x. x ∷ drop (i + 1) log) (sym is))

pub told-next : (node : ℕ) (log : List LogEntry) (i : ℕ) (e : LogEntry) → e ≡ slice_index_or log i e → i < length log → tells_due node e ≡ true
    → list_any (tells_due node) (drop i log) ≡ true
told-next node log i e is lt h = due-next node log i e is lt ∙ rw h refl

pub untold-next : (node : ℕ) (log : List LogEntry) (i : ℕ) (e : LogEntry) → e ≡ slice_index_or log i e → i < length log → tells_due node e ≡ false
    → list_any (tells_due node) (drop (i + 1) log) ≡ list_any (tells_due node) (drop i log)
untold-next node log i e is lt h = sym (due-next node log i e is lt ∙ rw h refl)

-- where a line has entries
pub undue-in : (nodes : List ℕ) (es : List LogEntry) → 0 < length es → find (is_never_due es) nodes ≡ not_due nodes es
undue-in nodes [] h = absurd (omega arith)
undue-in nodes (e ∷ es) h = refl
