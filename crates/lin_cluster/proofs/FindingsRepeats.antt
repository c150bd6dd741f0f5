-- The first two of the numbers of one value, with one more number.
use Rattle.std.proofs.Common.{◌≡◌, ℕ, ◌+◌, ◌<◌, Bool, true, false, cond, List, length, take, get_or, Option, Some, sym, ap, refl, ◌∙◌, arith}
use Rattle.std.specs.Prelude.{◌||◌, ◌&&◌, nat_eq, nat_lt, count_by}
use Rattle.std.proofs.lemmas.Bool.Decides.{nat_tests}
use Rattle.std.proofs.lemmas.List.Sums.{count_by_more_no, count_by_more_yes}
use Rattle.lin_cluster.specs.Identifiers.{is_up_to}
use Rattle.lin_cluster.specs.FindingsRepeats.{has_one, has_two, is_use}
use Rattle.lin_cluster.specs.declared.findings.repeats.Uses.{Uses}
use Rattle.lin_parts.specs.declared.description.Number.{Number}

pub same_number : (m n : ℕ) → nat_eq m n ≡ true → m ≡ n
same_number m n h = grind (arith, nat_tests)

or_nothing : (a : Bool) → a ≡ (a || false)
or_nothing true = refl
or_nothing false = refl

and_nothing : (a b : Bool) → a ≡ (a || (b && false))
and_nothing true b = refl
and_nothing false true = refl
and_nothing false false = refl

pub added_one : (b : Bool) (x id : Number) (u : Uses) (here there new : Option Uses) → new ≡ cond b (Some u) here → (b ≡ true → here ≡ there) → is_up_to x u.first ≡ (has_one there x || is_up_to x id) → has_one new x ≡ (has_one here x || (b && is_up_to x id))
added_one true x id u here there new is same first = ap (λ o. has_one o x) is ∙ first ∙ ap (λ o. has_one o x || is_up_to x id) (sym (same refl))
added_one false x id u here there new is same first = ap (λ o. has_one o x) is ∙ or_nothing (has_one here x)

pub added_two : (b : Bool) (x id : Number) (u : Uses) (here there new : Option Uses) → new ≡ cond b (Some u) here → (b ≡ true → here ≡ there) → has_two (Some u) x ≡ (has_two there x || (has_one there x && is_up_to x id)) → has_two new x ≡ (has_two here x || (has_one here x && (b && is_up_to x id)))
added_two true x id u here there new is same second = ap (λ o. has_two o x) is ∙ second ∙ ap (λ o. has_two o x || (has_one o x && is_up_to x id)) (sym (same refl))
added_two false x id u here there new is same second = ap (λ o. has_two o x) is ∙ and_nothing (has_two here x) (has_one here x)

-- a count with one more item
more_by : (b : Bool) (p : Number → Bool) (ns : List Number) (i : ℕ) (d : Number) → i < length ns → p (get_or ns i d) ≡ b → count_by p (take (i + 1) ns) ≡ count_by p (take i ns) + cond b 1 0
more_by true p ns i d h is = count_by_more_yes p ns i d h is
more_by false p ns i d h is = let e = count_by_more_no p ns i d h is in omega (arith, e)

over_none : (n : ℕ) (b : Bool) → (nat_lt 0 n || b) ≡ nat_lt 0 (n + cond b 1 0)
over_none n true = grind (arith, nat_tests)
over_none n false = grind (arith, nat_tests)

over_one : (n : ℕ) (b : Bool) → (nat_lt 1 n || (nat_lt 0 n && b)) ≡ nat_lt 1 (n + cond b 1 0)
over_one n true = grind (arith, nat_tests)
over_one n false = grind (arith, nat_tests)

pub one_more : (ns : List Number) (i : ℕ) (x d : Number) (old new : Bool) → i < length ns → old ≡ nat_lt 0 (count_by (is_use x) (take i ns)) → new ≡ (old || is_use x (get_or ns i d)) → new ≡ nat_lt 0 (count_by (is_use x) (take (i + 1) ns))
one_more ns i x d old new h so here =
    here ∙ ap (λ b. b || is_use x (get_or ns i d)) so ∙ over_none (count_by (is_use x) (take i ns)) (is_use x (get_or ns i d)) ∙ ap (nat_lt 0) (sym (more_by (is_use x (get_or ns i d)) (is_use x) ns i d h refl))

pub two_more : (ns : List Number) (i : ℕ) (x d : Number) (one old new : Bool) → i < length ns → one ≡ nat_lt 0 (count_by (is_use x) (take i ns)) → old ≡ nat_lt 1 (count_by (is_use x) (take i ns)) → new ≡ (old || (one && is_use x (get_or ns i d))) → new ≡ nat_lt 1 (count_by (is_use x) (take (i + 1) ns))
two_more ns i x d one old new h first so here =
    here ∙ ap (λ b. b || (one && is_use x (get_or ns i d))) so ∙ ap (λ b. nat_lt 1 (count_by (is_use x) (take i ns)) || (b && is_use x (get_or ns i d))) first
    ∙ over_one (count_by (is_use x) (take i ns)) (is_use x (get_or ns i d)) ∙ ap (nat_lt 1) (sym (more_by (is_use x (get_or ns i d)) (is_use x) ns i d h refl))
