-- The most specific of rules.
use Rattle.std.proofs.Common.{◌≡◌, ◌∙◌, ℕ, suc, zero, ◌+◌, ◌<◌, ◌≤◌, ◌==◌, Bool, true, false, List, [], ◌∷◌, ◌++◌, Option, Some, None, refl, sym, ap, arith, add-one, drop, length, map, option_map, eqb-true, Equal}
use Rattle.std.specs.Prelude.{nat_lt, slice_get}
use Rattle.std.specs.Option.{option_map_or}
use Rattle.std.specs.Ordering.{is_lt, nat_cmp}
use Rattle.std.specs.Borrow.{Bor}
use Rattle.std.specs.Cmp.Lexicographic.{slice_cmp}
use Rattle.std.proofs.lemmas.Cmp.{nat_cmp_total, tied_itself}
use Rattle.lin_bench.specs.Rules.{byte_rank, end_rank, is_below_pattern, is_rule_for, more_specific, rank_at, ranks, rule_for}
use Rattle.lin_log.specs.declared.pattern.Pattern.{Pattern}
use Rattle.lin_bench.specs.declared.rules.When.{When}

-- ---- ranks, place by place
at-place : (bytes : List (Option ℕ)) (end i : ℕ) → i ≤ length bytes
    → drop i (map byte_rank bytes ++ end ∷ []) ≡ option_map_or byte_rank (slice_get bytes i) end ∷ drop (suc i) (map byte_rank bytes ++ end ∷ [])
at-place [] end zero h = refl
at-place [] end (suc i) h = absurd (omega (arith, h))
at-place (b ∷ bytes) end zero h = refl
at-place (b ∷ bytes) end (suc i) h = at-place bytes end i (omega (arith, h))

pub ranks-at : (p : Pattern) (i : ℕ) → i ≤ length p.bytes → drop i (ranks p) ≡ rank_at p i ∷ drop (suc i) (ranks p)
ranks-at p i h = at-place p.bytes (end_rank p.more) i h

end-small : (more : Bool) → end_rank more ≤ 1
end-small true = omega arith
end-small false = omega arith

byte-large : (b : Option ℕ) → 2 ≤ byte_rank b
byte-large None = omega arith
byte-large (Some b) = omega arith

-- a rank of 2 or more is that of a byte
rank-large : (bytes : List (Option ℕ)) (more : Bool) (i : ℕ) → i < length bytes → 2 ≤ option_map_or byte_rank (slice_get bytes i) (end_rank more)
rank-large [] more i h = absurd (omega (arith, h))
rank-large (b ∷ bytes) more zero h = byte-large b
rank-large (b ∷ bytes) more (suc i) h = rank-large bytes more i (omega (arith, h))

rank-small : (bytes : List (Option ℕ)) (more : Bool) (i : ℕ) → length bytes ≤ i → option_map_or byte_rank (slice_get bytes i) (end_rank more) ≤ 1
rank-small [] more i h = end-small more
rank-small (b ∷ bytes) more zero h = absurd (omega (arith, h))
rank-small (b ∷ bytes) more (suc i) h = rank-small bytes more i (omega (arith, h))

same-head : (a b : ℕ) (xs ys : List ℕ) → a ≡ b → slice_cmp nat_cmp (a ∷ xs) (b ∷ ys) ≡ slice_cmp nat_cmp xs ys
same-head a b xs ys e = rw (e, tied_itself nat_cmp_total b) refl

rank-two : (bytes : List (Option ℕ)) (more : Bool) (i : ℕ) → 2 ≤ option_map_or byte_rank (slice_get bytes i) (end_rank more) → i < length bytes
rank-two [] more i h = absurd (omega (arith, h, end-small more))
rank-two (b ∷ bytes) more zero h = omega arith
rank-two (b ∷ bytes) more (suc i) h = omega (arith, rank-two bytes more i h)

ended : (bytes : List (Option ℕ)) (more : Bool) (i : ℕ) → option_map_or byte_rank (slice_get bytes i) (end_rank more) ≤ 1 → length bytes ≤ i
ended [] more i h = omega arith
ended (b ∷ bytes) more zero h = absurd (omega (arith, h, byte-large b))
ended (b ∷ bytes) more (suc i) h = omega (arith, ended bytes more i h)

past-end : (bytes : List (Option ℕ)) (end i : ℕ) → length bytes ≤ i → drop (suc i) (map byte_rank bytes ++ end ∷ []) ≡ []
past-end [] end zero h = refl
past-end [] end (suc i) h = refl
past-end (b ∷ bytes) end zero h = absurd (omega (arith, h))
past-end (b ∷ bytes) end (suc i) h = past-end bytes end i (omega (arith, h))

-- two patterns that are the same up to a place, and there
abbrev pub AreSameUpTo : Pattern → Pattern → ℕ → Type 0
AreSameUpTo p q i =
    (i ≤ length p.bytes) × (i ≤ length q.bytes) × (slice_cmp nat_cmp (ranks p) (ranks q) ≡ slice_cmp nat_cmp (drop i (ranks p)) (drop i (ranks q)))

pub same-there : (p q : Pattern) (i : ℕ) → AreSameUpTo p q i → i < length p.bytes → rank_at p i ≡ rank_at q i → AreSameUpTo p q (i + 1)
same-there p q i so h e =
    let two : 2 ≤ rank_at q i = omega (arith, rank-large p.bytes p.more i h, e) in
    let k = rank-two q.bytes q.more i two in
    let next = same-head (rank_at p i) (rank_at q i) (drop (suc i) (ranks p)) (drop (suc i) (ranks q)) e in (
      omega (arith, h),
      omega (arith, k),
      so.2 ∙ (rw (ranks-at p i so.0, ranks-at q i so.1) next) ∙ ap (λ j. slice_cmp nat_cmp (drop j (ranks p)) (drop j (ranks q))) (sym (add-one i)),
    )

by-head : (a b : ℕ) (xs ys : List ℕ) (less equal : Bool) → nat_lt a b ≡ less → (a == b) ≡ equal → (a ≡ b → slice_cmp nat_cmp xs ys ≡ Equal)
    → nat_lt a b ≡ is_lt (slice_cmp nat_cmp (a ∷ xs) (b ∷ ys))
by-head a b xs ys true equal l e h = rw l refl
by-head a b xs ys false true l e h = rw (l, e, h (eqb-true a b e)) refl
by-head a b xs ys false false l e h = rw (l, e) refl

-- the place where they differ decides, or both end there
pub decided-there : (p q : Pattern) (i : ℕ) → AreSameUpTo p q i → (rank_at p i ≡ rank_at q i → length p.bytes ≤ i) → nat_lt (rank_at p i) (rank_at q i) ≡ is_below_pattern p q
decided-there p q i so ends =
    let rest : rank_at p i ≡ rank_at q i → slice_cmp nat_cmp (drop (suc i) (ranks p)) (drop (suc i) (ranks q)) ≡ Equal =
    λ e. (let end = ends e in
    let small : rank_at q i ≤ 1 = omega (arith, rank-small p.bytes p.more i end, e) in
    rw (past-end p.bytes (end_rank p.more) i end, past-end q.bytes (end_rank q.more) i (ended q.bytes q.more i small)) refl) in
    by-head (rank_at p i) (rank_at q i) (drop (suc i) (ranks p)) (drop (suc i) (ranks q)) (nat_lt (rank_at p i) (rank_at q i)) (rank_at p i == rank_at q i) refl refl rest
    ∙ ap is_lt (sym (so.2 ∙ (rw (ranks-at p i so.0, ranks-at q i so.1) refl)))

-- ---- the rule that applies, one more rule before the others
noted-now : {A B : Type 0} (f : A → A → A) (d : A) (best : Option B) (now : B → A) → option_map_or (λ o. f d (now o)) best d ≡ option_map_or (f d) (option_map now best) d
noted-now f d None now = refl
noted-now f d (Some b) now = refl

pub better : (whens : List When) (node : ℕ) (state message : List ℕ) (w : When) (best : Option (Bor When)) → is_rule_for node state message w ≡ true
    → option_map (λ o. o.now) best ≡ rule_for whens node state message
    → Some (option_map_or (λ o. more_specific w o.now) best w) ≡ rule_for (w ∷ whens) node state message
better whens node state message w best is h = rw is (ap Some (noted-now more_specific w best (λ o. o.now) ∙ ap (λ m. option_map_or (more_specific w) m w) h))

pub passed-over : (whens : List When) (node : ℕ) (state message : List ℕ) (w : When) → is_rule_for node state message w ≡ false
    → rule_for whens node state message ≡ rule_for (w ∷ whens) node state message
passed-over whens node state message w is = rw is refl
