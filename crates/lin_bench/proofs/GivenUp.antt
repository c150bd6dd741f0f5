-- Links whose messages are given up.
use Rattle.std.proofs.Common.{◌≡◌, ◌∙◌, ℕ, ◌+◌, Bool, true, false, cond, [], ◌∷◌, ◌++◌, List, map, flat_map, refl, sym, ap, append_assoc, add-one, is_none, is_some, arith, eqb-true, length, ◌==◌, ◌&&◌, Option, Some, None}
use Rattle.std.specs.Prelude.{filter, find, option_map}
use Rattle.std.specs.Option.{option_map_or}
use Rattle.std.proofs.lemmas.Grind.{flat_map-append}
use Rattle.std.proofs.lemmas.List.{map-append}
use Rattle.std.proofs.lemmas.List.Elements.{filter-append}
use Rattle.lin_frame.specs.Words.{numbers}
use Rattle.lin_parts.specs.Cluster.{nad}
use Rattle.lin_parts.specs.declared.parts.Parts.{Parts}
use Rattle.lin_core.specs.declared.log.LogEntry.{LogEntry}
use Rattle.lin_core.specs.declared.port.PortId.{PortId}
use Rattle.lin_core.specs.declared.step.Step.{Step}
use Rattle.lin_bench.specs.Added.{is_given_up, is_late, links_at, links_in_turn, timeout_step, timeouts}
use Rattle.lin_bench.specs.Adding.{has_no_limit}
use Rattle.lin_bench.specs.Rules.{is_limit_of, limit_us, own_limit_us}
use Rattle.lin_bench.specs.declared.rules.Limit.{Limit}
use Rattle.lin_bench.specs.declared.rules.OwnLimit.{OwnLimit}
use Rattle.lin_bench.specs.declared.rules.Rules.{Rules}
use Rattle.lin_bench.proofs.Makes.{append-nothing}

more-by : {A B C : Type 0} (p : B → Bool) (q : A → Bool) (f : A → List B) (t : B → C) (xs : List A) (i : A) (b : Bool) → q i ≡ b
    → map t (filter p (flat_map f (filter q (xs ++ i ∷ [])))) ≡ map t (filter p (flat_map f (filter q xs))) ++ cond b (map t (filter p (f i ++ []))) []
more-by p q f t xs i true h =
    let one : filter q (i ∷ []) ≡ i ∷ [] = rw h refl in
    ap (λ l. map t (filter p (flat_map f l))) (filter-append q xs (i ∷ []) ∙ ap (λ l. filter q xs ++ l) one)
    ∙ ap (λ l. map t (filter p l)) (flat_map-append f (filter q xs) (i ∷ []))
    ∙ ap (map t) (filter-append p (flat_map f (filter q xs)) (f i ++ []))
    ∙ map-append t (filter p (flat_map f (filter q xs))) (filter p (f i ++ []))
more-by p q f t xs i false h =
    let none : filter q (i ∷ []) ≡ [] = rw h refl in
    ap (λ l. map t (filter p (flat_map f l))) (filter-append q xs (i ∷ []) ∙ ap (λ l. filter q xs ++ l) none ∙ append-nothing (filter q xs))
    ∙ sym (append-nothing (map t (filter p (flat_map f (filter q xs)))))

-- the links of one more node
given-more : (c : Parts) (past : List LogEntry) (rules : Rules) (i : ℕ) (b : Bool) → is_some (nad c i) ≡ b
    → map timeout_step (filter (is_late c past rules) (flat_map links_at (filter (λ n. is_some (nad c n)) (numbers (i + 1)))))
    ≡ map timeout_step (filter (is_late c past rules) (flat_map links_at (filter (λ n. is_some (nad c n)) (numbers i))))
    ++ map timeout_step (filter (is_late c past rules) (cond (is_some (nad c i)) (links_at i) []))
given-more c past rules i true h =
    rw (add-one) (more-by (is_late c past rules) (λ n. is_some (nad c n)) links_at timeout_step (numbers i) i true h ∙ rw h refl)
given-more c past rules i false h =
    rw (add-one) (more-by (is_late c past rules) (λ n. is_some (nad c n)) links_at timeout_step (numbers i) i false h ∙ rw h refl)

pub one-more-given : (c : Parts) (past : List LogEntry) (rules : Rules) (i : ℕ) (first steps more : List (PortId × Step))
    → steps ≡ first ++ map timeout_step (filter (is_late c past rules) (flat_map links_at (filter (λ n. is_some (nad c n)) (numbers i))))
    → more ≡ steps ++ map timeout_step (filter (is_late c past rules) (cond (is_some (nad c i)) (links_at i) []))
    → more ≡ first ++ map timeout_step (filter (is_late c past rules) (flat_map links_at (filter (λ n. is_some (nad c n)) (numbers (i + 1)))))
one-more-given c past rules i first steps more is and =
    let one : List (PortId × Step) = map timeout_step (filter (is_late c past rules) (cond (is_some (nad c i)) (links_at i) [])) in
    let so-far : List (PortId × Step) = map timeout_step (filter (is_late c past rules) (flat_map links_at (filter (λ n. is_some (nad c n)) (numbers i)))) in
    and ∙ ap (λ l. l ++ one) is ∙ append_assoc first so-far one ∙ ap (λ l. first ++ l) (sym (given-more c past rules i (is_some (nad c i)) refl))

-- ---- no limit
none-passes : {A : Type 0} (p : A → Bool) (xs : List A) → ((x : A) → p x ≡ false) → filter p xs ≡ []
none-passes p [] fails = refl
none-passes p (x ∷ xs) fails = rw (fails x) (none-passes p xs fails)

pub none-late : (c : Parts) (past : List LogEntry) (rules : Rules) → rules.limit ≡ None → rules.own_limits ≡ [] → timeouts c past rules ≡ []
none-late c past rules limit own =
    ap (map timeout_step)
    (none-passes (is_late c past rules) (links_in_turn c)
    (λ l. ap (λ (o : Option ℕ). option_map_or (λ us. is_given_up c past us l) o false)
    (ap (λ (ls : List OwnLimit). option_map_or own_limit_us (find (is_limit_of l.node) ls) (option_map (limit_us l.node l.dir) rules.limit)) own
    ∙ ap (option_map (limit_us l.node l.dir)) limit)))

both : (a b : Bool) → (a && b) ≡ true → (a ≡ true) × (b ≡ true)
both true true h = (refl, refl)
both true false h = absurd (cc)
both false b h = absurd (cc)

limit-none : (l : Option Limit) → is_none l ≡ true → l ≡ None
limit-none None h = refl
limit-none (Some ms) h = absurd (cc)

own-none : (xs : List OwnLimit) → (length xs == 0) ≡ true → xs ≡ []
own-none [] h = refl
own-none (x ∷ xs) h = let empty = eqb-true (length (x ∷ xs)) 0 h in absurd (omega (arith, empty))

pub no-limit : (c : Parts) (past : List LogEntry) (rules : Rules) → has_no_limit rules ≡ true → timeouts c past rules ≡ []
no-limit c past rules h =
    let f = both (is_none rules.limit) _ h in
    none-late c past rules (limit-none rules.limit f.0) (own-none rules.own_limits f.1)
