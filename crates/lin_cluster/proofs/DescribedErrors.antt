-- The signals by which responders tell errors keep the rules of clusters.
use Rattle.std.proofs.Common.{◌≡◌, ◌<◌, ◌≤◌, ◌+◌, ◌==◌, ◌++◌, ℕ, zero, suc, true, false, not, cond, List, [], ◌∷◌, length, get_or, map, take, Option, Some, None, refl, sym, ap, ◌∙◌, arith}
use Rattle.std.specs.Prelude.{All, IfSome, filter_map, option_and_then, slice_get}
use Rattle.std.specs.List.{cons_option, enumerate_from}
use Rattle.std.specs.Option.{option_map, option_map_or}
use Rattle.std.proofs.lemmas.Bool.{and_parts, eqb-true, not-true}
use Rattle.std.proofs.lemmas.List.{map-id}
use Rattle.std.proofs.lemmas.List.Elements.{All-nil, All-cons, All-head, All-tail, filter_map-append}
use Rattle.lin_parts.specs.declared.description.Description.{Description}
use Rattle.lin_parts.specs.declared.description.Name.{Name}
use Rattle.lin_parts.specs.Cluster.{signal_of}
use Rattle.lin_parts.specs.Rules.{IsErrorSignal, is_array}
use Rattle.lin_parts.specs.declared.parts.Signal.{Signal}
use Rattle.lin_parts.proofs.Carrying.{kept_below}
use Rattle.lin_cluster.specs.Described.{signals_of, frames_of, subscribes, is_concerned_by, is_error_signal, error_named, error_signal, error_signal_at, error_signals, parts_of, response_error_name, signal_number}
use Rattle.lin_cluster.proofs.Enumerated.{mapped_more}
use Rattle.lin_cluster.proofs.KnownNames.{nodes-count}
use Rattle.lin_cluster.proofs.NothingIn.{from-each}

-- one more responder
kept_of_more : {X Y : Type 0} (f : ℕ × X → Option Y) (n : ℕ) (xs : List X) (i : ℕ) (d : X) → i < length xs → filter_map f (enumerate_from n (take (i + 1) xs)) ≡ filter_map f (enumerate_from n (take i xs)) ++ cons_option (f (n + i, get_or xs i d)) []
kept_of_more {X} f n xs i d lt =
    let front = enumerate_from n (take i xs) in
    let more : enumerate_from n (take (i + 1) xs) ≡ front ++ (n + i, get_or xs i d) ∷ [] =
    sym (map-id (enumerate_from n (take (i + 1) xs))) ∙ mapped_more (λ (x : ℕ × X). x) n xs i d lt ∙ ap (λ ys. ys ++ (n + i, get_or xs i d) ∷ []) (map-id front) in
    ap (filter_map f) more ∙ filter_map-append f front ((n + i, get_or xs i d) ∷ [])

-- the same in a loop that keeps what there is of each
pub kept_pushed : {X Y : Type 0} (f : ℕ × X → Option Y) (n : ℕ) (xs : List X) (i : ℕ) (x : X) (k : ℕ) (kept more : List Y) → i < length xs → x ≡ get_or xs i x → k ≡ n + i → kept ≡ filter_map f (enumerate_from n (take i xs)) → more ≡ kept ++ cons_option (f (k, x)) [] → more ≡ filter_map f (enumerate_from n (take (i + 1) xs))
kept_pushed f n xs i x k kept more lt is at so here =
    here ∙ ap (λ ys. ys ++ cons_option (f (k, x)) []) so
    ∙ ap (λ m. filter_map f (enumerate_from n (take i xs)) ++ cons_option (f (m, x)) []) at
    ∙ ap (λ z. filter_map f (enumerate_from n (take i xs)) ++ cons_option (f (n + i, z)) []) is
    ∙ sym (kept_of_more f n xs i x lt)

-- what each item gives, where it gives something
all-kept : {X Y : Type 0} (P : Y → Type 0) (f : X → Option Y) (xs : List X) → All (λ x. IfSome (f x) P) xs → All P (filter_map f xs)
all-kept P f [] all = All-nil P
all-kept P f (x ∷ xs) all =
    let rest = all-kept P f xs (All-tail (λ z. IfSome (f z) P) x xs all) in
    elim (f x) as (λ o. IfSome o P → All P (cons_option o (filter_map f xs))) [
      | None ↦ λ _. rest
      | Some y ↦ λ here. All-cons P y (filter_map f xs) here rest
    ] (All-head (λ z. IfSome (f z) P) x xs all)

record IsErrorAt (signals : List Signal) (n s : ℕ) : Type 0 where
  within : s < length signals
  here : (d : Signal) → is_error_signal n (get_or signals s d) ≡ true

error-at : (signals : List Signal) (n s : ℕ) → option_map_or (is_error_signal n) (slice_get signals s) false ≡ true → IsErrorAt signals n s
error-at [] n s e = absurd (cc)
error-at (x ∷ xs) n zero e = record { within = omega arith; here = λ d. e }
error-at (x ∷ xs) n (suc s) e = let rest = error-at xs n s e in record { within = omega (arith, rest.within); here = rest.here }

-- the frames and the signal of a responder that has one
described-error : (d : Description) (k : ℕ × Name) → (1 ≤ k.0) × (k.0 ≤ length d.slaves) → IfSome (error_signal d k) (IsErrorSignal (parts_of d))
described-error d k within =
    elim (response_error_name d k.0) as (λ o. IfSome (option_map (error_signal_at d k) (option_and_then (error_named d k.0) o)) (IsErrorSignal (parts_of d))) [
      | None ↦ tt
      | Some name ↦
          elim (option_map_or (is_error_signal k.0) (slice_get (signals_of d) (signal_number d name)) false) as
          (λ b. option_map_or (is_error_signal k.0) (slice_get (signals_of d) (signal_number d name)) false ≡ b → IfSome (option_map (error_signal_at d k) (cond b (Some (signal_number d name)) None)) (IsErrorSignal (parts_of d))) [
            | false ↦ λ e. tt
            | true ↦ λ e.
                let is = error-at (signals_of d) k.0 (signal_number d name) e in
                let s = signal_of (parts_of d) (signal_number d name) in
                let both = and_parts (s.publisher == k.0) (not (is_array s.initial)) (is.here _) in
                record {
                  responder = (within.0, omega (arith, within.1, nodes-count d));
                  declared = is.within;
                  published = eqb-true s.publisher k.0 both.0;
                  scalar = not-true (is_array s.initial) both.1;
                  frames = kept_below (is_concerned_by k.0 (map (subscribes k.1) d.signals) (frames_of d)) (length (frames_of d));
                }
          ] refl
    ]

pub described-errors : (d : Description) → All (IsErrorSignal (parts_of d)) (error_signals d)
described-errors d =
    all-kept (IsErrorSignal (parts_of d)) (error_signal d) (enumerate_from 1 d.slaves)
    (from-each (λ k. IfSome (error_signal d k) (IsErrorSignal (parts_of d))) 1 d.slaves (λ k n lt. described-error d (1 + k, get_or d.slaves k n) (omega arith, omega (arith, lt))))
