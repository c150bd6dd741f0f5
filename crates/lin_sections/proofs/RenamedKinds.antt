-- The new names of the things of a kind.
use Rattle.std.proofs.Common.{◌≡◌, ◌≤◌, ◌∙◌, ℕ, Bool, true, false, cond, List, ◌∷◌, length, take, Option, Some, None, refl, ap}
use Rattle.std.specs.Prelude.{if◌then◌else◌}
use Rattle.std.specs.Option.{option_or}
use Rattle.std.specs.Str.{bytes_eq}
use Rattle.std.proofs.Math.Path.{fun_ext}
use Rattle.std.proofs.lemmas.List.{take_all}
use Rattle.lin_sections.specs.NewNames.{alone, is_among, new_names, renamed_in, stays, KeyedName, NameMap}
use Rattle.lin_sections.specs.Renames.{and_names, renamed_names}

-- names after those that are known, and after both
pub or-after : (a b c : Option (List ℕ)) → option_or (option_or a b) c ≡ option_or a (option_or b c)
or-after None b c = refl
or-after (Some x) b c = refl

-- the keys of all things of a kind
pub all-alone : {X : Type 0} (keys_of : List X → List KeyedName) (has_other : List ℕ → Bool) (others : List (List ℕ)) (keys : List KeyedName) (i : ℕ) (xs : List X)
    → length xs ≤ i → ((q : List ℕ) → has_other q ≡ is_among others q) → keys ≡ alone has_other (keys_of (take i xs)) → keys ≡ alone (is_among others) (keys_of xs)
all-alone keys_of has_other others keys i xs le has are =
    are ∙ ap (λ ys. alone has_other (keys_of ys)) (take_all i xs le) ∙ ap (λ (h : List ℕ → Bool). alone h (keys_of xs)) (fun_ext has)

-- the names of a kind, after those that are known
pub kind-named : (names others : List (List ℕ)) (old_keys keys olds news : List KeyedName) (known after : NameMap)
    → olds ≡ alone (is_among others) old_keys → news ≡ alone (is_among names) keys
    → ((q : List ℕ) → after q ≡ option_or (known q) (new_names names olds news q))
    → after ≡ and_names known (renamed_names names others old_keys keys)
kind-named names others old_keys keys olds news known after are_o are_n is =
    fun_ext (λ q. is q ∙ (λ j. option_or (known q) (new_names names (are_o j) (are_n j) q)))

-- the commander, and then the responders
commander-stays : (b : Bool) (master q : List ℕ) (names : List (List ℕ)) (o : Option (List ℕ)) → bytes_eq master q ≡ b
    → option_or (option_or o (cond b (Some q) None)) (stays names q) ≡ option_or o (stays (master ∷ names) q)
commander-stays true master q names None e = rw e refl
commander-stays false master q names None e = rw e refl
commander-stays b master q names (Some x) e = refl

pub nodes-named : (master : List ℕ) (names : List (List ℕ)) (olds news : List KeyedName) (known renamed with_master after : NameMap)
    → ((q : List ℕ) → renamed q ≡ option_or (known q) (renamed_in olds news q))
    → ((q : List ℕ) → with_master q ≡ option_or (renamed q) (if bytes_eq master q then Some q else None))
    → ((q : List ℕ) → after q ≡ option_or (with_master q) (stays names q))
    → (q : List ℕ) → after q ≡ option_or (known q) (new_names (master ∷ names) olds news q)
nodes-named master names olds news known renamed with_master after r m a q =
    a q ∙ ap (λ o. option_or o (stays names q)) (m q)
    ∙ commander-stays (bytes_eq master q) master q names (renamed q) refl
    ∙ ap (λ o. option_or o (stays (master ∷ names) q)) (r q)
    ∙ or-after (known q) (renamed_in olds news q) (stays (master ∷ names) q)
