-- New names, one by one.
use Rattle.std.proofs.Common.{◌≡◌, ◌∙◌, ℕ, Bool, true, false, cond, List, [], ◌∷◌, ◌++◌, length, Option, Some, None, option_map, refl, sym, ap, append-nil}
use Rattle.std.specs.Prelude.{◌||◌, filter, find, is_some, option_and_then}
use Rattle.std.specs.List.{list_any}
use Rattle.std.specs.Option.{option_map_or, option_or}
use Rattle.std.specs.Str.{bytes_eq}
use Rattle.std.proofs.lemmas.List.Elements.{filter-append}
use Rattle.std.proofs.lemmas.List.Folds.{find-append}
use Rattle.std.specs.Map.{lookup}
use Rattle.indexmap.specs.IndexMap.{index_map_len, IndexMap}
use denote.Ref.{Bor}
use Rattle.lin_cluster.proofs.NamesFound.{same-text}
use Rattle.lin_sections.specs.NewNames.{has_in, has_key, is_among, known_by, name_in, only_with, the_only, KeyedName}
use Rattle.lin_sections.specs.declared.diff.new_names.NewNames.{NewNames}

-- ---- sets of names

pub some-or-there : {X : Type 0} (b : Bool) (o : Option X) (x : X) → is_some (cond b (Some x) o) ≡ (is_some o || b)
some-or-there true None x = refl
some-or-there true (Some y) x = refl
some-or-there false None x = refl
some-or-there false (Some y) x = refl

pub any-append : {X : Type 0} (p : X → Bool) (xs : List X) (x : X) → list_any p (xs ++ x ∷ []) ≡ (list_any p xs || p x)
any-append p [] x = elim (p x) as (λ b. (b || false) ≡ b) [
  | true ↦ refl
  | false ↦ refl
]
any-append p (y ∷ ys) x = elim (p y) as (λ b. (b || list_any p (ys ++ x ∷ [])) ≡ ((b || list_any p ys) || p x)) [
  | true ↦ refl
  | false ↦ any-append p ys x
]

or-nothing : (b : Bool) → b ≡ (b || false)
or-nothing true = refl
or-nothing false = refl

-- with the same entries there are the same names
pub names-kept : {V S : Type 0} (m n : IndexMap (Bor (List ℕ)) V S) (q : List ℕ) → n.entries ≡ m.entries → has_in n q ≡ (has_in m q || is_among [] q)
names-kept m n q e = ap (λ es. is_some (lookup (λ (k : Bor (List ℕ)). bytes_eq q k.now) es)) e ∙ or-nothing (has_in m q)

-- ---- no new names

no-items : {X : Type 0} (xs : List X) → length xs ≡ 0 → xs ≡ []
no-items [] e = refl
no-items (x ∷ xs) e = absurd cc

own-if-kept : (b : Bool) (name : List ℕ) → name ≡ option_map_or (λ n. n) (cond b (Some name) None) name
own-if-kept true name = refl
own-if-kept false name = refl

-- without new names, each name is its own
pub own-if-none : (n : NewNames) (name : List ℕ) → index_map_len n.renamed ≡ 0 → name ≡ name_in (known_by n) name
own-if-none n name none =
    let empty : n.renamed.entries ≡ [] = no-items n.renamed.entries none in
    rw empty (own-if-kept (has_in n.kept.map name) name)

-- ---- keys

two-things : (x k : KeyedName) (xs : List KeyedName) → the_only (x ∷ (xs ++ k ∷ [])) ≡ None
two-things x k [] = refl
two-things x k (y ∷ ys) = refl

only-behind : (ks : List KeyedName) (k : KeyedName) (q : List ℕ) → the_only (filter (λ (x : KeyedName). bytes_eq x.key q) ks ++ k ∷ []) ≡ cond (has_key ks q) None (Some k.name)
only-behind [] k q = refl
only-behind (x ∷ ks) k q =
    let kept : List KeyedName = filter (λ (y : KeyedName). bytes_eq y.key q) ks in
    elim (bytes_eq x.key q) as (λ b. the_only (cond b (x ∷ kept) kept ++ k ∷ []) ≡ cond (b || has_key ks q) None (Some k.name)) [
      | true ↦ two-things x k kept
      | false ↦ only-behind ks k q
    ]

only-one-more : (ks : List KeyedName) (k : KeyedName) (q : List ℕ) → only_with (ks ++ k ∷ []) q ≡ cond (bytes_eq k.key q) (cond (has_key ks q) None (Some k.name)) (only_with ks q)
only-one-more ks k q =
    let kept : List KeyedName = filter (λ (y : KeyedName). bytes_eq y.key q) ks in
    ap the_only (filter-append (λ (y : KeyedName). bytes_eq y.key q) ks (k ∷ []))
    ∙ elim (bytes_eq k.key q) as (λ b. the_only (kept ++ cond b (k ∷ []) []) ≡ cond b (cond (has_key ks q) None (Some k.name)) (the_only kept)) [
      | true ↦ only-behind ks k q
      | false ↦ ap the_only (append-nil kept)
    ]

-- what is under a key with one thing more: nothing if an earlier one has it
pub only-more : (ks : List KeyedName) (k : KeyedName) (q : List ℕ) (only old new : Option (List ℕ)) → old ≡ only_with ks q
    → only ≡ cond (has_key ks k.key) None (Some k.name) → new ≡ cond (bytes_eq k.key q) only old
    → new ≡ only_with (ks ++ k ∷ []) q
only-more ks k q only old new so is here =
    here ∙ (λ j. cond (bytes_eq k.key q) (is j) (so j))
    ∙ elim (bytes_eq k.key q) as (λ b. (bytes_eq k.key q ≡ b) → cond b (cond (has_key ks k.key) None (Some k.name)) (only_with ks q) ≡ cond b (cond (has_key ks q) None (Some k.name)) (only_with ks q)) [
      | true ↦ λ e. ap (λ t. cond {A = Option (List ℕ)} (has_key ks t) None (Some k.name)) (same-text k.key q e)
      | false ↦ λ e. refl
    ] refl
    ∙ sym (only-one-more ks k q)

pub key-more : (ks : List KeyedName) (k : KeyedName) (q : List ℕ) (old new : Bool) → old ≡ has_key ks q → new ≡ (old || bytes_eq k.key q) → new ≡ has_key (ks ++ k ∷ []) q
key-more ks k q old new so here = here ∙ ap (λ b. b || bytes_eq k.key q) so ∙ sym (any-append (λ (x : KeyedName). bytes_eq x.key q) ks k)

pub only-put : (b : Bool) (only : Option (Bor (List ℕ))) (o : Option (Option (Bor (List ℕ)))) (name : Option (List ℕ)) → option_map (λ n. n.now) only ≡ name
    → option_and_then (λ p. option_map (λ n. n.now) p) (cond b (Some only) o) ≡ cond b name (option_and_then (λ p. option_map (λ n. n.now) p) o)
only-put true only o name is = is
only-put false only o name is = refl

or-after : (a b c : Option (List ℕ)) → option_or (option_or a b) c ≡ option_or a (option_or b c)
or-after None b c = refl
or-after (Some x) b c = refl

name-found : (b : Bool) (k : KeyedName) (of : KeyedName → List ℕ) → cond b (Some (of k)) None ≡ option_map of (cond b (Some k) None)
name-found true k of = refl
name-found false k of = refl

map-or : (of : KeyedName → List ℕ) (a b : Option KeyedName) → option_or (option_map of a) (option_map of b) ≡ option_map of (option_or a b)
map-or of None b = refl
map-or of (Some k) b = refl

-- the new name of one thing more
pub renamed-more : (of : KeyedName → List ℕ) (ks : List KeyedName) (k : KeyedName) (q name new : List ℕ) (first before after : Option (List ℕ)) → name ≡ k.name → new ≡ of k
    → before ≡ option_or first (option_map of (find (λ (x : KeyedName). bytes_eq x.name q) ks))
    → after ≡ option_or before (cond (bytes_eq name q) (Some new) None)
    → after ≡ option_or first (option_map of (find (λ (x : KeyedName). bytes_eq x.name q) (ks ++ k ∷ [])))
renamed-more of ks k q name new first before after named is so here =
    let p : KeyedName → Bool = λ x. bytes_eq x.name q in
    here ∙ (λ j. option_or (so j) (cond (bytes_eq (named j) q) (Some (is j)) None))
    ∙ or-after first (option_map of (find p ks)) (cond (bytes_eq k.name q) (Some (of k)) None)
    ∙ ap (λ o. option_or first (option_or (option_map of (find p ks)) o)) (name-found (bytes_eq k.name q) k of)
    ∙ ap (option_or first) (map-or of (find p ks) (find p (k ∷ [])) ∙ ap (option_map of) (sym (find-append p ks (k ∷ []))))
