-- No difference is listed exactly if both have the same things, facts and entries.
use Rattle.std.proofs.Common.{◌≡◌, ◌∙◌, ◌+◌, ◌<◌, ℕ, zero, suc, Bool, true, false, cond, List, [], ◌∷◌, ◌++◌, length, get_or, map, flat_map, refl, sym, ap, subst, arith}
use Rattle.std.specs.Prelude.{◌||◌, is_some, option_map, Contains, Option, Some, None}
use Rattle.std.specs.List.{range_with_len}
use Rattle.std.specs.Option.{option_map_or}
use Rattle.std.specs.Str.{bytes_eq}
use Rattle.lin_sections.specs.declared.diff.fact.EntryFact.{EntryFact}
use Rattle.lin_sections.specs.declared.diff.fact.Fact.{Fact}
use Rattle.lin_sections.specs.declared.diff.fact.Thing.{Thing}
use Rattle.std.proofs.lemmas.List.FromFn.{length-range_with_len}
use Rattle.lin_sections.specs.declared.diff.fact.Class.TheVariants as classes
use Rattle.lin_sections.specs.Facts.{class_if_gone, class_if_new}
use Rattle.lin_sections.specs.Differences.{DifferenceData, class_of_new, delay_difference, entry_difference, entry_with_id, fact_difference, fact_with, is_moved_in, kind_differences, new_entry, new_fact, new_thing, old_entry, old_fact, old_places, old_thing, pair_differences, place_of_entry, thing_differences, thing_difference, thing_named, was_moved}
use Rattle.lin_sections.specs.DiffLaws.{entry_step, value_of, AreDistinct, AreFound, AreSame, SaysSame, SaySame, SilenceIsSameness}
use Rattle.lin_sections.specs.Moved.{moved_flags}
use Rattle.lin_sections.specs.Numbering.{entry_id}
use Rattle.lin_sections.proofs.EntryOrder.{flag-unset, listed-is, mapped-listed, no-flags, own-places, place_in, places, listed, same-order}
use Rattle.lin_cluster.proofs.NamesFound.{same-text, text-same}
use Rattle.lin_sections.specs.NewNames.{is_among}
use Rattle.lin_sections.proofs.FoundTexts.{among-contained, apart, append-none, contained-among, contained-at, flat-none, found-among, found-is, holds-of, matched-new, matched-old, matching, none-flat, only-found, Apart, Match}
use Rattle.lin_sections.proofs.MovedLaws.{kept-places, none-moved, Rising}

-- ---- tests that list nothing

unlisted : {X : Type 0} (b : Bool) (x : X) → cond b [] (x ∷ []) ≡ [] → b ≡ true
unlisted true x e = refl
unlisted false x e = absurd cc

listed-if : {X : Type 0} (b : Bool) (x : X) → cond b (x ∷ []) [] ≡ [] → b ≡ false
listed-if true x e = absurd cc
listed-if false x e = refl

-- ---- facts

abbrev SameValue : Fact → Fact → Type 0
SameValue f g = f.value ≡ g.value

pub old-value : (o n : Thing) (f : Fact) → old_fact o n f ≡ [] → (g : Fact) × (fact_with f.key n.facts ≡ Some g) × SameValue f g
old-value o n f none =
    let is : option_map_or (λ g. bytes_eq g.value f.value) (fact_with f.key n.facts) false ≡ true =
    unlisted (option_map_or (λ g. bytes_eq g.value f.value) (fact_with f.key n.facts) false) (fact_difference f.class o n f (Some f) (fact_with f.key n.facts)) none in
    elim (fact_with f.key n.facts) as (λ p. option_map_or (λ g. bytes_eq g.value f.value) p false ≡ true → (g : Fact) × (p ≡ Some g) × SameValue f g) [
      | Some g ↦ λ e. (g, refl, sym (same-text g.value f.value e))
      | None ↦ λ e. absurd (let no : false ≡ true = e in cc)
    ] is

value-old : (o n : Thing) (f g : Fact) → fact_with f.key n.facts ≡ Some g → SameValue f g → old_fact o n f ≡ []
value-old o n f g found same =
    ap (λ b. cond b [] (fact_difference f.class o n f (Some f) (fact_with f.key n.facts) ∷ []))
    (ap (λ p. option_map_or (λ h. bytes_eq h.value f.value) p false) found ∙ text-same g.value f.value (sym same))

values-same : (fs gs : List Fact) → ((q : List ℕ) → Match SameValue (fact_with q fs) (fact_with q gs)) → (q : List ℕ) → value_of q fs ≡ value_of q gs
values-same fs gs same q =
    elim (fact_with q fs) as (λ o. Match SameValue o (fact_with q gs) → option_map (λ f. f.value) o ≡ value_of q gs) [
      | Some f ↦ elim (fact_with q gs) as (λ p. Match SameValue (Some f) p → Some f.value ≡ option_map (λ g. g.value) p) [
        | Some g ↦ λ e. ap Some e
        | None ↦ λ e. absurd e
      ]
      | None ↦ elim (fact_with q gs) as (λ p. Match SameValue None p → None ≡ option_map (λ g. g.value) p) [
        | Some g ↦ λ e. absurd e
        | None ↦ λ e. refl
      ]
    ] (same q)

same-values : (fs gs : List Fact) → ((q : List ℕ) → value_of q fs ≡ value_of q gs) → (q : List ℕ) → Match SameValue (fact_with q fs) (fact_with q gs)
same-values fs gs same q =
    elim (fact_with q fs) as (λ o. option_map (λ f. f.value) o ≡ value_of q gs → Match SameValue o (fact_with q gs)) [
      | Some f ↦ elim (fact_with q gs) as (λ p. Some f.value ≡ option_map (λ g. g.value) p → Match SameValue (Some f) p) [
        | Some g ↦ λ e. let values : f.value ≡ g.value = cc in values
        | None ↦ λ e. absurd cc
      ]
      | None ↦ elim (fact_with q gs) as (λ p. None ≡ option_map (λ g. g.value) p → Match SameValue None p) [
        | Some g ↦ λ e. absurd cc
        | None ↦ λ e. tt
      ]
    ] (same q)

facts-same : (o n : Thing) → flat_map (old_fact o n) o.facts ≡ [] → flat_map (new_fact o n) n.facts ≡ [] → (q : List ℕ) → value_of q o.facts ≡ value_of q n.facts
facts-same o n olds news =
    values-same o.facts n.facts (matching SameValue (λ (f : Fact). f.key) o.facts n.facts
    (λ f c. old-value o n f (flat-none (old_fact o n) o.facts f olds c))
    (λ g c. unlisted (is_some (fact_with g.key o.facts)) (fact_difference (class_of_new o g) o n g None (Some g)) (flat-none (new_fact o n) n.facts g news c)))

same-facts : (o n : Thing) → Apart (map (λ (f : Fact). f.key) o.facts) → ((q : List ℕ) → value_of q o.facts ≡ value_of q n.facts)
    → (flat_map (old_fact o n) o.facts ≡ []) × (flat_map (new_fact o n) n.facts ≡ [])
same-facts o n all same =
    let match : (q : List ℕ) → Match SameValue (fact_with q o.facts) (fact_with q n.facts) = same-values o.facts n.facts same in (
      none-flat (old_fact o n) o.facts (λ f c.
          let found : (g : Fact) × (fact_with f.key n.facts ≡ Some g) × SameValue f g = matched-old SameValue (λ (f : Fact). f.key) o.facts n.facts all match f c in
          value-old o n f found.0 found.1 found.2),
      none-flat (new_fact o n) n.facts (λ g c.
          ap (λ b. cond b [] (fact_difference (class_of_new o g) o n g None (Some g) ∷ [])) (matched-new SameValue (λ (f : Fact). f.key) o.facts n.facts match g c)),
    )

-- ---- entries

abbrev ids : List EntryFact → List (List ℕ)
ids es = map entry_id es

abbrev KeepsEntry : List EntryFact → List EntryFact → EntryFact → EntryFact → Type 0
KeepsEntry es fs e f = (is_moved_in es fs e ≡ false) × (e.delay ≡ f.delay)

pair-kept : (o n : Thing) (b : Bool) (e f : EntryFact) → pair_differences o n b e f ≡ [] → (b ≡ false) × (e.delay ≡ f.delay)
pair-kept o n b e f none =
    let parts : (cond b (entry_difference o n e (Some e) (Some f) ∷ []) [] ≡ []) × (cond (bytes_eq e.delay f.delay) [] (delay_difference o n e f ∷ []) ≡ []) =
    append-none (cond b (entry_difference o n e (Some e) (Some f) ∷ []) []) (cond (bytes_eq e.delay f.delay) [] (delay_difference o n e f ∷ [])) none in
    (listed-if b (entry_difference o n e (Some e) (Some f)) parts.0, same-text e.delay f.delay (unlisted (bytes_eq e.delay f.delay) (delay_difference o n e f) parts.1))

kept-pair : (o n : Thing) (b : Bool) (e f : EntryFact) → b ≡ false → e.delay ≡ f.delay → pair_differences o n b e f ≡ []
kept-pair o n b e f still same =
    (λ j. cond (still j) (entry_difference o n e (Some e) (Some f) ∷ []) [] ++ cond (text-same e.delay f.delay same j) [] (delay_difference o n e f ∷ []))

entry-kept : (o n : Thing) (e : EntryFact) → old_entry o n e ≡ [] → (f : EntryFact) × (entry_with_id (entry_id e) n.entries ≡ Some f) × KeepsEntry o.entries n.entries e f
entry-kept o n e none =
    elim (entry_with_id (entry_id e) n.entries) as (λ p. option_map_or (pair_differences o n (is_moved_in o.entries n.entries e) e) p (entry_difference o n e (Some e) None ∷ []) ≡ []
    → (f : EntryFact) × (p ≡ Some f) × KeepsEntry o.entries n.entries e f) [
      | Some f ↦ λ h. (f, refl, pair-kept o n (is_moved_in o.entries n.entries e) e f h)
      | None ↦ λ h. absurd cc
    ] none

-- the places in the old table
places-are : (es fs : List EntryFact) → old_places es fs ≡ places 0 (ids es) (ids fs)
places-are es fs = mapped-listed entry_id (λ t. listed (place_in 0 (ids es) t)) fs

-- an entry whose place was found
entry-placed : (texts : List (List ℕ)) (k : ℕ) (t : List ℕ) (p : ℕ) → place_in k texts t ≡ Some p → is_among texts t ≡ true
entry-placed [] k t p e = absurd cc
entry-placed (u ∷ texts) k t p e =
    elim (bytes_eq u t) as (λ b. cond b (Some k) (place_in (k + 1) texts t) ≡ Some p → (b || is_among texts t) ≡ true) [
      | true ↦ λ e. refl
      | false ↦ λ e. entry-placed texts (k + 1) t p e
    ] e

-- no entry was moved
unmoved : (es fs : List EntryFact) → ((e : EntryFact) → Contains es e → is_moved_in es fs e ≡ false)
    → (i : ℕ) → i < length (old_places es fs) → get_or (moved_flags (old_places es fs)) i false ≡ false
unmoved es fs still i lt =
    let found : (f : EntryFact) × Contains fs f × (place_of_entry es f ≡ Some (get_or (old_places es fs) i 0)) = listed-is (place_of_entry es) fs i lt in
    let p : ℕ = get_or (old_places es fs) i 0 in
    let entry : (e : EntryFact) × Contains es e × (entry_id e ≡ entry_id found.0) =
    contained-among entry_id (entry_id found.0) es (entry-placed (ids es) 0 (entry_id found.0) p found.2) in
    let at : place_of_entry es entry.0 ≡ Some p = ap (place_in 0 (ids es)) entry.2 ∙ found.2 in
    flag-unset (old_places es fs) (moved_flags (old_places es fs)) i lt
    (sym (ap (λ q. option_map_or (was_moved (old_places es fs)) q false) at) ∙ still entry.0 entry.1)

first-same : {X : Type 0} (x y : X) (xs ys : List X) → x ∷ xs ≡ y ∷ ys → x ≡ y
first-same x y xs ys e = cc

rest-same : {X : Type 0} (x y : X) (xs ys : List X) → x ∷ xs ≡ y ∷ ys → xs ≡ ys
rest-same x y xs ys e = cc

steps-same : (es fs : List EntryFact) → ids es ≡ ids fs → ((i : ℕ) (d : EntryFact) → i < length es → (get_or es i d).delay ≡ (get_or fs i d).delay) → map entry_step es ≡ map entry_step fs
steps-same [] [] same delays = refl
steps-same [] (f ∷ fs) same delays = absurd cc
steps-same (e ∷ es) [] same delays = absurd cc
steps-same (e ∷ es) (f ∷ fs) same delays =
    let first : entry_id e ≡ entry_id f = first-same (entry_id e) (entry_id f) (ids es) (ids fs) same in
    let rest : ids es ≡ ids fs = rest-same (entry_id e) (entry_id f) (ids es) (ids fs) same in
    let others : map entry_step es ≡ map entry_step fs = steps-same es fs rest (λ i d lt. delays (suc i) d (omega arith)) in
    let delay : e.delay ≡ f.delay = delays 0 e (omega arith) in
    (λ j. (first j, delay j) ∷ others j)

step-ids : (es fs : List EntryFact) → map entry_step es ≡ map entry_step fs → ids es ≡ ids fs
step-ids [] [] same = refl
step-ids [] (f ∷ fs) same = absurd cc
step-ids (e ∷ es) [] same = absurd cc
step-ids (e ∷ es) (f ∷ fs) same =
    (λ j. (first-same (entry_step e) (entry_step f) (map entry_step es) (map entry_step fs) same j).0
    ∷ step-ids es fs (rest-same (entry_step e) (entry_step f) (map entry_step es) (map entry_step fs) same) j)

step-delays : (es fs : List EntryFact) → map entry_step es ≡ map entry_step fs → (i : ℕ) (d : EntryFact) → i < length es → (get_or es i d).delay ≡ (get_or fs i d).delay
step-delays [] fs same i d lt = absurd (omega arith)
step-delays (e ∷ es) [] same i d lt = absurd cc
step-delays (e ∷ es) (f ∷ fs) same zero d lt = (λ j. (first-same (entry_step e) (entry_step f) (map entry_step es) (map entry_step fs) same j).1)
step-delays (e ∷ es) (f ∷ fs) same (suc i) d lt = step-delays es fs (rest-same (entry_step e) (entry_step f) (map entry_step es) (map entry_step fs) same) i d (omega arith)

id-at : (es fs : List EntryFact) → ids es ≡ ids fs → (i : ℕ) (d : EntryFact) → i < length es → entry_id (get_or es i d) ≡ entry_id (get_or fs i d)
id-at [] fs same i d lt = absurd (omega arith)
id-at (e ∷ es) [] same i d lt = absurd cc
id-at (e ∷ es) (f ∷ fs) same zero d lt = first-same (entry_id e) (entry_id f) (ids es) (ids fs) same
id-at (e ∷ es) (f ∷ fs) same (suc i) d lt = id-at es fs (rest-same (entry_id e) (entry_id f) (ids es) (ids fs) same) i d (omega arith)

as-many : (es fs : List EntryFact) → ids es ≡ ids fs → length es ≡ length fs
as-many [] [] same = refl
as-many [] (f ∷ fs) same = absurd cc
as-many (e ∷ es) [] same = absurd cc
as-many (e ∷ es) (f ∷ fs) same = ap (λ n. suc n) (as-many es fs (rest-same (entry_id e) (entry_id f) (ids es) (ids fs) same))

-- the other entry with the word and the number of one
other-at : (es fs : List EntryFact) → Apart (ids fs) → ids es ≡ ids fs → (i : ℕ) (d : EntryFact) → i < length es → entry_with_id (entry_id (get_or es i d)) fs ≡ Some (get_or fs i d)
other-at es fs all same i d lt =
    ap (λ t. entry_with_id t fs) (id-at es fs same i d lt)
    ∙ only-found entry_id fs (get_or fs i d) all (contained-at fs i d (let size : length es ≡ length fs = as-many es fs same in omega arith))

some-same : {X : Type 0} (x y : X) → Some x ≡ Some y → x ≡ y
some-same x y e = cc

none-at : (n : ℕ) (o : Option ℕ) → option_map_or (was_moved (range_with_len 0 n)) o false ≡ false
none-at n None = refl
none-at n (Some p) =
    no-flags p (range_with_len 0 n) (moved_flags (range_with_len 0 n)) (λ i lt. kept-places n i (let size : length (range_with_len 0 n) ≡ n = length-range_with_len 0 n in omega arith))

pub entries-same : (o n : Thing) → Apart (ids o.entries) → Apart (ids n.entries) → flat_map (old_entry o n) o.entries ≡ [] → flat_map (new_entry o n) n.entries ≡ []
    → map entry_step o.entries ≡ map entry_step n.entries
entries-same o n old_apart new_apart olds news =
    let es : List EntryFact = o.entries in
    let fs : List EntryFact = n.entries in
    let kept : (e : EntryFact) → Contains es e → (f : EntryFact) × (entry_with_id (entry_id e) fs ≡ Some f) × KeepsEntry es fs e f = λ e c. entry-kept o n e (flat-none (old_entry o n) es e olds c) in
    let there : (q : List ℕ) → is_among (ids es) q ≡ true → is_among (ids fs) q ≡ true = λ q h.
    let entry : (e : EntryFact) × Contains es e × (entry_id e ≡ q) = contained-among entry_id q es h in
    let found : (f : EntryFact) × (entry_with_id (entry_id entry.0) fs ≡ Some f) × KeepsEntry es fs entry.0 f = kept entry.0 entry.1 in
    ap (is_among (ids fs)) (sym entry.2) ∙ sym (found-among entry_id (entry_id entry.0) fs) ∙ ap is_some found.1 in
    let here : (q : List ℕ) → is_among (ids fs) q ≡ true → is_among (ids es) q ≡ true = λ q h.
    let entry : (f : EntryFact) × Contains fs f × (entry_id f ≡ q) = contained-among entry_id q fs h in
    let found : is_some (entry_with_id (entry_id entry.0) es) ≡ true = unlisted (is_some (entry_with_id (entry_id entry.0) es)) (entry_difference o n entry.0 None (Some entry.0)) (flat-none (new_entry o n) fs entry.0 news entry.1) in
    ap (is_among (ids es)) (sym entry.2) ∙ sym (found-among entry_id (entry_id entry.0) es) ∙ found in
    let rises : Rising 0 (old_places es fs) = none-moved (old_places es fs) (unmoved es fs (λ e c. (kept e c).2.0)) in
    let same : ids es ≡ ids fs = same-order 0 (ids es) (ids fs) old_apart there here (subst (Rising 0) (places-are es fs) rises) in
    steps-same es fs same (λ i d lt.
    let found : (f : EntryFact) × (entry_with_id (entry_id (get_or es i d)) fs ≡ Some f) × KeepsEntry es fs (get_or es i d) f = kept (get_or es i d) (contained-at es i d lt) in
    let at : found.0 ≡ get_or fs i d = some-same found.0 (get_or fs i d) (sym found.1 ∙ other-at es fs new_apart same i d lt) in
    found.2.1 ∙ ap (λ (f : EntryFact). f.delay) at)

same-entries : (o n : Thing) → Apart (ids o.entries) → Apart (ids n.entries) → map entry_step o.entries ≡ map entry_step n.entries
    → (flat_map (old_entry o n) o.entries ≡ []) × (flat_map (new_entry o n) n.entries ≡ [])
same-entries o n old_apart new_apart steps =
    let es : List EntryFact = o.entries in
    let fs : List EntryFact = n.entries in
    let same : ids es ≡ ids fs = step-ids es fs steps in
    let all : old_places es fs ≡ range_with_len 0 (length (ids es)) = places-are es fs ∙ ap (places 0 (ids es)) (sym same) ∙ own-places 0 (ids es) old_apart in
    let still : (e : EntryFact) → is_moved_in es fs e ≡ false = λ e.
    ap (λ ps. option_map_or (was_moved ps) (place_of_entry es e) false) all ∙ none-at (length (ids es)) (place_of_entry es e) in (
      none-flat (old_entry o n) es (λ e (i, lt, at).
          let here : get_or es i e ≡ e = at in
          let found : entry_with_id (entry_id e) fs ≡ Some (get_or fs i e) = ap (λ (x : EntryFact). entry_with_id (entry_id x) fs) (sym here) ∙ other-at es fs new_apart same i e lt in
          let delays : e.delay ≡ (get_or fs i e).delay = ap (λ (x : EntryFact). x.delay) (sym here) ∙ step-delays es fs steps i e lt in
          ap (λ p. option_map_or (pair_differences o n (is_moved_in es fs e) e) p (entry_difference o n e (Some e) None ∷ [])) found
          ∙ kept-pair o n (is_moved_in es fs e) e (get_or fs i e) (still e) delays),
      none-flat (new_entry o n) fs (λ f c.
          ap (λ b. cond b [] (entry_difference o n f None (Some f) ∷ []))
          (found-among entry_id (entry_id f) es ∙ ap (λ ts. is_among ts (entry_id f)) same ∙ among-contained entry_id fs f c)),
    )

-- ---- things

thing-same : (o n : Thing) → Apart (ids o.entries) → Apart (ids n.entries) → thing_differences o n ≡ [] → SaysSame o n
thing-same o n old_apart new_apart none =
    let name : List DifferenceData = cond (bytes_eq o.name n.name) [] (thing_difference classes.Names o.kind (Some o) (Some n) ∷ []) in
    let old_facts : List DifferenceData = flat_map (old_fact o n) o.facts in
    let new_facts : List DifferenceData = flat_map (new_fact o n) n.facts in
    let old_entries : List DifferenceData = flat_map (old_entry o n) o.entries in
    let new_entries : List DifferenceData = flat_map (new_entry o n) n.entries in
    let first : (name ≡ []) × (old_facts ++ (new_facts ++ (old_entries ++ new_entries)) ≡ []) = append-none name (old_facts ++ (new_facts ++ (old_entries ++ new_entries))) none in
    let second : (old_facts ≡ []) × (new_facts ++ (old_entries ++ new_entries) ≡ []) = append-none old_facts (new_facts ++ (old_entries ++ new_entries)) first.1 in
    let third : (new_facts ≡ []) × (old_entries ++ new_entries ≡ []) = append-none new_facts (old_entries ++ new_entries) second.1 in
    let fourth : (old_entries ≡ []) × (new_entries ≡ []) = append-none old_entries new_entries third.1 in
    record {
      name = same-text o.name n.name (unlisted (bytes_eq o.name n.name) (thing_difference classes.Names o.kind (Some o) (Some n)) first.0);
      facts = facts-same o n second.0 third.0;
      entries = entries-same o n old_apart new_apart fourth.0 fourth.1;
    }

same-thing : (o n : Thing) → Apart (map (λ (f : Fact). f.key) o.facts) → Apart (ids o.entries) → Apart (ids n.entries) → SaysSame o n → thing_differences o n ≡ []
same-thing o n facts_apart old_apart new_apart same =
    let facts : (flat_map (old_fact o n) o.facts ≡ []) × (flat_map (new_fact o n) n.facts ≡ []) = same-facts o n facts_apart same.facts in
    let entries : (flat_map (old_entry o n) o.entries ≡ []) × (flat_map (new_entry o n) n.entries ≡ []) = same-entries o n old_apart new_apart same.entries in
    (λ j. cond (text-same o.name n.name same.name j) [] (thing_difference classes.Names o.kind (Some o) (Some n) ∷ []) ++ (facts.0 j ++ (facts.1 j ++ (entries.0 j ++ entries.1 j))))

old-thing : (news : List Thing) (o : Thing) → old_thing news o ≡ [] → (n : Thing) × (thing_named o.new_name news ≡ Some n) × (thing_differences o n ≡ [])
old-thing news o none =
    elim (thing_named o.new_name news) as (λ p. option_map_or (thing_differences o) p (thing_difference (class_if_gone o.kind) o.kind (Some o) None ∷ []) ≡ [] → (n : Thing) × (p ≡ Some n) × (thing_differences o n ≡ [])) [
      | Some n ↦ λ h. (n, refl, h)
      | None ↦ λ h. absurd cc
    ] none

abbrev name_of : Thing → List ℕ
name_of t = t.new_name

match-same : (a b : Option Thing) → Match SaysSame a b → AreSame a b
match-same None None m = tt
match-same None (Some n) m = m
match-same (Some o) None m = m
match-same (Some o) (Some n) m = m

same-match : (a b : Option Thing) → AreSame a b → Match SaysSame a b
same-match None None m = tt
same-match None (Some n) m = m
same-match (Some o) None m = m
same-match (Some o) (Some n) m = m

silent-same : (olds news : List Thing) → AreFound olds → AreFound news → kind_differences olds news ≡ [] → SaySame olds news
silent-same olds news old_found new_found none =
    let parts : (flat_map (old_thing news) olds ≡ []) × (flat_map (new_thing olds) news ≡ []) = append-none (flat_map (old_thing news) olds) (flat_map (new_thing olds) news) none in
    λ q. match-same (thing_named q olds) (thing_named q news) (matching SaysSame name_of olds news
    (λ o c.
    let found : (n : Thing) × (thing_named o.new_name news ≡ Some n) × (thing_differences o n ≡ []) = old-thing news o (flat-none (old_thing news) olds o parts.0 c) in
    let there : Contains news found.0 = (found-is name_of o.new_name news found.0 found.1).0 in (
      found.0,
      found.1,
      thing-same o found.0
          (apart (ids o.entries) (holds-of (λ t. AreDistinct (ids t.entries)) olds o old_found.entries c))
          (apart (ids found.0.entries) (holds-of (λ t. AreDistinct (ids t.entries)) news found.0 new_found.entries there)) found.2,
    ))
    (λ n c. unlisted (is_some (thing_named n.new_name olds)) (thing_difference (class_if_new n.kind) n.kind None (Some n)) (flat-none (new_thing olds) news n parts.1 c)) q)

same-silent : (olds news : List Thing) → AreFound olds → AreFound news → SaySame olds news → kind_differences olds news ≡ []
same-silent olds news old_found new_found same =
    let match : (q : List ℕ) → Match SaysSame (thing_named q olds) (thing_named q news) = λ q. same-match (thing_named q olds) (thing_named q news) (same q) in
    let first : flat_map (old_thing news) olds ≡ [] = none-flat (old_thing news) olds (λ o c.
    let found : (n : Thing) × (thing_named o.new_name news ≡ Some n) × SaysSame o n = matched-old SaysSame name_of olds news (apart (map name_of olds) old_found.names) match o c in
    let there : Contains news found.0 = (found-is name_of o.new_name news found.0 found.1).0 in
    ap (λ p. option_map_or (thing_differences o) p (thing_difference (class_if_gone o.kind) o.kind (Some o) None ∷ [])) found.1
    ∙ same-thing o found.0
    (apart (map (λ (f : Fact). f.key) o.facts) (holds-of (λ t. AreDistinct (map (λ (f : Fact). f.key) t.facts)) olds o old_found.facts c))
    (apart (ids o.entries) (holds-of (λ t. AreDistinct (ids t.entries)) olds o old_found.entries c))
    (apart (ids found.0.entries) (holds-of (λ t. AreDistinct (ids t.entries)) news found.0 new_found.entries there)) found.2) in
    let second : flat_map (new_thing olds) news ≡ [] = none-flat (new_thing olds) news (λ n c.
    ap (λ b. cond b [] (thing_difference (class_if_new n.kind) n.kind None (Some n) ∷ [])) (matched-new SaysSame name_of olds news match n c)) in
    (λ j. first j ++ second j)

pub silence-is-sameness : SilenceIsSameness
silence-is-sameness olds news old_found new_found = (silent-same olds news old_found new_found, same-silent olds news old_found new_found)
