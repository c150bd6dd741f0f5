-- The numbers of keys and words that come several times.
use Rattle.std.specs.Prelude.{◌≡◌, ◌<◌, ◌^◌, ℕ, ◌+◌, ◌==◌, ◌++◌, List, [], ◌∷◌, codes, count_by, if◌then◌else◌, map}
use Rattle.std.specs.Prelude.{length, Some, unwrap_or, zip}
use Rattle.std.specs.Fmt.{decimal}
use Rattle.std.specs.List.{position_from}
use Rattle.std.specs.Option.{option_map_or}
use Rattle.std.specs.Str.{bytes_eq}
use Rattle.indexmap.specs.IndexMap.{IndexMap, get_by}
use denote.Ref.{Bor}
use Rattle.lin_sections.specs.declared.diff.fact.EntryFact.{EntryFact}
use Rattle.lin_sections.specs.declared.diff.fact.Fact.{Fact}

-- how many of some texts are this one
abbrev pub count_of : List (List ℕ) → List ℕ → ℕ
count_of texts text = count_by (λ t. bytes_eq t text) texts

-- for each text, how many earlier ones are the same
abbrev pub repeats_behind : List (List ℕ) → List (List ℕ) → List ℕ
repeats_behind before [] = []
repeats_behind before (t ∷ ts) = count_of before t ∷ repeats_behind (before ++ t ∷ []) ts

abbrev pub repeats : List (List ℕ) → List ℕ
repeats texts = repeats_behind [] texts

-- the second one of a text has ` #2` after it, and so on
abbrev pub again_text : List ℕ → ℕ → List ℕ
again_text text count = text ++ codes " #" ++ decimal (count + 1)

-- the same with a number, if so many earlier ones have the text
abbrev pub number_if_repeated : {X : Type 0} → (X → List ℕ) → (List ℕ → X → X) → ℕ → X → X
number_if_repeated text_of with_text count x =
    if count == 0 then x else with_text (again_text (text_of x) count) x

abbrev pub all_numbered : {X : Type 0} → (X → List ℕ) → (List ℕ → X → X) → List X → List X
all_numbered text_of with_text xs =
    map (λ p. number_if_repeated text_of with_text p.0 p.1) (zip (repeats (map text_of xs)) xs)

-- each key of a fact once
abbrev pub numbered_facts : List Fact → List Fact
numbered_facts fs = all_numbered (λ f. f.key) (λ text f. record f { key = text }) fs

abbrev pub numbered_entries : List EntryFact → List EntryFact
numbered_entries es = all_numbered (λ e. e.word) (λ text e. record e { again = Some text }) es

-- the word by which an entry is found
abbrev pub entry_id : EntryFact → List ℕ
entry_id e = option_map_or (λ again. again) e.again e.word

-- under each text, how many of some texts are this one
abbrev pub AreTextCounts : {S : Type 0} → List (List ℕ) → IndexMap (Bor (List ℕ)) ℕ S → Type 0
AreTextCounts texts m = (q : List ℕ) → unwrap_or (get_by (λ k. bytes_eq q k.now) m) 0 ≡ count_of texts q

-- a text is counted
abbrev pub CountsOneMore : {S : Type 0} → List ℕ → IndexMap (Bor (List ℕ)) ℕ S → IndexMap (Bor (List ℕ)) ℕ S
    → Type 0
CountsOneMore text before after =
    (texts : List (List ℕ)) → length texts + 1 < 2 ^ 64 → AreTextCounts texts before
    → AreTextCounts (texts ++ text ∷ []) after

-- under each text, the place of the first of some texts that is this one
abbrev pub ArePlaces : {S : Type 0} → List (List ℕ) → IndexMap (Bor (List ℕ)) ℕ S → Type 0
ArePlaces texts m =
    (q : List ℕ) → get_by (λ k. bytes_eq q k.now) m ≡ position_from (λ t. bytes_eq t q) 0 texts
