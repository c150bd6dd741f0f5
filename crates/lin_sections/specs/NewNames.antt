-- The names that the new LDF has for the things of the old one. Two names are one thing if each is in one LDF
-- alone, and no other such thing of either LDF has their key.
use Rattle.std.specs.Prelude.{◌≡◌, ◌++◌, ℕ, Bool, List, [], ◌∷◌, Option, Some, None, filter, find, if◌then◌else◌, is_some}
use Rattle.std.specs.Prelude.{map, not, option_and_then, option_map}
use Rattle.std.specs.Option.{option_map_or, option_or}
use Rattle.std.specs.List.{list_any}
use Rattle.std.specs.Str.{bytes_eq}
use Rattle.indexmap.specs.IndexMap.{IndexMap, get_by}
use Rattle.lin_sections.specs.declared.diff.new_names.Keyed.{Keyed}
use Rattle.lin_sections.specs.declared.diff.new_names.KeyNames.{KeyNames}
use Rattle.lin_sections.specs.declared.diff.new_names.KnownNames.{KnownNames}
use Rattle.lin_sections.specs.declared.diff.new_names.NewNames.{NewNames}
use Rattle.lin_sections.specs.declared.diff.renames.Renames.{Renames}
use denote.Ref.{Bor}

-- a thing and the key by which it is found in the other LDF
pub record KeyedName : Type 0 where
  pub name : List ℕ
  pub key : List ℕ

-- under each name of the old LDF, the name that the new LDF has for it
abbrev pub NameMap : Type 0
NameMap = List ℕ → Option (List ℕ)

abbrev pub is_among : List (List ℕ) → List ℕ → Bool
is_among names name = list_any (λ n. bytes_eq n name) names

-- the things of which the other LDF doesn't have the name
abbrev pub alone : (List ℕ → Bool) → List KeyedName → List KeyedName
alone is_other keyed = filter (λ k. not (is_other k.name)) keyed

-- ---- things with the same key

abbrev pub the_only : List KeyedName → Option (List ℕ)
the_only [] = None
the_only (k ∷ []) = Some k.name
the_only (k ∷ l ∷ ks) = None

-- the name of the thing with a key, if one thing alone has it
abbrev pub only_with : List KeyedName → List ℕ → Option (List ℕ)
only_with things key = the_only (filter (λ k. bytes_eq k.key key) things)

abbrev pub renamed_to : List KeyedName → List KeyedName → KeyedName → Option (List ℕ)
renamed_to olds news old = if is_some (only_with olds old.key) then only_with news old.key else None

-- the new name of a thing of which the old LDF alone has the name; its own if it is gone
abbrev pub new_name_of : List KeyedName → List KeyedName → KeyedName → List ℕ
new_name_of olds news old = option_map_or (λ n. n) (renamed_to olds news old) old.name

abbrev pub renamed_in : List KeyedName → List KeyedName → NameMap
renamed_in olds news name = option_map (new_name_of olds news) (find (λ k. bytes_eq k.name name) olds)

-- ---- all names

abbrev pub stays : List (List ℕ) → NameMap
stays names name = if is_among names name then Some name else None

-- the names of the old LDF: those of things that the new LDF doesn't have by them, and others, which stay
abbrev pub new_names : List (List ℕ) → List KeyedName → List KeyedName → NameMap
new_names names olds news name = option_or (renamed_in olds news name) (stays names name)

-- a name as the new LDF has it
abbrev pub name_in : NameMap → List ℕ → List ℕ
name_in names name = option_map_or (λ n. n) (names name) name

-- the names of the things of each kind; frames of all kinds are together
pub record RenamesData : Type 0 where
  pub nodes : NameMap
  pub frames : NameMap
  pub signals : NameMap
  pub tables : NameMap
  pub encodings : NameMap

abbrev pub no_names : NameMap
no_names name = None

abbrev pub no_renames : RenamesData
no_renames =
    record { nodes = no_names; frames = no_names; signals = no_names; tables = no_names; encodings = no_names }

-- a word that is the name of a node, or else of a frame, or else of a signal
abbrev pub any_name : RenamesData → List ℕ → List ℕ
any_name r word =
    option_map_or (λ n. n) (r.nodes word) (option_map_or (λ n. n) (r.frames word) (name_in r.signals word))

abbrev pub has_key : List KeyedName → List ℕ → Bool
has_key things key = list_any (λ k. bytes_eq k.key key) things

-- ---- what contracts see of the code's maps

-- whether a text is among the keys
abbrev pub has_in : {V S : Type 0} → IndexMap (Bor (List ℕ)) V S → List ℕ → Bool
has_in m name = is_some (get_by (λ k. bytes_eq name k.now) m)

-- the names that stay, and the new names of others
abbrev pub known_by : NewNames → NameMap
known_by n name =
    option_or (option_map (λ new. new.now) (get_by (λ k. bytes_eq name k.now) n.renamed))
    (if has_in n.kept.map name then Some name else None)

-- under each key, the name of the only thing that has it; none if several have it
abbrev pub only_in : {S : Type 0} → IndexMap (Bor (List ℕ)) (Option (Bor (List ℕ))) S → List ℕ → Option (List ℕ)
only_in m key = option_and_then (λ o. option_map (λ n. n.now) o) (get_by (λ k. bytes_eq key k.now) m)

abbrev pub keyed_name : Keyed → KeyedName
keyed_name k = record { name = k.name.now; key = k.key }

abbrev pub keyed_names : List Keyed → List KeyedName
keyed_names ks = map keyed_name ks

abbrev pub renames_data : Renames → RenamesData
renames_data r = record {
  nodes = known_by r.nodes;
  frames = known_by r.frames;
  signals = known_by r.signals;
  tables = known_by r.tables;
  encodings = known_by r.encodings;
}

-- keys were added: those of the things that aren't among other names
abbrev pub AddsKeys : KnownNames → List Keyed → List Keyed → List KeyedName → Type 0
AddsKeys others before after things =
    keyed_names after ≡ keyed_names before ++ alone (has_in others.map) things

-- the names of things with a key, as a list of things has them
abbrev pub HasOnly : KeyNames → List KeyedName → List ℕ → Type 0
HasOnly names things key = only_in names.map key ≡ only_with things key

-- the same, after one thing more
abbrev pub only_after : {S : Type 0} → IndexMap (Bor (List ℕ)) (Option (Bor (List ℕ))) S → Keyed → List ℕ → Option (List ℕ)
only_after m k key =
    if bytes_eq k.key key then (if has_in m k.key then None else Some k.name.now) else only_in m key

-- names were added, of which those that were there keep their new names
abbrev pub AddsNames : NewNames → NewNames → NameMap → Type 0
AddsNames before after more = (q : List ℕ) → known_by after q ≡ option_or (known_by before q) (more q)
