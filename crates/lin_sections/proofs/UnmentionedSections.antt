-- Of tokens of which none is the word of a list or of a section, nothing is read.
use Rattle.std.proofs.Common.{◌≡◌, ◌∙◌, ℕ, false, List, [], ◌∷◌, length, refl, ap}
use Rattle.std.specs.Prelude.{codes}
use Rattle.std.specs.Str.{bytes_eq}
use Rattle.lin_cluster.specs.declared.lints.configurable.Configurable.{Configurable}
use Rattle.lin_parts.specs.declared.description.Name.{Name}
use Rattle.lin_ldf.specs.Forms.{has_front, front, tail}
use Rattle.lin_ldf.specs.Loops.{is_next}
use Rattle.lin_ldf.specs.Symbols.{Symbol}
use Rattle.lin_ldf.specs.Words.{name_of}
use Rattle.lin_ldf.specs.declared.token.TokenKind.TheVariants.{Word, OpenBrace}
use Rattle.lin_sections.specs.Configured.{with_attribute, listed_names, with_frame_list, with_listed, with_node_block, with_blocks, configurables}
use Rattle.lin_sections.specs.Configured as configured
use Rattle.lin_sections.specs.Mentioned.{has_word}
use Rattle.lin_sections.specs.Passed.{behind_line, behind_group}
use Rattle.lin_sections.specs.Reading.{nothing_read, codings_up_to}
use Rattle.lin_sections.specs.Reading as reading
use Rattle.lin_values.specs.declared.codings.Codings.{Codings}
use Rattle.lin_sections.proofs.Repeating.{steps-hold}
use Rattle.lin_sections.proofs.Unmentioned.{Leaves, not-front, not-behind, not-next, line-holds, group-holds, either-leaves, repeated-leaves}

-- ---- lists of configurable frames

abbrev list_word : List ℕ
list_word = codes "configurable_frames"

abbrev Unlisted : List Symbol → Type 0
Unlisted ts = has_word list_word ts ≡ false

behind-unlisted : (ts : List Symbol) → Unlisted ts → Unlisted (tail ts)
behind-unlisted = not-behind list_word

attribute-leaves : (x : List Symbol × List Name) → Leaves Unlisted [] x → Leaves Unlisted [] (with_attribute x)
attribute-leaves x holds =
    let left : Unlisted (tail x.0) = behind-unlisted x.0 holds.0 in
    let group : Leaves Unlisted [] (behind_group (tail x.0), x.1) = (group-holds Unlisted behind-unlisted (tail x.0) left, holds.1) in
    either-leaves Unlisted [] (is_next OpenBrace (tail x.0)) _ (behind_line 0 (tail x.0), x.1) (rw (not-next list_word x.0 holds.0) group) (line-holds Unlisted behind-unlisted 0 (tail x.0) left, holds.1)

listed-leaves : (ts : List Symbol) → Unlisted ts → Leaves Unlisted [] (listed_names ts)
listed-leaves ts holds = repeated-leaves Unlisted behind-unlisted [] with_attribute attribute-leaves (tail ts, []) (behind-unlisted ts holds, refl)

block-leaves : (x : List Symbol × List Configurable) → Leaves Unlisted [] x → Leaves Unlisted [] (with_node_block x)
block-leaves x holds =
    let left : Unlisted (tail x.0) = behind-unlisted x.0 holds.0 in
    let names : Leaves Unlisted [] (listed_names (tail x.0)) = listed-leaves (tail x.0) left in
    let none : with_frame_list (name_of (front x.0)) (listed_names (tail x.0)).1 x.1 ≡ [] = ap (λ ns. with_frame_list (name_of (front x.0)) ns x.1) names.1 ∙ holds.1 in
    either-leaves Unlisted [] (is_next OpenBrace (tail x.0)) (with_listed (name_of (front x.0)) (listed_names (tail x.0)) x.1) (behind_line 0 (tail x.0), x.1) (names.0, none) (line-holds Unlisted behind-unlisted 0 (tail x.0) left, holds.1)

blocks-leave : (ts : List Symbol) (cs : List Configurable) → Unlisted ts → cs ≡ [] → Leaves Unlisted [] (with_blocks ts cs)
blocks-leave ts cs holds none = repeated-leaves Unlisted behind-unlisted [] with_node_block block-leaves (tail ts, cs) (behind-unlisted ts holds, none)

attributes-leave : (x : List Symbol × List Configurable) → Leaves Unlisted [] x → Leaves Unlisted [] (configured.with_statement x)
attributes-leave x holds =
    let left : Unlisted (tail x.0) = behind-unlisted x.0 holds.0 in
    let group : Leaves Unlisted [] (behind_group (tail x.0), x.1) = (group-holds Unlisted behind-unlisted (tail x.0) left, holds.1) in
    let line : Leaves Unlisted [] (behind_line 0 (tail x.0), x.1) = (line-holds Unlisted behind-unlisted 0 (tail x.0) left, holds.1) in
    let section : Leaves Unlisted [] (configured.with_section (front x.0).text (tail x.0) x.1) = either-leaves Unlisted [] (bytes_eq (front x.0).text (codes "Node_attributes")) (with_blocks (tail x.0) x.1) (behind_group (tail x.0), x.1) (blocks-leave (tail x.0) x.1 left holds.1) group in
    either-leaves Unlisted [] (is_next Word x.0) _ (tail x.0, x.1) (either-leaves Unlisted [] (is_next OpenBrace (tail x.0)) (configured.with_section (front x.0).text (tail x.0) x.1) (behind_line 0 (tail x.0), x.1) section line) (left, holds.1)

pub none-configurable : (ts : List Symbol) → has_word (codes "configurable_frames") ts ≡ false → configurables ts ≡ []
none-configurable ts none = (steps-hold (Leaves Unlisted []) (λ x. has_front x.0) configured.with_statement attributes-leave (length ts) (ts, []) (none, refl)).1

-- ---- sections of encodings

abbrev types_word : List ℕ
types_word = codes "Signal_encoding_types"

abbrev lines_word : List ℕ
lines_word = codes "Signal_representation"

abbrev Uncoded : List Symbol → Type 0
Uncoded ts = (has_word types_word ts ≡ false) × (has_word lines_word ts ≡ false)

behind-uncoded : (ts : List Symbol) → Uncoded ts → Uncoded (tail ts)
behind-uncoded ts holds = (not-behind types_word ts holds.0, not-behind lines_word ts holds.1)

section-leaves : (most : ℕ) (t : Symbol) (ts : List Symbol) (f : Codings) → Uncoded (t ∷ ts) → f ≡ nothing_read → Leaves Uncoded nothing_read (reading.with_section most t.text ts f)
section-leaves most t ts f holds none =
    let group : Leaves Uncoded nothing_read (behind_group ts, f) = (group-holds Uncoded behind-uncoded ts (behind-uncoded (t ∷ ts) holds), none) in
    rw (not-front types_word t ts holds.0, not-front lines_word t ts holds.1) group

statement-leaves : (most : ℕ) (ts : List Symbol) (f : Codings) → Uncoded ts → f ≡ nothing_read → Leaves Uncoded nothing_read (reading.with_statement most ts f)
statement-leaves most [] f holds none = (holds, none)
statement-leaves most (t ∷ ts) f holds none =
    let left : Uncoded ts = behind-uncoded (t ∷ ts) holds in
    let line : Leaves Uncoded nothing_read (behind_line 0 ts, f) = (line-holds Uncoded behind-uncoded 0 ts left, none) in
    either-leaves Uncoded nothing_read (is_next Word (t ∷ ts)) _ (ts, f) (either-leaves Uncoded nothing_read (is_next OpenBrace ts) (reading.with_section most t.text ts f) (behind_line 0 ts, f) (section-leaves most t ts f holds none) line) (left, none)

pub none-coded : (most : ℕ) (ts : List Symbol) → has_word (codes "Signal_encoding_types") ts ≡ false → has_word (codes "Signal_representation") ts ≡ false → codings_up_to most ts ≡ nothing_read
none-coded most ts types lines = (steps-hold (Leaves Uncoded nothing_read) (λ x. has_front x.0) (λ x. reading.with_statement most x.0 x.1) (λ x holds. statement-leaves most x.0 x.1 holds.0 holds.1) (length ts) (ts, nothing_read) ((types, lines), refl)).1
