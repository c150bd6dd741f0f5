-- No file ends in a stop: its last token is a closing brace.
use Rattle.std.proofs.Common.{◌≡◌, ℕ, Bool, zero, suc, true, false, List, [], ◌∷◌, ◌++◌, Option, Some, None, reverse, sym, ap, subst, ◌∙◌, append_assoc}
use Rattle.std.proofs.lemmas.List.{reverse-append, map-append}
use Rattle.lin_ldf.specs.Symbols.{Symbol, is_kind, symbol_in, symbols_in}
use Rattle.lin_ldf.specs.Stream.{stop}
use Rattle.lin_ldf.specs.Forms.{Form, never, as_value, choice, ◌&>◌, ◌<&◌, ◌&=◌}
use Rattle.lin_ldf.specs.Loops.{ItemSteps}
use Rattle.lin_ldf.specs.Words.{block, is_word_but, group, once, close_brace, with_name}
use Rattle.lin_ldf.specs.Laws.{Behind, Lawful, Taking, anything, token_takes, mark_takes, keyword_takes}
use Rattle.lin_ldf.specs.LoopLaws.{several_lawful}
use Rattle.lin_ldf.specs.UpToLaws.{up_to_lawful}
use Rattle.lin_ldf.specs.Grammar.{signal, section_words, with_signal, frame_declaration, with_frame, sporadic_frame, with_sporadic, event_frame, with_event, attribute_block, with_block, table, with_table, with_signals, with_frames, with_sporadics, with_events, with_attributes, with_tables, section_of, section, slaves, nodes_section, as_nodes, declared_node_names, no_sections}
use Rattle.lin_ldf.specs.GrammarLaws.{has_kind, keyword_before, words_end, new_words_lawful, header_takes, master_takes, signal_takes, frame_takes, sporadic_frame_takes, event_frame_takes, attribute_block_takes, table_takes}
use Rattle.lin_ldf.specs.Describes.{Spells}
use Rattle.lin_ldf.specs.declared.token.TokenKind.TheVariants as kinds
use Rattle.lin_ldf.specs.declared.section.SectionWord.{SectionWord}
use Rattle.lin_ldf.specs.declared.section.SectionWord.TheVariants as words_of
use Rattle.lin_ldf.specs.declared.section.Sections.{Sections}
use Rattle.lin_ldf.specs.declared.token.Token.{Token}
use Rattle.lin_parts.specs.declared.place.Location.{Location}
use Rattle.lin_parts.specs.declared.description.Description.{Description}

-- some symbols, the last of them a closing brace, and then the rest
abbrev pub Closed : List Symbol → List Symbol → Type 0
Closed ts rest = (w : List Symbol) × (t : Symbol) × (ts ≡ w ++ t ∷ rest) × (is_kind kinds.CloseBrace t.kind ≡ true)

pub record Closes {A : Type 0} (f : Form A) : Type 0 where
  pub closed : (ts : List Symbol) (a : A) (rest : List Symbol) → f.spells ts a rest → Closed ts rest

pub after : (ts mid rest : List Symbol) → Behind ts mid → Closed mid rest → Closed ts rest
after ts mid rest (v, e) (w, t, f, k) = (v ++ w, t, e ∙ ap (λ (x : List Symbol). v ++ x) f ∙ sym (append_assoc v w (t ∷ rest)), k)

as_behind : (ts rest : List Symbol) → Closed ts rest → Behind ts rest
as_behind ts rest (w, t, e, k) = (w ++ t ∷ [], e ∙ sym (append_assoc w (t ∷ []) rest))

closes_left : {A : Type 0} {ends : List Symbol → Bool} {f : Form A} → Lawful ends f → Closes (f <& close_brace)
closes_left {f = f} p = record { closed = λ ts a rest h. after ts h.0 rest (p.behind ts a h.0 h.2) ([], h.3.0, h.3.1, h.3.2) }

pub closes_right : {A B : Type 0} {ends : List Symbol → Bool} {f : Form A} {g : Form B} → Lawful ends f → Closes g → Closes (f &> g)
closes_right {f = f} {g = g} p q = record { closed = λ ts b rest h. after ts h.1 rest (p.behind ts h.0 h.1 h.2) (q.closed h.1 b rest h.3) }

pub closes_then : {A B : Type 0} {ends : List Symbol → Bool} {f : Form A} {g : A → Form B} → Lawful ends f → ((a : A) → Closes (g a)) → Closes (f &= g)
closes_then {f = f} {g = g} p q = record { closed = λ ts ab rest h. after ts h.0 rest (p.behind ts ab.0 h.0 h.1) ((q ab.0).closed h.0 ab.1 rest h.2) }

pub closes_value : {A B : Type 0} {f : Form A} (make : A → B) → Closes f → Closes (as_value make f)
closes_value {f = f} make q = record { closed = λ ts b rest h. q.closed ts h.0 rest h.1 }

pub closes_choice : {K A : Type 0} {kind : List Symbol → K} {forms : K → Form A} → ((k : K) → Closes (forms k)) → Closes (choice kind forms)
closes_choice q = record { closed = λ ts a rest h. (q h.0).closed ts a rest h.1 }

never_closes : {A : Type 0} → Closes (never {A = A})
never_closes {A} = record { closed = λ ts a rest h. absurd h }

pub closes_once : {A B : Type 0} (o : Option A) {f : Form B} → Closes f → Closes (once o f)
closes_once None q = q
closes_once (Some x) q = never_closes

pub block_closes : {A S : Type 0} (next : S → A → S) (f : S → Form A) → ((s : S) → Taking (has_kind kinds.Word) anything (f s)) → (s : S) → Closes (block next f s)
block_closes next f p s = closes_right (mark_takes kinds.OpenBrace).lawful (closes_left (several_lawful (has_kind kinds.Word) next f p s))

group_closes : Closes group
group_closes = closes_right (mark_takes kinds.OpenBrace).lawful (closes_left (up_to_lawful kinds.CloseBrace))

pub slaves_close : (seen : List (List ℕ)) → Closes (slaves seen)
slaves_close seen = closes_right (keyword_before _ kinds.Colon).lawful (closes_left (words_end (new_words_lawful seen)))

nodes_close : Closes nodes_section
nodes_close = closes_value as_nodes (closes_right (keyword_before _ kinds.OpenBrace).lawful (closes_then (master_takes []).lawful (λ m. slaves_close (with_name [] m.0))))

section_closes : (s : Sections) (w : SectionWord) → Closes (section_of w s)
section_closes s words_of.Signals = closes_value (with_signals s) (closes_once s.signals (closes_right (keyword_takes _).lawful (block_closes with_signal signal signal_takes [])))
section_closes s words_of.Frames = closes_value (with_frames s) (closes_once s.frames (closes_right (keyword_takes _).lawful (block_closes with_frame frame_declaration frame_takes s.frame_names)))
section_closes s words_of.Sporadic = closes_value (with_sporadics s) (closes_once s.sporadic (closes_right (keyword_takes _).lawful (block_closes with_sporadic sporadic_frame sporadic_frame_takes s.frame_names)))
section_closes s words_of.Event = closes_value (with_events s) (closes_once s.events (closes_right (keyword_takes _).lawful (block_closes with_event event_frame event_frame_takes s.frame_names)))
section_closes s words_of.Attributes = closes_value (with_attributes s) (closes_once s.attributes (closes_right (keyword_takes _).lawful (block_closes with_block attribute_block attribute_block_takes s.blocks)))
section_closes s words_of.Tables = closes_value (with_tables s) (closes_once s.tables (closes_right (keyword_takes _).lawful (block_closes with_table table table_takes [])))
section_closes s words_of.Nodes = never_closes
section_closes s words_of.Unused = closes_value (λ u. s) (closes_right (token_takes (is_word_but section_words) _).lawful group_closes)

pub sections_close : (s : Sections) → Closes (section s)
sections_close s = closes_choice (section_closes s)

pub steps_close : {S : Type 0} (form : S → Form S) → ((s : S) → Closes (form s)) → (n : ℕ) (whole : List Symbol) (s : S) (ts : List Symbol) (last : S) (rest : List Symbol) → Closed whole ts → ItemSteps (λ x. (form x).spells) n s ts last rest → Closed whole rest
steps_close form closes zero whole s ts last rest c h = subst (Closed whole) (sym h.1) c
steps_close form closes (suc n) whole s ts last rest c h =
    steps_close form closes n whole h.0 h.1 last rest (after whole ts h.1 (as_behind whole ts c) ((closes s).closed ts h.0 h.1 h.2)) h.3

file_closes : (ss : List Symbol) (d : Description) → Spells ss d → Closed ss []
unfolding Spells
file_closes ss d h =
    let first = h.1.1 in
    let begun : Closed ss h.1.0 = after ss first.0 h.1.0 (header_takes.lawful.behind ss h.0.0.0 first.0 first.1) (nodes_close.closed first.0 h.0.0.1 h.1.0 first.2) in
    let sections = h.1.2 in
    subst (Closed ss) sections.3.0 (steps_close section sections_close sections.2.0 ss (no_sections (declared_node_names h.0.0.1)) h.1.0 h.0.1 sections.0 begun sections.2.1)

same_last : (xs ys : List Symbol) (s t : Symbol) → xs ++ s ∷ [] ≡ ys ++ t ∷ [] → s ≡ t
same_last xs ys s t e =
    let turned : s ∷ reverse xs ≡ t ∷ reverse ys = sym (reverse-append xs (s ∷ [])) ∙ ap (λ (x : List Symbol). reverse x) e ∙ reverse-append ys (t ∷ []) in
    cc

-- tokens whose last one is a closing brace don't end in a stop
pub no_stop : (source : List ℕ) (ts : List Token) (p : Location) → Closed (symbols_in source (ts ++ stop p ∷ [])) [] → ⊥
no_stop source ts p c =
    let same : c.1 ≡ symbol_in source (stop p) = same_last c.0 (symbols_in source ts) c.1 (symbol_in source (stop p)) (sym c.2 ∙ map-append (symbol_in source) ts (stop p ∷ [])) in
    let bad : false ≡ true = sym (ap (λ (t : Symbol). is_kind kinds.CloseBrace t.kind) same) ∙ c.3 in
    absurd cc

pub never_stops : (source : List ℕ) (ts : List Token) (p : Location) (d : Description) → Spells (symbols_in source (ts ++ stop p ∷ [])) d → ⊥
never_stops source ts p d h = no_stop source ts p (file_closes (symbols_in source (ts ++ stop p ∷ [])) d h)
