-- The sections of plain texts in texts of the field.
use Rattle.std.proofs.Common.{◌≡◌, ◌∙◌, ◌++◌, ◌||◌, ℕ, Bool, true, false, not, List, [], ◌∷◌, Option, Some, None, refl, ap, map}
use Rattle.std.proofs.Common.{◌⊎◌, inl, inr}
use Rattle.std.specs.Prelude.{codes, fold}
use Rattle.std.specs.List.{list_all}
use Rattle.std.specs.Option.{option_map}
use Rattle.std.specs.Str.{bytes_eq}
use Rattle.std.proofs.lemmas.List.Folds.{list_any-append}
use Rattle.lin_ldf.specs.Forms.{Form, ◌&>◌, ◌<&◌, as_seen, as_value, either, is_front, is_keyword, keyword}
use Rattle.lin_ldf.specs.Grammar as plain
use Rattle.lin_ldf.specs.GrammarLaws.{both_true, is_word, keyword_is_word, keyword_text, no_name_of, not_true}
use Rattle.lin_ldf.specs.KindLaws.{word_is}
use Rattle.lin_ldf.specs.Loops.{is_next}
use Rattle.lin_ldf.specs.Names.{has_name}
use Rattle.lin_ldf.specs.Symbols.{Symbol, is_kind}
use Rattle.lin_ldf.specs.Words.{block, equals, group, int, is_word_but, is_word_next, list, no_word, once, semicolon, word_but}
use Rattle.lin_ldf.specs.declared.node_attributes.NodeBlocks.{NodeBlocks}
use Rattle.lin_ldf.specs.declared.node_attributes.AttributeSettings.{AttributeSettings}
use Rattle.lin_ldf.specs.declared.section.SectionWord.{SectionWord}
use Rattle.lin_ldf.specs.declared.section.SectionWord.TheVariants as words_of
use Rattle.lin_ldf.specs.declared.section.Sections.{Sections}
use Rattle.lin_ldf.specs.declared.token.TokenKind.TheVariants as kinds
use Rattle.lin_field.specs.Grammar as field
use Rattle.lin_field.specs.Marks.{without_extra_marks}
use Rattle.lin_field.specs.PlainTexts.{loose_block, loose_event, loose_frame, loose_signal, loose_table}
use Rattle.lin_field.specs.declared.file.FieldWord.{FieldWord}
use Rattle.lin_field.specs.declared.file.FieldWord.TheVariants as field_words_of
use Rattle.lin_field.specs.declared.file.LooseSections.{LooseSections}
use Rattle.lin_field.specs.declared.items.LooseSettings.{LooseSettings}
use Rattle.lin_field.specs.declared.loose.LooseAttributes.{LooseAttributes}
use Rattle.lin_field.specs.declared.loose.LooseEvent.{LooseEvent}
use Rattle.lin_field.specs.declared.loose.LooseFrame.{LooseFrame}
use Rattle.lin_tool.specs.laws.Texts.{field_words}
use Rattle.lin_tool.proofs.laws.Limits.{IsClean, Limit, clean_front, kept}
use Rattle.lin_tool.proofs.laws.Limits.{Anything, NoEnd, NoSemicolon}
use Rattle.lin_tool.proofs.laws.PlainErrors.{same_error}
use Rattle.lin_tool.proofs.laws.PlainItems.{block_widens, event_widens, frame_widens, keyword_mark, number_within, plain_table_widens, same_group, same_int, same_keyword, same_list, same_mark, same_new_word, same_sporadics, same_word_but, signal_widens, text_within}
use Rattle.lin_tool.proofs.laws.Widens.{Widens, both, gathering_widens, into_choice, into_right, left, of_choice, of_never, relaxed, right, same_either, same_once, same_token, unless_widens, value, value_of}

-- ---- what stands at the front

word_stays : (t : Symbol) (ts : List Symbol) → is_word t ≡ true → without_extra_marks (t ∷ ts) ≡ t ∷ without_extra_marks ts
word_stays t ts e = kept t ts (rw (word_is t.kind e) refl)

-- this word is none of those
pub keyword_front : (w : List ℕ) (ws : List (List ℕ)) → has_name ws w ≡ false → (ts : List Symbol) → is_front (is_keyword w) ts ≡ true
    → is_front (is_word_but ws) (without_extra_marks ts) ≡ true
keyword_front w ws absent [] e = absurd cc
keyword_front w ws absent (t ∷ ts) e =
    let is : is_word t ≡ true = keyword_is_word w t e in
    rw (word_stays t ts is, is, keyword_text w t e, absent) refl

-- a name that is none of some is none of those among them
no_names : (ws vs : List (List ℕ)) (name : List ℕ) → has_name ws name ≡ false → list_all (has_name ws) vs ≡ true → has_name vs name ≡ false
no_names ws [] name absent all = refl
no_names ws (v ∷ vs) name absent all =
    let parts = both_true (has_name ws v) (list_all (has_name ws) vs) all in
    rw (no_name_of ws name (ap not absent) v parts.0) (no_names ws vs name absent parts.1)

-- a word that is none of some, and none of the field's, is none of those among both
pub word_front : (old ws : List (List ℕ)) → list_all (has_name (old ++ field_words)) ws ≡ true → (ts : List Symbol) → IsClean ts
    → is_front (is_word_but old) ts ≡ true → is_front (is_word_but ws) (without_extra_marks ts) ≡ true
word_front old ws all [] c e = absurd cc
word_front old ws all (t ∷ ts) c e =
    let parts = both_true (is_word t) (not (has_name old t.text)) e in
    let none : has_name (old ++ field_words) t.text ≡ false =
    list_any-append (bytes_eq t.text) old field_words ∙ rw (not_true (has_name old t.text) parts.1) (clean_front t ts c) in
    rw (word_stays t ts parts.0, parts.0, no_names (old ++ field_words) ws t.text none all) refl

-- what begins with this
abbrev pub Begins : {A : Type 0} → (Symbol → Bool) → Form A → Type 0
Begins test f = (ts : List Symbol) (a : _) (rest : List Symbol) → f.spells ts a rest → is_front test ts ≡ true

begins_once : {X A : Type 0} (f : Form A) (test : Symbol → Bool) (o : Option X) → Begins test f → Begins test (once o f)
begins_once f test None p = p
begins_once f test (Some x) p = λ ts a rest h. absurd h

begins_other : {B : Type 0} (ws : List (List ℕ)) (f : Form B) → Begins (is_word_but ws) (word_but ws &> f)
begins_other ws f = λ ts a rest h. rw (h.2.1) (h.2.2)

begins_word : {B : Type 0} (w : List ℕ) (f : Form B) → Begins (is_keyword w) (keyword w &> f)
begins_word w f = λ ts a rest h. rw (h.2.1) (h.2.2)

pub begins_keyword : {B C : Type 0} (w : List ℕ) (m : Form B) (f : Form C) → Begins (is_keyword w) (keyword w <& m &> f)
begins_keyword w m f = λ ts a rest h. rw (h.2.2.1) (h.2.2.2)

-- ---- node attributes

one_of : (a b : Bool) → (a || b) ≡ true → (a ≡ true) ⊎ (b ≡ true)
one_of true b e = inl refl
one_of false b e = inr e

same_protocol_text : Widens NoEnd Anything plain.protocol_text plain.protocol_text (λ p. p)
same_protocol_text =
    same_token NoEnd Anything _ plain.protocol_of (λ t e. elim (one_of (is_kind kinds.Text t.kind) (is_kind kinds.Number t.kind) e) [
      | inl is ↦ text_within t is
      | inr is ↦ number_within t is
    ])

same_once_itself : {X A B : Type 0} {s e : Limit} {f : Form A} {g : Form B} {h : A → B} (o : Option X) → Widens s e f g h
    → Widens s e (once o f) (once o g) h
same_once_itself None p = p
same_once_itself (Some x) p = of_never

same_protocol : Widens NoEnd NoSemicolon plain.protocol plain.protocol (λ p. p)
same_protocol =
    right (keyword_mark (codes "LIN_protocol") kinds.Equals) (left same_protocol_text (same_mark kinds.Semicolon) refl) refl

same_configured : Widens NoEnd NoSemicolon plain.configured_nad plain.configured_nad (λ n. n)
same_configured =
    right (keyword_mark (codes "configured_NAD") kinds.Equals) (left same_int (same_mark kinds.Semicolon) refl) refl

same_general : Widens NoEnd NoSemicolon plain.general plain.general (λ u. u)
same_general =
    right (same_word_but plain.attribute_words) (same_either (is_next kinds.Equals) (is_next kinds.Equals)
    (right (same_mark kinds.Equals) same_list refl)
    (relaxed same_group refl refl)) refl

same_named : Widens NoEnd NoSemicolon (as_seen plain.named_error plain.general) (as_seen plain.named_error plain.general) (λ n. n)
same_named = record {
  begins = λ ts a rest x last. same_general.begins ts tt rest x.0 last;
  widened = λ ts a rest x c last. (same_general.widened ts tt rest x.0 c last, x.1 ∙ same_error ts rest x.0 c);
  cleans = λ ts a rest x c. same_general.cleans ts tt rest x.0 c;
}

same_protocols : (s : AttributeSettings)
    → Widens NoEnd NoSemicolon (as_value (plain.with_protocol s) (once s.protocol plain.protocol))
    (as_value (plain.with_protocol s) (once s.protocol plain.protocol)) (λ z. z)
same_protocols s = value (plain.with_protocol s) (plain.with_protocol s) (λ z. z) (same_once_itself s.protocol same_protocol) (λ p. refl)

same_nads : (s : AttributeSettings)
    → Widens NoEnd NoSemicolon (as_value (plain.with_nad s) (once s.configured_nad plain.configured_nad))
    (as_value (plain.with_nad s) (once s.configured_nad plain.configured_nad)) (λ z. z)
same_nads s = value (plain.with_nad s) (plain.with_nad s) (λ z. z) (same_once_itself s.configured_nad same_configured) (λ p. refl)

same_attr : (s : AttributeSettings) → Widens NoEnd NoSemicolon (plain.attr s) (plain.attr s) (λ z. z)
same_attr s =
    same_either (is_word_next (codes "LIN_protocol")) (is_word_next (codes "LIN_protocol")) (same_protocols s)
    (same_either (is_word_next (codes "configured_NAD")) (is_word_next (codes "configured_NAD")) (same_nads s)
    (value (plain.with_error s) (plain.with_error s) (λ z. z) same_named (λ p. refl)))

abbrev loose_settings : AttributeSettings → LooseSettings
loose_settings s = record { plain = s; initial_nad = None }

general_begins : Begins (is_word_but plain.attribute_words) plain.general
general_begins =
    begins_other plain.attribute_words (either (is_next kinds.Equals) (equals &> list) group)

attr_front : (s : AttributeSettings) (ts : List Symbol) (a : AttributeSettings) (rest : List Symbol) → (plain.attr s).spells ts a rest → IsClean ts
    → is_front (is_word_but field.initial_word) (without_extra_marks ts) ≡ true
attr_front s ts a rest x c = elim x [
  | inl y ↦ keyword_front (codes "LIN_protocol") field.initial_word refl ts
      (begins_once plain.protocol (is_keyword (codes "LIN_protocol")) s.protocol
      (begins_keyword (codes "LIN_protocol") equals (plain.protocol_text <& semicolon)) ts y.0 rest y.1)
  | inr y ↦ elim y [
    | inl z ↦ keyword_front (codes "configured_NAD") field.initial_word refl ts
        (begins_once plain.configured_nad (is_keyword (codes "configured_NAD")) s.configured_nad
        (begins_keyword (codes "configured_NAD") equals (int <& semicolon)) ts z.0 rest z.1)
    | inr z ↦ word_front plain.attribute_words field.initial_word refl ts c (general_begins ts tt rest z.1.0)
  ]
]

attr_widens : (s : AttributeSettings) → Widens NoEnd NoSemicolon (plain.attr s) (field.loose_attr (loose_settings s)) loose_settings
attr_widens s =
    into_right (is_word_next (codes "initial_NAD"))
    (as_value (field.with_initial (loose_settings s)) (plain.nad_attribute (codes "initial_NAD")))
    (value_of (field.with_settings (loose_settings s)) (unless_widens field.initial_word (same_attr s) (attr_front s)))

settings_widen : Widens NoEnd Anything plain.settings field.loose_settings loose_settings
settings_widen =
    right (same_mark kinds.OpenBrace)
    (left (gathering_widens plain.attr field.loose_attr loose_settings attr_widens no_word no_word plain.no_settings)
    (same_mark kinds.CloseBrace) refl) refl

block_of_node : (s : NodeBlocks) → Widens NoEnd Anything (plain.attribute_block s) (field.loose_block s) loose_block
block_of_node s =
    value plain.as_attributes field.as_loose_attributes loose_block (both (same_new_word s.seen) settings_widen refl) (λ p. refl)

-- ---- sections

-- the same sections so far, as a text of the field has them
abbrev pub loose_sections : Sections → LooseSections
loose_sections s = record {
  plain = record s { signals = None; frames = None; events = None; attributes = None; tables = None };
  signals = option_map (map loose_signal) s.signals;
  frames = option_map (map loose_frame) s.frames;
  events = option_map (map loose_event) s.events;
  attributes = option_map (map loose_block) s.attributes;
  addresses = None;
  tables = option_map (map loose_table) s.tables;
}

same_fold : {A B S : Type 0} (next : S → A → S) (wide : S → B → S) (h : A → B) → ((s : S) (a : A) → wide s (h a) ≡ next s a) → (s : S) (xs : List A)
    → fold wide s (map h xs) ≡ fold next s xs
same_fold next wide h same s [] = refl
same_fold next wide h same s (x ∷ xs) = ap (λ z. fold wide z (map h xs)) (same s x) ∙ same_fold next wide h same (next s x) xs

signals_widen : (s : Sections)
    → Widens NoEnd Anything (plain.section_of words_of.Signals s) (field.loose_section_of field_words_of.Signals (loose_sections s)) loose_sections
signals_widen s =
    value (plain.with_signals s) (field.with_loose_signals (loose_sections s)) loose_sections
    (same_once s.signals (map loose_signal)
    (right (same_keyword (codes "Signals"))
    (block_widens plain.with_signal field.with_loose_signal plain.signal field.loose_signal loose_signal signal_widens refl (λ z a. refl) []) refl))
    (λ x. refl)

sporadics_widen : (s : Sections)
    → Widens NoEnd Anything (plain.section_of words_of.Sporadic s) (field.loose_section_of field_words_of.Plain (loose_sections s)) loose_sections
sporadics_widen s =
    let sections = (loose_sections s).plain in
    value (plain.with_sporadics s) (field.with_plain (loose_sections s)) loose_sections (unless_widens field.field_section_words
    (into_choice plain.front_section (λ w. plain.section_of w sections) words_of.Sporadic
    (value_of (plain.with_sporadics sections) (same_once_itself s.sporadic (same_sporadics s.frame_names))))
    (λ ts a rest x c. keyword_front (codes "Sporadic_frames") field.field_section_words refl ts
    (begins_once (plain.sporadic s.frame_names) (is_keyword (codes "Sporadic_frames")) s.sporadic
    (begins_word (codes "Sporadic_frames") (block plain.with_sporadic plain.sporadic_frame s.frame_names)) ts a rest x))) (λ x. refl)

unused_widens : (s : Sections)
    → Widens NoEnd Anything (plain.section_of words_of.Unused s) (field.loose_section_of field_words_of.Plain (loose_sections s)) loose_sections
unused_widens s =
    let sections = (loose_sections s).plain in
    value (λ u. s) (field.with_plain (loose_sections s)) loose_sections (unless_widens field.field_section_words
    (into_choice plain.front_section (λ w. plain.section_of w sections) words_of.Unused
    (value_of (λ u. sections) (right (same_word_but plain.section_words) same_group refl)))
    (λ ts a rest x c. word_front plain.section_words field.field_section_words refl ts c
    (begins_other plain.section_words group ts a rest x))) (λ u. refl)

-- the same but for these
abbrev frames_as : Sections → Option (List LooseFrame) → Option (List LooseEvent) → List (List ℕ) → LooseSections
frames_as s frames events names =
    record (loose_sections s) { frames = frames; events = events; plain = record (loose_sections s).plain { frame_names = names } }

abbrev attributes_as : Sections → Option (List LooseAttributes) → NodeBlocks → LooseSections
attributes_as s attributes blocks =
    record (loose_sections s) { attributes = attributes; plain = record (loose_sections s).plain { blocks = blocks } }

frames_widen : (s : Sections)
    → Widens NoEnd Anything (plain.section_of words_of.Frames s) (field.loose_section_of field_words_of.Frames (loose_sections s)) loose_sections
frames_widen s =
    value (plain.with_frames s) (field.with_loose_frames (loose_sections s)) loose_sections
    (same_once s.frames (map loose_frame)
    (right (same_keyword (codes "Frames"))
    (block_widens plain.with_frame field.with_loose_frame plain.frame_declaration field.loose_frame loose_frame frame_widens refl (λ z a. refl) s.frame_names)
    refl))
    (λ x. ap (frames_as s (Some (map loose_frame x)) (loose_sections s).events)
    (same_fold plain.with_frame field.with_loose_frame loose_frame (λ z a. refl) s.frame_names x))

events_widen : (s : Sections)
    → Widens NoEnd Anything (plain.section_of words_of.Event s) (field.loose_section_of field_words_of.Event (loose_sections s)) loose_sections
events_widen s =
    value (plain.with_events s) (field.with_loose_events (loose_sections s)) loose_sections
    (same_once s.events (map loose_event)
    (right (same_keyword (codes "Event_triggered_frames"))
    (block_widens plain.with_event field.with_loose_event plain.event_frame field.loose_event loose_event event_widens refl
    (λ z a. refl) s.frame_names) refl))
    (λ x. ap (frames_as s (loose_sections s).frames (Some (map loose_event x)))
    (same_fold plain.with_event field.with_loose_event loose_event (λ z a. refl) s.frame_names x))

attributes_widen : (s : Sections)
    → Widens NoEnd Anything (plain.section_of words_of.Attributes s)
    (field.loose_section_of field_words_of.Attributes (loose_sections s)) loose_sections
attributes_widen s =
    value (plain.with_attributes s) (field.with_loose_attributes (loose_sections s)) loose_sections
    (same_once s.attributes (map loose_block)
    (right (same_keyword (codes "Node_attributes"))
    (block_widens plain.with_block field.with_loose_block plain.attribute_block field.loose_block loose_block block_of_node refl
    (λ z a. refl) s.blocks) refl))
    (λ x. ap (attributes_as s (Some (map loose_block x)))
    (same_fold plain.with_block field.with_loose_block loose_block (λ z a. refl) s.blocks x))

tables_widen : (s : Sections)
    → Widens NoEnd Anything (plain.section_of words_of.Tables s) (field.loose_section_of field_words_of.Tables (loose_sections s)) loose_sections
tables_widen s =
    value (plain.with_tables s) (field.with_loose_tables (loose_sections s)) loose_sections
    (same_once s.tables (map loose_table)
    (right (same_keyword (codes "Schedule_tables"))
    (block_widens plain.with_table field.with_loose_table plain.table field.loose_table loose_table plain_table_widens refl (λ z a. refl) []) refl))
    (λ x. refl)

abbrev into_section : (s : Sections) (w : SectionWord) (k : FieldWord)
    → Widens NoEnd Anything (plain.section_of w s) (field.loose_section_of k (loose_sections s)) loose_sections
    → Widens NoEnd Anything (plain.section_of w s) (field.loose_section (loose_sections s)) loose_sections
into_section s w k p = into_choice field.front_word (λ x. field.loose_section_of x (loose_sections s)) k p

of_section : (s : Sections) (w : SectionWord) → Widens NoEnd Anything (plain.section_of w s) (field.loose_section (loose_sections s)) loose_sections
of_section s words_of.Signals = into_section s words_of.Signals field_words_of.Signals (signals_widen s)
of_section s words_of.Frames = into_section s words_of.Frames field_words_of.Frames (frames_widen s)
of_section s words_of.Sporadic = into_section s words_of.Sporadic field_words_of.Plain (sporadics_widen s)
of_section s words_of.Event = into_section s words_of.Event field_words_of.Event (events_widen s)
of_section s words_of.Attributes = into_section s words_of.Attributes field_words_of.Attributes (attributes_widen s)
of_section s words_of.Tables = into_section s words_of.Tables field_words_of.Tables (tables_widen s)
of_section s words_of.Nodes = of_never
of_section s words_of.Unused = into_section s words_of.Unused field_words_of.Plain (unused_widens s)

pub section_widens : (s : Sections) → Widens NoEnd Anything (plain.section s) (field.loose_section (loose_sections s)) loose_sections
section_widens s = of_choice plain.front_section (λ w. plain.section_of w s) (of_section s)
