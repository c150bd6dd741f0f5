-- The productions of texts of the field are lawful: one token decides.
use Rattle.std.proofs.Common.{◌≡◌, ℕ, Bool, true, false, cond, not, List, [], ◌∷◌, Option}
use Rattle.std.proofs.Common.{Some, None, refl, sym, ap, ◌∙◌}
use Rattle.std.specs.Prelude.{codes}
use Rattle.lin_ldf.specs.Symbols.{Symbol}
use Rattle.lin_ldf.specs.Names.{has_name}
use Rattle.lin_ldf.specs.Forms.{Form, is_front, is_keyword, ◌>>=◌, ◌&>◌, ◌<&◌}
use Rattle.lin_ldf.specs.Loops.{is_next}
use Rattle.lin_ldf.specs.Words.{word, int, ints, comma, is_word_but, no_comma, no_word, consed_of}
use Rattle.lin_ldf.specs.Words.{others}
use Rattle.lin_ldf.specs.Words.{name_of, same_state, with_name}
use Rattle.lin_ldf.specs.KindLaws.{number_is, open_brace_is, close_brace_is, semicolon_is}
use Rattle.lin_ldf.specs.KindLaws.{is_other_kind}
use Rattle.lin_ldf.specs.Laws.{Lawful, Taking, anything, Follows, AlwaysPasses, before}
use Rattle.lin_ldf.specs.Laws.{comes_before, token_takes, mark_takes, keyword_takes, both_lawful}
use Rattle.lin_ldf.specs.Laws.{both_before, both_take, right_take, left_before, left_lawful}
use Rattle.lin_ldf.specs.Laws.{left_take, value_lawful, value_takes, either_lawful, either_takes}
use Rattle.lin_ldf.specs.Laws.{choice_takes, nothing_lawful, begins_so, bind_some, made, made_is}
use Rattle.lin_ldf.specs.Laws.{then_lawful, then_take, both_take_before, end_lawful, fails_at}
use Rattle.lin_ldf.specs.LoopLaws.{gathered_lawful, several_lawful}
use Rattle.lin_ldf.specs.Grammar.{placement, placed_signals, event_rest, nad_attribute}
use Rattle.lin_ldf.specs.GrammarLaws.{has_kind, is_word, both_true, keyword_text, keyword_is_word}
use Rattle.lin_ldf.specs.GrammarLaws.{other_is_word, declared_takes, int_takes, keyword_before}
use Rattle.lin_ldf.specs.GrammarLaws.{ended_by, no_word_after, words_lawful, words_end, word_takes}
use Rattle.lin_ldf.specs.GrammarLaws.{block_takes, once_takes, is_not_word, has_group_lawful}
use Rattle.lin_ldf.specs.GrammarLaws.{no_brace, no_brace_of, attr_takes, placed_takes, section_takes}
use Rattle.lin_ldf.specs.GrammarLaws.{not_true, list_lawful, no_name_of, slaves_take, no_comma_of}
use Rattle.lin_ldf.specs.declared.token.TokenKind.TheVariants as kinds
use Rattle.lin_ldf.specs.declared.node_attributes.NodeBlocks.{NodeBlocks}
use Rattle.lin_field.specs.Grammar.{unless, made_of, some_of, decimal, decimal_in, loose_version}
use Rattle.lin_field.specs.Grammar.{loose_speed, line_words_known, line_ends, other_of, other_line}
use Rattle.lin_field.specs.Grammar.{line_word, front_line, with_version, with_language, with_speed}
use Rattle.lin_field.specs.Grammar.{order_line, with_little, with_big, with_other, header_line_of, header_line, no_line}
use Rattle.lin_field.specs.Grammar.{one_line, no_lines, header_lines, complete_header, loose_header, master_rest, loose_master, as_loose_nodes}
use Rattle.lin_field.specs.Grammar.{loose_nodes, loose_node_names, no_loose_sections, loose_of, field_file}
use Rattle.lin_field.specs.Grammar.{wide_int, as_loose_array, loose_array, as_loose_scalar, loose_init, as_loose_signal}
use Rattle.lin_field.specs.Grammar.{loose_signal, with_loose_signal, with_loose_signals, optional_size}
use Rattle.lin_field.specs.Grammar.{as_loose_frame, loose_frame, with_loose_frame, event_table, as_loose_event}
use Rattle.lin_field.specs.Grammar.{loose_event, with_loose_event, initial_word, with_initial}
use Rattle.lin_field.specs.Grammar.{with_settings, loose_attr, no_loose_settings, loose_settings}
use Rattle.lin_field.specs.Grammar.{as_loose_attributes, loose_block, with_loose_block, as_node_address, node_address}
use Rattle.lin_field.specs.Grammar.{as_loose_entry, loose_entry, as_loose_table, loose_table, with_loose_table}
use Rattle.lin_field.specs.Grammar.{field_section_words, field_word, front_word, with_plain}
use Rattle.lin_field.specs.Grammar.{with_loose_frames, with_loose_events, with_loose_attributes, with_addresses}
use Rattle.lin_field.specs.Grammar.{with_loose_tables, loose_section_of, loose_section}
use Rattle.lin_field.specs.declared.header.Lines.{Lines}
use Rattle.lin_field.specs.declared.header.LineWord.{LineWord}
use Rattle.lin_field.specs.declared.header.LineWord.TheVariants as line_words
use Rattle.lin_field.specs.declared.items.LooseSettings.{LooseSettings}
use Rattle.lin_field.specs.declared.file.FieldWord.{FieldWord}
use Rattle.lin_field.specs.declared.file.FieldWord.TheVariants as field_words
use Rattle.lin_field.specs.declared.file.LooseSections.{LooseSections}

-- ---- forms

tested : {A : Type 0} (b : Bool) (o : Option A) (x : A) → cond b o None ≡ Some x
    → (b ≡ true) × (o ≡ Some x)
tested true o x e = (refl, e)
tested false o x e = absurd cc

pub unless_takes : {A : Type 0} {first : Symbol → Bool} {f : Form A} (words : List (List ℕ))
    → Taking first anything f → Taking (is_word_but words) anything (unless words f)
unless_takes {f = f} words p = record {
  lawful = record {
    found = λ ts a rest e. let h = tested (is_front (is_word_but words) ts) (f.read ts) (a, rest) e
        in (h.0, p.lawful.found ts a rest h.1);
    again = λ ts a rest h is. rw (h.0) (p.lawful.again ts a rest h.1 is);
    keeps = λ ts a rest e. p.lawful.keeps ts a rest
        (tested (is_front (is_word_but words) ts) (f.read ts) (a, rest) e).1;
    behind = λ ts a rest h. p.lawful.behind ts a rest h.1;
  };
  shrinks = λ ts a rest e. p.shrinks ts a rest
      (tested (is_front (is_word_but words) ts) (f.read ts) (a, rest) e).1;
  begins = λ ts a rest h. h.0;
}

made_parts : {A B : Type 0} (make : A → Option B) (f : Form A) (ts : List Symbol) (b : B)
    (rest : List Symbol) → (made_of make f).read ts ≡ Some (b, rest)
    → (a : A) × (f.read ts ≡ Some (a, rest)) × (make a ≡ Some b)
made_parts {A} {B} make f ts b rest e =
    let p = bind_some (f.read ts) (λ a. make a.0 >>= λ x. made (x, a.1)) (b, rest) e in
    let q = bind_some (make p.0.0) (λ x. made (x, p.0.1)) (b, rest) p.2 in
    let same : (q.0, p.0.1) ≡ (b, rest) = made_is (q.0, p.0.1) (b, rest) q.2 in (
      p.0.0,
      p.1 ∙ ap (λ (x : B × List Symbol). made (p.0.0, x.1)) same,
      q.1 ∙ ap (λ (x : B × List Symbol). made x.0) same,
    )

pub made_takes : {A B : Type 0} {first : Symbol → Bool} {ends : List Symbol → Bool} {f : Form A}
    (make : A → Option B) → Taking first ends f → Taking first ends (made_of make f)
made_takes {f = f} make p = record {
  lawful = record {
    found = λ ts b rest e. let h = made_parts make f ts b rest e
        in (h.0, p.lawful.found ts h.0 rest h.1, h.2);
    again = λ ts b rest h is. rw (p.lawful.again ts h.0 rest h.1 is, h.2) refl;
    keeps = λ ts b rest e. let h = made_parts make f ts b rest e
        in p.lawful.keeps ts h.0 rest h.1;
    behind = λ ts b rest h. p.lawful.behind ts h.0 rest h.1;
  };
  shrinks = λ ts b rest e. let h = made_parts make f ts b rest e in p.shrinks ts h.0 rest h.1;
  begins = λ ts b rest h. p.begins ts h.0 rest h.1;
}

-- ---- numbers

decimal_takes : Taking (has_kind kinds.Number) anything decimal
decimal_takes =
    begins_so _ (has_kind kinds.Number)
    (λ t e. (both_true (has_kind kinds.Number t) _ e).0) (token_takes _ _)

decimal_in_takes : (unit : List ℕ) (kind : _)
    → Taking (has_kind kinds.Number) anything (decimal_in unit kind)
decimal_in_takes unit kind = left_take decimal_takes (keyword_before unit kind).lawful

-- ---- the header

version_takes : (w : List ℕ) → Taking (is_keyword w) anything (loose_version w)
version_takes w =
    right_take (keyword_before w kinds.Equals)
    (left_lawful (token_takes _ _).lawful (mark_takes kinds.Semicolon).lawful)

speed_takes : Taking (is_keyword (codes "LIN_speed")) anything loose_speed
speed_takes =
    right_take (keyword_before _ kinds.Equals) (decimal_in_takes _ kinds.Semicolon).lawful

other_line_takes : Taking is_word anything other_line
other_line_takes =
    value_takes other_of
    (both_take word_takes
    (either_takes (has_kind kinds.Equals) (has_kind kinds.Equals) (has_kind kinds.Semicolon) (λ t. true)
    (value_takes (λ u. true) (right_take (mark_takes kinds.Equals) list_lawful))
    (value_takes (λ u. false) (mark_takes kinds.Semicolon)) (λ t e. e)
    (λ t e. is_other_kind kinds.Semicolon kinds.Equals t.kind (semicolon_is t.kind e) refl)
    (λ t e. refl) (λ t e. refl)).lawful)

-- what each line begins with
line_begin : LineWord → Symbol → Bool
line_begin line_words.Version = is_keyword (codes "LIN_protocol_version")
line_begin line_words.Language = is_keyword (codes "LIN_language_version")
line_begin line_words.Speed = is_keyword (codes "LIN_speed")
line_begin line_words.LittleEndian = is_keyword (codes "LIN_sig_byte_order_little_endian")
line_begin line_words.BigEndian = is_keyword (codes "LIN_sig_byte_order_big_endian")
line_begin line_words.Other = is_word_but line_words_known

order_line_takes : (w : List ℕ) → Taking (is_keyword w) anything (order_line w)
order_line_takes w =
    left_take (token_takes (is_keyword w) name_of) (mark_takes kinds.Semicolon).lawful

line_of_takes : (s : Lines) (w : LineWord) → Taking (line_begin w) anything (header_line_of w s)
unfolding line_begin
line_of_takes s line_words.Version =
    value_takes (with_version s) (once_takes s.version (version_takes _))
line_of_takes s line_words.Language =
    value_takes (with_language s) (once_takes s.language (version_takes _))
line_of_takes s line_words.Speed = value_takes (with_speed s) (once_takes s.speed speed_takes)
line_of_takes s line_words.LittleEndian =
    value_takes (with_little s) (once_takes s.little_endian (order_line_takes _))
line_of_takes s line_words.BigEndian =
    value_takes (with_big s) (once_takes s.big_endian (order_line_takes _))
line_of_takes s line_words.Other =
    value_takes (with_other s) (unless_takes line_words_known other_line_takes)

-- a word that is none of these begins another line
other_word : (w : List ℕ) → not (has_name line_words_known w) ≡ true
    → line_word w ≡ line_words.Other
other_word w none =
    let no = no_name_of line_words_known w none in
    rw (
      no (codes "LIN_protocol_version") refl,
      no (codes "LIN_language_version") refl,
      no (codes "LIN_speed") refl,
      no (codes "LIN_sig_byte_order_little_endian") refl,
      no (codes "LIN_sig_byte_order_big_endian") refl,
    ) refl

line_decides : (w : List ℕ) (t : Symbol) → is_keyword w t ≡ true → line_word t.text ≡ line_word w
line_decides w t e = ap line_word (keyword_text w t e)

-- one token decides which line it is
line_is : (w : LineWord) (t : Symbol) (ts : List Symbol) → line_begin w t ≡ true
    → front_line (t ∷ ts) ≡ w
unfolding line_begin
line_is line_words.Version t ts e = line_decides (codes "LIN_protocol_version") t e
line_is line_words.Language t ts e = line_decides (codes "LIN_language_version") t e
line_is line_words.Speed t ts e = line_decides (codes "LIN_speed") t e
line_is line_words.LittleEndian t ts e =
    line_decides (codes "LIN_sig_byte_order_little_endian") t e
line_is line_words.BigEndian t ts e = line_decides (codes "LIN_sig_byte_order_big_endian") t e
line_is line_words.Other t ts e =
    other_word t.text (both_true (is_word t) (not (has_name line_words_known t.text)) e).1

line_begins_word : (w : LineWord) → AlwaysPasses (line_begin w) is_word
unfolding line_begin
line_begins_word line_words.Version = keyword_is_word _
line_begins_word line_words.Language = keyword_is_word _
line_begins_word line_words.Speed = keyword_is_word _
line_begins_word line_words.LittleEndian = keyword_is_word _
line_begins_word line_words.BigEndian = keyword_is_word _
line_begins_word line_words.Other = other_is_word line_words_known

line_takes : (s : Lines) → Taking is_word anything (header_line s)
line_takes s =
    choice_takes front_line line_begin is_word (line_of_takes s) line_is line_begins_word

pub one_line_takes : (s : Lines) → Taking (is_word_but line_ends) anything (one_line s)
one_line_takes s = unless_takes line_ends (line_takes s)

lines_take : Taking (is_keyword (codes "LIN_description_file")) no_line header_lines
lines_take =
    right_take (keyword_before _ kinds.Semicolon)
    (gathered_lawful (is_word_but line_ends) one_line one_line_takes no_lines)

pub header_takes : Taking (is_keyword (codes "LIN_description_file")) no_line loose_header
header_takes = made_takes complete_header lines_take

no_line_at_nodes : Follows (is_keyword (codes "Nodes")) no_line
no_line_at_nodes t ts e =
    let has : has_name line_ends t.text ≡ true = rw (keyword_text (codes "Nodes") t e) refl in
    rw (has, keyword_is_word (codes "Nodes") t e) refl

-- ---- nodes

master_rest_takes : Taking (λ t. true) anything master_rest
master_rest_takes =
    either_takes (has_kind kinds.Comma) (has_kind kinds.Comma) (has_kind kinds.Semicolon) (λ t. true)
    (right_take (mark_takes kinds.Comma) list_lawful) (mark_takes kinds.Semicolon) (λ t e. e)
    (λ t e. is_other_kind kinds.Semicolon kinds.Comma t.kind (semicolon_is t.kind e) refl)
    (λ t e. refl) (λ t e. refl)

pub master_takes : (seen : List (List ℕ))
    → Taking (is_keyword (codes "Master")) anything (loose_master seen)
master_takes seen =
    right_take (keyword_before _ kinds.Colon)
    (both_lawful (left_lawful (declared_takes seen).lawful (mark_takes kinds.Comma).lawful)
    (both_lawful (decimal_in_takes _ kinds.Comma).lawful
    (left_lawful (left_lawful decimal_takes.lawful (keyword_takes _).lawful)
    master_rest_takes.lawful)))

nodes_take : Taking (is_keyword (codes "Nodes")) anything loose_nodes
nodes_take =
    value_takes as_loose_nodes
    (right_take (keyword_before _ kinds.OpenBrace)
    (then_lawful (master_takes []).lawful (λ m. (slaves_take (with_name [] m.0)).lawful)))

-- ---- signals

pub wide_int_takes : Taking (has_kind kinds.Number) anything wide_int
wide_int_takes =
    begins_so _ (has_kind kinds.Number)
    (λ t e. (both_true (has_kind kinds.Number t) _ e).0) (token_takes _ _)

-- { ',' x }*
others_lawful : {A : Type 0} {first : Symbol → Bool} (f : Form A) → Taking first anything f
    → Lawful no_comma (others same_state (λ (s : Unit {0}). f) tt)
others_lawful f p =
    several_lawful (has_kind kinds.Comma) same_state (λ (s : Unit {0}). comma &> f)
    (λ s. right_take (mark_takes kinds.Comma) p.lawful) tt

ints_lawful : Lawful no_comma ints
ints_lawful =
    value_lawful consed_of (then_lawful int_takes.lawful (λ n. others_lawful int int_takes))

array_takes : Taking (has_kind kinds.OpenBrace) anything loose_array
array_takes =
    value_takes as_loose_array
    (both_take (token_takes (has_kind kinds.OpenBrace) _)
    (ended_by kinds.CloseBrace ints_lawful (no_comma_of kinds.CloseBrace close_brace_is refl)))

init_lawful : Lawful anything loose_init
init_lawful =
    either_lawful (is_next kinds.OpenBrace) array_takes.lawful
    (value_lawful as_loose_scalar wide_int_takes.lawful) array_takes.begins
    (λ ts a rest h is. fails_at (has_kind kinds.Number) (has_kind kinds.OpenBrace)
    (λ t e. is_other_kind kinds.Number kinds.OpenBrace t.kind (number_is t.kind e) refl) ts
    ((value_takes as_loose_scalar wide_int_takes).begins ts a rest h))

pub loose_signal_takes : (seen : List (List ℕ)) → Taking is_word anything (loose_signal seen)
loose_signal_takes seen =
    value_takes as_loose_signal
    (both_take (left_take (declared_takes seen) (mark_takes kinds.Colon).lawful)
    (both_lawful (left_lawful int_takes.lawful (mark_takes kinds.Comma).lawful)
    (both_lawful (left_lawful init_lawful (mark_takes kinds.Comma).lawful)
    (both_lawful word_takes.lawful (words_end (others_lawful word word_takes))))))

-- ---- frames

size_takes : Taking (has_kind kinds.Comma) anything (comma &> int)
size_takes = right_take (mark_takes kinds.Comma) int_takes.lawful

frame_size_lawful : Lawful no_comma optional_size
frame_size_lawful =
    either_lawful (is_next kinds.Comma) (before no_comma (value_lawful some_of size_takes.lawful))
    (before no_comma (nothing_lawful None)) (value_takes some_of size_takes).begins
    (λ ts a rest h is. not_true _ (ap no_comma (sym h.1) ∙ is))

no_comma_at_brace : Follows (has_kind kinds.OpenBrace) no_comma
no_comma_at_brace t ts e =
    ap not (is_other_kind kinds.OpenBrace kinds.Comma t.kind (open_brace_is t.kind e) refl)

placed_take : Taking (has_kind kinds.OpenBrace) anything placed_signals
placed_take = block_takes same_state (λ (s : Unit {0}). placement) placed_takes tt

pub loose_frame_takes : (seen : List (List ℕ)) → Taking is_word anything (loose_frame seen)
loose_frame_takes seen =
    value_takes as_loose_frame
    (both_take (left_take (declared_takes seen) (mark_takes kinds.Colon).lawful)
    (both_lawful (left_lawful int_takes.lawful (mark_takes kinds.Comma).lawful)
    (both_lawful word_takes.lawful
    (both_before frame_size_lawful placed_take.lawful
    (comes_before no_comma placed_take no_comma_at_brace)))))

-- ---- event-triggered frames

named_takes : Taking is_word anything (word <& comma)
named_takes = left_take word_takes (mark_takes kinds.Comma).lawful

event_table_lawful : Lawful no_word event_table
event_table_lawful =
    either_lawful (is_next kinds.Word) (before no_word (value_lawful some_of named_takes.lawful))
    (before no_word (nothing_lawful None)) (value_takes some_of named_takes).begins
    (λ ts a rest h is. not_true _ (ap no_word (sym h.1) ∙ is))

no_word_at_number : Follows (has_kind kinds.Number) no_word
no_word_at_number t ts e =
    ap not (is_other_kind kinds.Number kinds.Word t.kind (number_is t.kind e) refl)

event_rest_takes : Taking (has_kind kinds.Number) anything event_rest
event_rest_takes =
    both_take (left_take int_takes (mark_takes kinds.Comma).lawful) (words_end words_lawful)

pub loose_event_takes : (seen : List (List ℕ)) → Taking is_word anything (loose_event seen)
loose_event_takes seen =
    value_takes as_loose_event
    (both_take (left_take (declared_takes seen) (mark_takes kinds.Colon).lawful)
    (both_before event_table_lawful event_rest_takes.lawful
    (comes_before no_word event_rest_takes no_word_at_number)))

-- ---- node attributes

initial_takes : Taking (is_keyword (codes "initial_NAD")) anything (nad_attribute (codes "initial_NAD"))
initial_takes =
    right_take (keyword_before _ kinds.Equals)
    (left_lawful int_takes.lawful (mark_takes kinds.Semicolon).lawful)

pub loose_attr_takes : (s : LooseSettings) → Taking is_word anything (loose_attr s)
loose_attr_takes s =
    either_takes (is_keyword (codes "initial_NAD")) (is_keyword (codes "initial_NAD"))
    (is_word_but initial_word) is_word
    (value_takes (with_initial s) (once_takes s.initial_nad initial_takes))
    (value_takes (with_settings s) (unless_takes initial_word (attr_takes s.plain))) (λ t e. e)
    (is_not_word initial_word (codes "initial_NAD") refl) (keyword_is_word _)
    (other_is_word initial_word)

settings_take : Taking (has_kind kinds.OpenBrace) anything loose_settings
settings_take =
    right_take (mark_takes kinds.OpenBrace)
    (ended_by kinds.CloseBrace
    (gathered_lawful is_word loose_attr loose_attr_takes no_loose_settings) no_word_after)

pub loose_block_takes : (s : NodeBlocks) → Taking is_word anything (loose_block s)
loose_block_takes s =
    value_takes as_loose_attributes (both_take (declared_takes s.seen) settings_take.lawful)

pub address_takes : (s : Unit {0}) → Taking is_word anything node_address
address_takes s =
    value_takes as_node_address
    (both_take (left_take word_takes (mark_takes kinds.Colon).lawful)
    (left_lawful int_takes.lawful (mark_takes kinds.Semicolon).lawful))

-- ---- schedule tables

pub loose_entry_takes : (s : Unit {0}) → Taking is_word anything loose_entry
loose_entry_takes s =
    value_takes as_loose_entry
    (both_take word_takes
    (both_lawful
    (left_before has_group_lawful (keyword_takes _).lawful
    (comes_before no_brace (keyword_takes _) (no_brace_of _)))
    (decimal_in_takes _ kinds.Semicolon).lawful))

pub loose_table_takes : (seen : List (List ℕ)) → Taking is_word anything (loose_table seen)
loose_table_takes seen =
    value_takes as_loose_table
    (both_take (declared_takes seen)
    (block_takes same_state (λ (s : Unit {0}). loose_entry) loose_entry_takes tt).lawful)

-- ---- sections

-- what each section begins with
begin_of : FieldWord → Symbol → Bool
begin_of field_words.Signals = is_keyword (codes "Signals")
begin_of field_words.Frames = is_keyword (codes "Frames")
begin_of field_words.Event = is_keyword (codes "Event_triggered_frames")
begin_of field_words.Attributes = is_keyword (codes "Node_attributes")
begin_of field_words.Addresses = is_keyword (codes "Diagnostic_addresses")
begin_of field_words.Tables = is_keyword (codes "Schedule_tables")
begin_of field_words.Plain = is_word_but field_section_words

section_of_takes : (s : LooseSections) (w : FieldWord)
    → Taking (begin_of w) anything (loose_section_of w s)
unfolding begin_of
section_of_takes s field_words.Signals =
    value_takes (with_loose_signals s)
    (once_takes s.signals
    (right_take (keyword_takes _) (block_takes with_loose_signal loose_signal loose_signal_takes []).lawful))
section_of_takes s field_words.Frames =
    value_takes (with_loose_frames s)
    (once_takes s.frames
    (right_take (keyword_takes _)
    (block_takes with_loose_frame loose_frame loose_frame_takes s.plain.frame_names).lawful))
section_of_takes s field_words.Event =
    value_takes (with_loose_events s)
    (once_takes s.events
    (right_take (keyword_takes _)
    (block_takes with_loose_event loose_event loose_event_takes s.plain.frame_names).lawful))
section_of_takes s field_words.Attributes =
    value_takes (with_loose_attributes s)
    (once_takes s.attributes
    (right_take (keyword_takes _)
    (block_takes with_loose_block loose_block loose_block_takes s.plain.blocks).lawful))
section_of_takes s field_words.Addresses =
    value_takes (with_addresses s)
    (once_takes s.addresses
    (right_take (keyword_takes _)
    (block_takes same_state (λ (s : Unit {0}). node_address) address_takes tt).lawful))
section_of_takes s field_words.Tables =
    value_takes (with_loose_tables s)
    (once_takes s.tables
    (right_take (keyword_takes _) (block_takes with_loose_table loose_table loose_table_takes []).lawful))
section_of_takes s field_words.Plain =
    value_takes (with_plain s) (unless_takes field_section_words (section_takes s.plain))

-- a word that is none of these is of a section as in plain texts
plain_word : (w : List ℕ) → not (has_name field_section_words w) ≡ true
    → field_word w ≡ field_words.Plain
plain_word w none =
    let no = no_name_of field_section_words w none in
    rw (
      no (codes "Signals") refl,
      no (codes "Frames") refl,
      no (codes "Event_triggered_frames") refl,
      no (codes "Node_attributes") refl,
      no (codes "Diagnostic_addresses") refl,
      no (codes "Schedule_tables") refl,
    ) refl

word_decides : (w : List ℕ) (t : Symbol) → is_keyword w t ≡ true
    → field_word t.text ≡ field_word w
word_decides w t e = ap field_word (keyword_text w t e)

-- one token decides which section it is
section_is : (w : FieldWord) (t : Symbol) (ts : List Symbol) → begin_of w t ≡ true
    → front_word (t ∷ ts) ≡ w
unfolding begin_of
section_is field_words.Signals t ts e = word_decides (codes "Signals") t e
section_is field_words.Frames t ts e = word_decides (codes "Frames") t e
section_is field_words.Event t ts e = word_decides (codes "Event_triggered_frames") t e
section_is field_words.Attributes t ts e = word_decides (codes "Node_attributes") t e
section_is field_words.Addresses t ts e = word_decides (codes "Diagnostic_addresses") t e
section_is field_words.Tables t ts e = word_decides (codes "Schedule_tables") t e
section_is field_words.Plain t ts e =
    plain_word t.text (both_true (is_word t) (not (has_name field_section_words t.text)) e).1

begins_word : (w : FieldWord) → AlwaysPasses (begin_of w) is_word
unfolding begin_of
begins_word field_words.Signals = keyword_is_word _
begins_word field_words.Frames = keyword_is_word _
begins_word field_words.Event = keyword_is_word _
begins_word field_words.Attributes = keyword_is_word _
begins_word field_words.Addresses = keyword_is_word _
begins_word field_words.Tables = keyword_is_word _
begins_word field_words.Plain = other_is_word field_section_words

pub loose_section_takes : (s : LooseSections) → Taking is_word anything (loose_section s)
loose_section_takes s =
    choice_takes front_word begin_of is_word (section_of_takes s) section_is begins_word

-- ---- the file

pub field_file_takes : Taking (is_keyword (codes "LIN_description_file")) anything field_file
field_file_takes =
    value_takes loose_of
    (then_take
    (both_take_before header_takes nodes_take.lawful
    (comes_before no_line nodes_take no_line_at_nodes))
    (λ p. left_before
    (gathered_lawful is_word loose_section loose_section_takes (no_loose_sections (loose_node_names p.1)))
    end_lawful (λ ts a rest h. ap no_word h.0)))
