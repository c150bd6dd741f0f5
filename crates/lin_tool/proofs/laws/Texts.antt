-- Plain texts are read as texts of the field.
use Rattle.lin_parts.specs.declared.description.Description.{Description}
use Rattle.lin_parts.specs.declared.description.Name.{Name}
use Rattle.lin_parts.specs.declared.description.Number.{Number}
use Rattle.lin_field.proofs.PlainTexts.{plain-stays}
use Rattle.lin_field.specs.Grammar as field
use Rattle.lin_field.specs.GrammarLaws.{field_file_takes}
use Rattle.lin_field.specs.Marks.{without_extra_marks}
use Rattle.lin_field.specs.PlainTexts.{NamesTables, StaysPlain, exact, loose_block, loose_event, loose_frame, loose_signal, loose_table, as_loose}
use Rattle.lin_field.specs.declared.header.LineWord.TheVariants as line_words
use Rattle.lin_field.specs.declared.header.LineWord.{LineWord}
use Rattle.lin_field.specs.declared.header.Lines.{Lines}
use Rattle.lin_field.specs.declared.loose.Header.{Header}
use Rattle.lin_field.specs.declared.loose.Loose.{Loose}
use Rattle.lin_tool.proofs.laws.LdfTokens.{tokens-kind}
use Rattle.lin_tool.proofs.laws.Limits.{Anything, IsClean, NoEnd, NoSemicolon, allows, covered}
use Rattle.lin_tool.proofs.laws.PlainItems.{dec_in_widens, keyword_mark, loose_nodes, nodes_widen, same_list, same_mark, text_within, word_within}
use Rattle.lin_tool.proofs.laws.PlainSections.{Begins, begins_keyword, keyword_front, loose_sections, section_widens, word_front}
use Rattle.lin_tool.proofs.laws.PlainTables.{no_sections_named, sections_named}
use Rattle.lin_tool.proofs.laws.Widens.{Widens, both, gathering_widens, into_choice, into_left, left, right, token_widens, unless_widens, value_of}
use Rattle.lin_tool.specs.laws.Texts.{IsPlainText, PlainTextsAreRead, PlainTextsSayTheSame}
use Rattle.lin_ldf.proofs.Unique.{same_tokens}
use Rattle.lin_ldf.specs.Describes.{Spells}
use Rattle.lin_ldf.specs.Forms.{Form, ◌&◌, ◌&>◌, ◌<&◌, as_value, is_front, is_keyword, keyword, mark, token}
use Rattle.lin_ldf.specs.Grammar as plain
use Rattle.lin_ldf.specs.GrammarLaws.{keyword_is_word, other_is_word}
use Rattle.lin_ldf.specs.KindLaws.{word_is}
use Rattle.lin_ldf.specs.Laws.{made_is}
use Rattle.lin_ldf.specs.Loops.{ItemSteps, is_next}
use Rattle.lin_ldf.specs.Names.{has_name}
use Rattle.lin_ldf.specs.Symbols.{Symbol, is_kind, symbols_in}
use Rattle.lin_ldf.specs.Tokens.{AreTokens, behind_mark, mark_len}
use Rattle.lin_ldf.specs.Words.{dec_in, equals, is_word_but, list, name_of, new_word, no_word, semicolon, word}
use Rattle.lin_ldf.specs.declared.header.Nodes.{Nodes}
use Rattle.lin_ldf.specs.declared.section.Sections.{Sections}
use Rattle.lin_ldf.specs.declared.token.Token.{Token}
use Rattle.lin_ldf.specs.declared.token.TokenKind.TheVariants as kinds
use Rattle.std.proofs.Common.{◌≡◌, ◌∙◌, ◌||◌, ℕ, zero, suc, true, false, List, [], ◌∷◌, Option, Some, None, refl, sym, ap, subst, map}
use Rattle.std.specs.List.{starts_with}
use Rattle.std.specs.Option.{option_map}
use Rattle.std.specs.Prelude.{codes, nat_eq}

-- ---- lines that aren't used

abbrev named_extra : Form (Name × Unit {0})
named_extra = new_word plain.header_words & (equals &> list)

named_begins : Begins (is_word_but plain.header_words) named_extra
named_begins ts a rest h = rw (h.1.1) (h.1.2)

any_word : Widens NoEnd Anything (new_word plain.header_words) word (λ n. n)
any_word =
    token_widens NoEnd Anything (is_word_but plain.header_words) (λ t. is_kind kinds.Word t.kind) name_of name_of (λ n. n)
    (λ t e. word_within t (other_is_word plain.header_words t e)) (λ t e absent. (other_is_word plain.header_words t e, refl))

named_line : (s : Lines) → Widens NoEnd NoSemicolon named_extra (field.one_line s) (λ p. s)
named_line s =
    unless_widens field.line_ends
    (into_choice field.front_line (λ w. field.header_line_of w s) line_words.Other
    (value_of (field.with_other s)
    (unless_widens field.line_words_known
    (value_of field.other_of
    (both any_word
    (into_left (is_next kinds.Equals) (as_value (λ u. false) semicolon) (value_of (λ u. true) (right (same_mark kinds.Equals) same_list refl))) refl))
    (λ ts a rest x c. word_front plain.header_words field.line_words_known refl ts c (named_begins ts a rest x)))))
    (λ ts a rest x c. word_front plain.header_words field.line_ends refl ts c (named_begins ts a rest x))

extra_line : (s : Lines) → Widens NoEnd NoSemicolon plain.extra (field.one_line s) (λ u. s)
extra_line s =
    let p = named_line s in
    record {
      begins = λ ts u rest x last. p.begins ts (name_of x.2.0, u) rest (x.1, (x.2.0, x.2.1, x.2.2, refl), x.3) last;
      widened = λ ts u rest x c last. p.widened ts (name_of x.2.0, u) rest (x.1, (x.2.0, x.2.1, x.2.2, refl), x.3) c last;
      cleans = λ ts u rest x c. p.cleans ts (name_of x.2.0, u) rest (x.1, (x.2.0, x.2.1, x.2.2, refl), x.3) c;
    }

extras_widen : (s : Lines) → Widens NoSemicolon NoSemicolon plain.extras (field.lines_behind s) (λ u. s)
extras_widen s =
    gathering_widens (λ (u : Unit {0}). plain.extra) field.one_line (λ u. s) (λ u. extra_line s) plain.no_extra field.no_line tt

-- ---- the header's own lines

keyword_line : {A : Type 0} {f : Form A} {h : A → Lines} (w : List ℕ) (k : LineWord) (s : Lines)
    → Widens NoEnd NoSemicolon f (field.header_line_of k s) h → Begins (is_keyword w) f → has_name field.line_ends w ≡ false
    → Widens NoEnd NoSemicolon f (field.one_line s) h
keyword_line w k s p begins absent =
    unless_widens field.line_ends (into_choice field.front_line (λ x. field.header_line_of x s) k p)
    (λ ts a rest x c. keyword_front w field.line_ends absent ts (begins ts a rest x))

abbrev version_line : List ℕ → Form (List ℕ)
version_line w = keyword w <& equals &> token (λ t. is_kind kinds.Text t.kind) plain.protocol_of <& semicolon

version_widens : (w : List ℕ) → Widens NoEnd NoSemicolon (version_line w) (field.loose_version w) (λ v. v)
version_widens w =
    right (keyword_mark w kinds.Equals)
    (left
    (token_widens NoEnd Anything (λ t. is_kind kinds.Text t.kind)
    (λ t. is_kind kinds.Text t.kind || is_kind kinds.Number t.kind) plain.protocol_of plain.protocol_of
    (λ v. v) text_within (λ t e absent. (ap (λ b. b || is_kind kinds.Number t.kind) e, refl)))
    (same_mark kinds.Semicolon) refl) refl

version_begins : (w : List ℕ) → Begins (is_keyword w) (version_line w)
version_begins w = begins_keyword w equals (token (λ t. is_kind kinds.Text t.kind) plain.protocol_of <& semicolon)

abbrev speed_line : Form Number
speed_line = keyword (codes "LIN_speed") <& equals &> dec_in (codes "kbps") kinds.Semicolon

speed_widens : Widens NoEnd NoSemicolon speed_line field.loose_speed exact
speed_widens = right (keyword_mark (codes "LIN_speed") kinds.Equals) (dec_in_widens (codes "kbps") kinds.Semicolon) refl

speed_begins : Begins (is_keyword (codes "LIN_speed")) speed_line
speed_begins = begins_keyword (codes "LIN_speed") equals (dec_in (codes "kbps") kinds.Semicolon)

keyword_allowed : (w : List ℕ) (ts : List Symbol) → is_front (is_keyword w) ts ≡ true → allows NoSemicolon ts ≡ true
keyword_allowed w [] e = absurd cc
keyword_allowed w (t ∷ ts) e = rw (word_is t.kind (keyword_is_word w t e)) refl

-- ---- lines one after the other

abbrev IsBehind : Lines → List Symbol → Lines → List Symbol → Type 0
IsBehind s ts last rest = (field.lines_behind s).spells ts last rest

joined : (n m : ℕ) (s : Lines) (ts : List Symbol) (mid : Lines) (between : List Symbol) (last : Lines) (rest : List Symbol)
    → ItemSteps (λ x. (field.one_line x).spells) n s ts mid between → ItemSteps (λ x. (field.one_line x).spells) m mid between last rest
    → IsBehind s ts last rest
joined zero m s ts mid between last rest x y =
    subst (λ (us : List Symbol). IsBehind s us last rest) x.1 (subst (λ (z : Lines). IsBehind z between last rest) x.0 (m, y))
joined (suc n) m s ts mid between last rest x y =
    let others = joined n m x.0 x.1 mid between last rest x.3 y in
    (suc others.0, (x.0, x.1, x.2, others.1))

behind_both : (s : Lines) (ts : List Symbol) (mid : Lines) (between : List Symbol) (last : Lines) (rest : List Symbol) → IsBehind s ts mid between
    → IsBehind mid between last rest → IsBehind s ts last rest
behind_both s ts mid between last rest x y = joined x.0 y.0 s ts mid between last rest x.1 y.1

-- a line, and those that aren't used
record LineRead (s : Lines) (ts : List Symbol) (last : Lines) (rest : List Symbol) : Type 0 where
  lines : IsBehind s (without_extra_marks ts) last (without_extra_marks rest)
  clean : IsClean rest

one_more : {A : Type 0} {f : Form A} {h : A → Lines} {s : Lines} → Widens NoEnd NoSemicolon f (field.one_line s) h → (ts : List Symbol) (a : A)
    (mid : List Symbol) (u : Unit {0}) (rest : List Symbol) → f.spells ts a mid → plain.extras.spells mid u rest → IsClean ts
    → allows NoSemicolon rest ≡ true → LineRead s ts (h a) rest
one_more {h = h} p ts a mid u rest x others c last =
    let e = extras_widen (h a) in
    let behind = e.widened mid u rest others (p.cleans ts a mid x c) last in
    record {
      lines = (suc behind.0, (h a, without_extra_marks mid, p.widened ts a mid x c (e.begins mid u rest others last), behind.1));
      clean = e.cleans mid u rest others (p.cleans ts a mid x c);
    }

record VersionRead (w : List ℕ) (s : Lines) (make : List ℕ → Lines) (ts rest : List Symbol) : Type 0 where
  text : List ℕ
  read : LineRead s ts (make text) rest

version_read : (w : List ℕ) (s : Lines) (make : List ℕ → Lines) → Widens NoEnd NoSemicolon (version_line w) (field.one_line s) make
    → (ts : List Symbol) (u : Unit {0}) (rest : List Symbol) → (plain.version w).spells ts u rest → IsClean ts → allows NoSemicolon rest ≡ true
    → VersionRead w s make ts rest
version_read w s make p ts u rest (a, m, kw, (b, n, (t, is, kind, v), (c, l, semi, others))) clean last = record {
  text = plain.protocol_of t;
  read = one_more p ts (plain.protocol_of t) l u rest (a, m, kw, (n, c, (t, is, kind, refl), semi)) others clean last;
}

version_front : (w : List ℕ) → Begins (is_keyword w) (plain.version w)
version_front w = begins_keyword w equals (mark kinds.Text &> semicolon &> plain.extras)

speed_front : Begins (is_keyword (codes "LIN_speed")) plain.lin_speed
speed_front = begins_keyword (codes "LIN_speed") equals (dec_in (codes "kbps") kinds.Semicolon <& plain.extras)

abbrev first_lines : List ℕ → Lines
first_lines v = field.with_version field.no_lines v

abbrev both_lines : List ℕ → List ℕ → Lines
both_lines v l = field.with_language (first_lines v) l

protocol_at : Widens NoEnd NoSemicolon (version_line (codes "LIN_protocol_version")) (field.one_line field.no_lines) first_lines
protocol_at =
    keyword_line (codes "LIN_protocol_version") line_words.Version field.no_lines
    (value_of (field.with_version field.no_lines) (version_widens (codes "LIN_protocol_version")))
    (version_begins (codes "LIN_protocol_version")) refl

language_at : (v : List ℕ) → Widens NoEnd NoSemicolon (version_line (codes "LIN_language_version")) (field.one_line (first_lines v)) (both_lines v)
language_at v =
    keyword_line (codes "LIN_language_version") line_words.Language (first_lines v)
    (value_of (field.with_language (first_lines v)) (version_widens (codes "LIN_language_version")))
    (version_begins (codes "LIN_language_version")) refl

speed_at : (v l : List ℕ) → Widens NoEnd NoSemicolon speed_line (field.one_line (both_lines v l)) (λ n. field.with_speed (both_lines v l) (exact n))
speed_at v l =
    keyword_line (codes "LIN_speed") line_words.Speed (both_lines v l) (value_of (field.with_speed (both_lines v l)) speed_widens) speed_begins refl

abbrev header_with : List ℕ → List ℕ → Number → Header
header_with v l speed = record {
  version = v;
  language = Some l;
  speed = exact speed;
  is_big_endian = false;
  unknown = [];
}

record HeaderRead (ts : List Symbol) (speed : Number) (rest : List Symbol) : Type 0 where
  version : List ℕ
  language : List ℕ
  spelled : field.loose_header.spells (without_extra_marks ts) (header_with version language speed) (without_extra_marks rest)
  clean : IsClean rest

header_read : (ts : List Symbol) (speed : Number) (rest : List Symbol) → plain.ldf_header.spells ts speed rest → IsClean ts
    → allows NoSemicolon rest ≡ true → HeaderRead ts speed rest
header_read ts speed rest (u, m0, title, (u1, m1, protocol, (u2, m2, language, (a, m3, kw, (m4, u3, number, others))))) c last =
    let end2 : allows NoSemicolon m2 ≡ true =
    keyword_allowed (codes "LIN_speed") m2 (speed_front m2 speed rest (a, m3, kw, (m4, u3, number, others))) in
    let end1 : allows NoSemicolon m1 ≡ true =
    keyword_allowed (codes "LIN_language_version") m1 (version_front (codes "LIN_language_version") m1 u2 m2 language) in
    let end0 : allows NoSemicolon m0 ≡ true =
    keyword_allowed (codes "LIN_protocol_version") m0 (version_front (codes "LIN_protocol_version") m0 u1 m1 protocol) in
    let begin = right (keyword_mark (codes "LIN_description_file") kinds.Semicolon) (extras_widen field.no_lines) refl in
    let lines0 = begin.widened ts u m0 title c end0 in
    let c0 = begin.cleans ts u m0 title c in
    let v = version_read (codes "LIN_protocol_version") field.no_lines first_lines protocol_at m0 u1 m1 protocol c0 end1 in
    let l = version_read (codes "LIN_language_version") (first_lines v.text) (both_lines v.text)
    (language_at v.text) m1 u2 m2 language v.read.clean end2 in
    let n = one_more (speed_at v.text l.text) m2 speed m4 u3 rest (a, m3, kw, number) others l.read.clean last in
    let all = field.with_speed (both_lines v.text l.text) (exact speed) in
    let behind =
    behind_both field.no_lines (without_extra_marks m0) (first_lines v.text) (without_extra_marks m1) all (without_extra_marks rest) v.read.lines
    (behind_both (first_lines v.text) (without_extra_marks m1) (both_lines v.text l.text) (without_extra_marks m2) all (without_extra_marks rest) l.read.lines n.lines) in
    record {
      version = v.text;
      language = l.text;
      spelled = (
        all,
        (
          lines0.0,
          lines0.1,
          lines0.2,
          behind_both field.no_lines lines0.1 field.no_lines (without_extra_marks m0) all
              (without_extra_marks rest) lines0.3 behind,
        ),
        refl,
      );
      clean = n.clean;
    }

-- ---- the file

or_mapped : {A B : Type 0} (h : A → B) (o : Option (List A)) → plain.or_empty (option_map (map h) o) ≡ map h (plain.or_empty o)
or_mapped h None = refl
or_mapped h (Some xs) = refl

same_loose : (v l : List ℕ) (speed : Number) (n : Nodes) (s : Sections)
    → field.loose_of ((header_with v l speed, loose_nodes n), loose_sections s) ≡ as_loose v (Some l) (plain.description_of ((speed, n), s))
same_loose v l speed n s = λ i. record {
  header = header_with v l speed;
  nodes = loose_nodes n;
  signals = or_mapped loose_signal s.signals i;
  frames = or_mapped loose_frame s.frames i;
  sporadic = plain.or_empty s.sporadic;
  events = or_mapped loose_event s.events i;
  attributes = or_mapped loose_block s.attributes i;
  addresses = [];
  tables = or_mapped loose_table s.tables i;
}

record FileRead (ts : List Symbol) (d : Description) : Type 0 where
  version : List ℕ
  language : List ℕ
  spelled : field.field_file.spells (without_extra_marks ts) (as_loose version (Some language) d) []
  named : NamesTables d

file_read : (ts : List Symbol) (d : Description) → plain.file.spells ts d [] → IsClean ts → FileRead ts d
file_read ts d (((speed, n), s), (mid, (m0, header, nodes), (m1, u, sections, (none, end))), same) c =
    let start : allows NoSemicolon m0 ≡ true =
    covered NoEnd NoSemicolon m0 refl (nodes_widen.begins m0 n mid nodes refl) in
    let h = header_read ts speed m0 header c start in
    let k = nodes_widen.cleans m0 n mid nodes h.clean in
    let first = plain.no_sections (plain.declared_node_names n) in
    let gathered =
    (gathering_widens plain.section field.loose_section loose_sections section_widens no_word no_word first).widened mid s m1
    sections k refl in
    let named : NamesTables (plain.description_of ((speed, n), s)) =
    sections_named sections.0 first mid s m1 sections.1 k (no_sections_named (plain.declared_node_names n)) in
    record {
      version = h.version;
      language = h.language;
      spelled = (
        ((header_with h.version h.language speed, loose_nodes n), loose_sections s),
        (
          without_extra_marks mid,
          (without_extra_marks m0, h.spelled, nodes_widen.widened m0 n mid nodes h.clean refl),
          (without_extra_marks m1, tt, gathered, (ap without_extra_marks none, refl)),
        ),
        same_loose h.version h.language speed n s ∙ ap (as_loose h.version (Some h.language)) same,
      );
      named = subst NamesTables same named;
    }

-- ---- the laws

text_read : (source : List ℕ) (ts : List Token) (d : Description) → AreTokens source ts → IsPlainText source ts → Spells (symbols_in source ts) d
    → FileRead (symbols_in source ts) d
unfolding Spells
text_read source ts d are is spelled =
    file_read (symbols_in source ts) d spelled (record { words = is.words; errors = is.errors; tokens = tokens-kind source ts are })

abbrev SpellsIn : List Token → Loose → List ℕ → Type 0
SpellsIn ts l source = field.field_file.spells (without_extra_marks (symbols_in source ts)) l []

pub plain-texts-are-read : PlainTextsAreRead
plain-texts-are-read source ts d are is spelled =
    let read = text_read source ts d are is spelled in (
      read.version,
      (Some read.language, subst (SpellsIn ts (as_loose read.version (Some read.language) d)) (sym is.bytes) read.spelled),
    )

spelled_once : (ss : List Symbol) (l m : Loose) → field.field_file.spells ss l [] → field.field_file.spells ss m [] → l ≡ m
spelled_once ss l m h k =
    let same : (l, []) ≡ (m, []) =
    made_is (l, []) (m, []) (sym (field_file_takes.lawful.again ss l [] h refl) ∙ field_file_takes.lawful.again ss m [] k refl) in
    ap (λ (p : Loose × List Symbol). p.0) same

pub plain-texts-say-the-same : PlainTextsSayTheSame
plain-texts-say-the-same source ts d text are is spelled free (us, tokens, marks, reads) new =
    let read = text_read source ts d are is spelled in
    let same : us ≡ ts =
    same_tokens (mark_len source) (behind_mark source) us ts (subst (λ (s : List ℕ). AreTokens s us) is.bytes tokens) are in
    let here : SpellsIn ts text.loose source =
    subst (λ (vs : List Token). SpellsIn vs text.loose source) same (subst (SpellsIn us text.loose) is.bytes reads) in
    let one : as_loose read.version (Some read.language) d ≡ text.loose =
    spelled_once (without_extra_marks (symbols_in source ts)) (as_loose read.version (Some read.language) d) text.loose read.spelled here in
    subst (λ (l : Loose). StaysPlain l d) one
    (plain-stays read.version (Some read.language) d
    (ap (λ (l : Loose). starts_with nat_eq l.header.version (codes "1.")) one ∙ new) read.named free)
