-- No event-triggered frame of a plain text names a table that no WORD names.
use Rattle.std.proofs.Common.{◌≡◌, ◌∙◌, ◌-◌, ℕ, zero, suc, true, false, List, [], ◌∷◌, Option, Some, None, refl, sym, ap, subst, length, drop}
use Rattle.std.specs.Prelude.{codes}
use Rattle.std.specs.List.{All, list_all}
use Rattle.std.specs.Str.{bytes_eq}
use Rattle.std.proofs.lemmas.Bool.{false_from_ne_true}
use Rattle.std.proofs.lemmas.List.Elements.{All-cons, All-nil}
use Rattle.std.proofs.lemmas.Slice.Eq.{bytes_eq-Decides}
use Rattle.lin_parts.specs.declared.description.EventFrame.{EventFrame}
use Rattle.lin_parts.specs.declared.description.Name.{Name}
use Rattle.lin_ldf.specs.Bytes.{is_word_byte}
use Rattle.lin_ldf.specs.Forms.{Form}
use Rattle.lin_ldf.specs.Grammar as plain
use Rattle.lin_ldf.specs.GrammarLaws.{both_true}
use Rattle.lin_ldf.specs.KindLaws.{word_is}
use Rattle.lin_ldf.specs.Loops.{Several, ItemSteps}
use Rattle.lin_ldf.specs.Symbols.{Symbol, is_kind}
use Rattle.lin_ldf.specs.Tokens.{IsToken, IsWord}
use Rattle.lin_ldf.specs.Words.{once, word}
use Rattle.lin_ldf.specs.declared.section.SectionWord.{SectionWord}
use Rattle.lin_ldf.specs.declared.section.SectionWord.TheVariants as words_of
use Rattle.lin_ldf.specs.declared.section.Sections.{Sections}
use Rattle.lin_ldf.specs.declared.token.TokenKind.{TokenKind}
use Rattle.lin_ldf.specs.declared.token.TokenKind.TheVariants as kinds
use Rattle.lin_field.specs.Tables.{is_members_name}
use Rattle.lin_tool.proofs.laws.LdfTokens.{letter-byte}
use Rattle.lin_tool.proofs.laws.Limits.{IsClean}
use Rattle.lin_tool.proofs.laws.PlainItems.{event_widens, same_keyword, same_mark, same_new_word}
use Rattle.lin_tool.proofs.laws.PlainSections.{section_widens}
use Rattle.lin_tool.proofs.laws.Widens.{left}

-- ---- a word has no point

all_behind : (n : ℕ) (w : List ℕ) → list_all is_word_byte w ≡ true → list_all is_word_byte (drop n w) ≡ true
all_behind zero w e = e
all_behind (suc n) [] e = refl
all_behind (suc n) (b ∷ w) e = all_behind n w (both_true (is_word_byte b) (list_all is_word_byte w) e).1

word_bytes : (w : List ℕ) → IsWord w → list_all is_word_byte w ≡ true
word_bytes w (b, bs, e, first, others) = rw (e, letter-byte b first) others

no_members : (w : List ℕ) → IsWord w → bytes_eq (drop (length w - 8) w) (codes ".members") ≡ false
no_members w is = false_from_ne_true _ (λ e.
    let same : drop (length w - 8) w ≡ codes ".members" = (bytes_eq-Decides _ _).0 e in
    let bad : false ≡ true = sym (ap (list_all is_word_byte) same) ∙ all_behind (length w - 8) w (word_bytes w is) in
    cc)

word_text : (t : Symbol) → IsToken t.kind t.text → is_kind kinds.Word t.kind ≡ true → IsWord t.text
word_text t is e = subst (λ (k : TokenKind). IsToken k t.text) (word_is t.kind e) is

word_named : (ts : List Symbol) (n : Name) (rest : List Symbol) → word.spells ts n rest → IsClean ts → is_members_name n ≡ false
word_named ts n rest (t, is, kind, same) c =
    let clean = subst IsClean is c in
    ap is_members_name same ∙ no_members t.text (word_text t clean.tokens.0 kind)

-- ---- events

abbrev NamesNone : EventFrame → Type 0
NamesNone e = is_members_name e.table ≡ false

abbrev Named : List EventFrame → Type 0
Named es = All NamesNone es

event_named : (seen : List (List ℕ)) (ts : List Symbol) (e : EventFrame) (rest : List Symbol) → (plain.event_frame seen).spells ts e rest → IsClean ts
    → NamesNone e
event_named seen ts e rest (p, (mid, before, (next, (named, u, table, comma), others)), same) c =
    subst NamesNone same
    (word_named mid p.1.0 named table ((left (same_new_word seen) (same_mark kinds.Colon) refl).cleans ts p.0 mid before c))

events_named : (es : List EventFrame) (seen : List (List ℕ)) (ts rest : List Symbol)
    → Several plain.with_event (λ s. (plain.event_frame s).spells) seen ts es rest → IsClean ts → Named es
events_named [] seen ts rest x c = All-nil NamesNone
events_named (e ∷ es) seen ts rest x c =
    All-cons NamesNone e es (event_named seen ts e x.0 x.1 c)
    (events_named es (plain.with_event seen e) x.0 rest x.2 ((event_widens seen).cleans ts e x.0 x.1 c))

-- ---- sections

abbrev pub NamesSo : Sections → Type 0
NamesSo s = Named (plain.or_empty s.events)

found_once : {X A : Type 0} (o : Option X) (f : Form A) (ts : List Symbol) (a : A) (rest : List Symbol) → (once o f).spells ts a rest
    → f.spells ts a rest
found_once None f ts a rest h = h
found_once (Some x) f ts a rest h = absurd h

event_section : (seen : List (List ℕ)) (ts : List Symbol) (es : List EventFrame) (rest : List Symbol) → (plain.event seen).spells ts es rest
    → IsClean ts
    → Named es
event_section seen ts es rest (u, before, word, (v, mid, brace, (last, w, items, end))) c =
    events_named es seen mid last items
    ((same_mark kinds.OpenBrace).cleans before v mid brace ((same_keyword (codes "Event_triggered_frames")).cleans ts u before word c))

section_named : (w : SectionWord) (s : Sections) (ts : List Symbol) (next : Sections) (rest : List Symbol)
    → (plain.section_of w s).spells ts next rest
    → IsClean ts → NamesSo s → NamesSo next
section_named words_of.Signals s ts next rest (a, h, same) c so = subst NamesSo same so
section_named words_of.Frames s ts next rest (a, h, same) c so = subst NamesSo same so
section_named words_of.Sporadic s ts next rest (a, h, same) c so = subst NamesSo same so
section_named words_of.Event s ts next rest (a, h, same) c so =
    subst NamesSo same (event_section s.frame_names ts a rest (found_once s.events (plain.event s.frame_names) ts a rest h) c)
section_named words_of.Attributes s ts next rest (a, h, same) c so = subst NamesSo same so
section_named words_of.Tables s ts next rest (a, h, same) c so = subst NamesSo same so
section_named words_of.Nodes s ts next rest h c so = absurd h
section_named words_of.Unused s ts next rest (a, h, same) c so = subst NamesSo same so

pub sections_named : (n : ℕ) (s : Sections) (ts : List Symbol) (last : Sections) (rest : List Symbol)
    → ItemSteps (λ x. (plain.section x).spells) n s ts last rest → IsClean ts → NamesSo s → NamesSo last
sections_named zero s ts last rest x c so = subst NamesSo (sym x.0) so
sections_named (suc n) s ts last rest x c so =
    sections_named n x.0 x.1 last rest x.3 ((section_widens s).cleans ts x.0 x.1 x.2 c) (section_named x.2.0 s ts x.0 x.1 x.2.1 c so)

pub no_sections_named : (names : List (List ℕ)) → NamesSo (plain.no_sections names)
no_sections_named names = All-nil NamesNone
