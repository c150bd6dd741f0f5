-- The names that an LDF text declares: words, and no two of a kind alike.
use Rattle.std.proofs.Common.{◌≡◌, ◌∙◌, ◌<◌, ◌||◌, ◌++◌, ℕ, zero, suc, List, [], ◌∷◌, Bool, true, false, not, refl, sym, ap, subst, arith, Option, Some, None, length, get_or, map}
use Rattle.std.specs.List.{All, list_all}
use Rattle.std.specs.Str.{bytes_eq}
use Rattle.std.proofs.lemmas.Bool.{and_parts}
use Rattle.std.proofs.lemmas.List.Elements.{All-cons, All-head, All-nil, All-tail}
use Rattle.std.proofs.lemmas.Slice.Eq.{bytes_eq-Decides}
use Rattle.lin_parts.specs.declared.description.Description.{Description}
use Rattle.lin_parts.specs.declared.description.Name.{Name}
use Rattle.lin_parts.specs.declared.description.Number.{Number}
use Rattle.lin_parts.specs.declared.description.Signal.{Signal}
use Rattle.lin_parts.specs.declared.description.Table.{Table}
use Rattle.lin_ldf.specs.Describes.{Describes, Spells}
use Rattle.lin_ldf.specs.Forms.{Form, ◌&>◌}
use Rattle.lin_ldf.specs.Grammar.{declared_node_names, master, no_sections, nodes_section, or_empty, section, section_of, signal, signals, slaves, table, tables}
use Rattle.lin_ldf.specs.GrammarLaws.{header_takes, master_takes, section_takes, signal_takes, table_takes}
use Rattle.lin_ldf.specs.Laws.{Behind}
use Rattle.lin_ldf.specs.Loops.{Several, ItemSteps}
use Rattle.lin_ldf.specs.Names.{has_name}
use Rattle.lin_ldf.specs.Symbols.{Symbol, is_kind, symbols_in}
use Rattle.lin_ldf.specs.Words.{block, comma, new_word, once}
use Rattle.lin_ldf.specs.declared.header.Nodes.{Nodes}
use Rattle.lin_ldf.specs.declared.section.SectionWord.{SectionWord}
use Rattle.lin_ldf.specs.declared.section.SectionWord.TheVariants as words_of
use Rattle.lin_ldf.specs.declared.section.Sections.{Sections}
use Rattle.lin_ldf.specs.declared.token.TokenKind.TheVariants.{Word}
use Rattle.lin_log.specs.Laws.{AreNames, is_name}
use Rattle.lin_ldf.specs.Bytes.{is_word_byte}
use Rattle.lin_tool.proofs.laws.LdfWords.{IsGood, is_identifier, tokens-good}

-- the name of what is declared
abbrev pub name_text : Name → List ℕ
name_text n = n.text

abbrev pub signal_text : Signal → List ℕ
signal_text s = s.name.text

abbrev pub table_text : Table → List ℕ
table_text t = t.name.text

abbrev AllGood : List Symbol → Type 0
AllGood ts = All IsGood ts

after-token : (ts rest : List Symbol) (t : Symbol) → ts ≡ t ∷ rest → AllGood ts → AllGood rest
after-token ts rest t e good = All-tail IsGood t rest (subst AllGood e good)

after-some : (w rest : List Symbol) → AllGood (w ++ rest) → AllGood rest
after-some [] rest good = good
after-some (t ∷ w) rest good = after-some w rest (All-tail IsGood t (w ++ rest) good)

after-behind : (ts rest : List Symbol) → Behind ts rest → AllGood ts → AllGood rest
after-behind ts rest (w, e) good = after-some w rest (subst AllGood e good)

-- ---- a word that wasn't declared before
pub record IsNew (seen : List (List ℕ)) (name : List ℕ) : Type 0 where
  pub word : is_identifier name ≡ true
  pub new : has_name seen name ≡ false

no-name : (b : Bool) → not b ≡ true → b ≡ false
no-name true h = absurd (cc)
no-name false h = refl

new-name : (seen : List (List ℕ)) (ts : List Symbol) (n : Name) (rest : List Symbol) → (new_word seen).spells ts n rest → AllGood ts → IsNew seen n.text
new-name seen ts n rest (t, e, is, same) good =
    let p = and_parts (is_kind Word t.kind) (not (has_name seen t.text)) is in
    let g : IsGood t = All-head IsGood t rest (subst AllGood e good) in
    rw same (record { word = g p.0; new = no-name (has_name seen t.text) p.1 })

abbrev pub AllNames : List (List ℕ) → Type 0
AllNames names = All (λ name. is_identifier name ≡ true) names

-- names, each new after those before it
abbrev AllNew : List (List ℕ) → List (List ℕ) → Type 0
AllNew seen [] = Unit {0}
AllNew seen (n ∷ ns) = (has_name seen n ≡ false) × AllNew (seen ++ n ∷ []) ns

pub record AreNew (seen names : List (List ℕ)) : Type 0 where
  pub words : AllNames names
  pub new : AllNew seen names

abbrev is_name_so : List ℕ → Type 0
is_name_so name = is_identifier name ≡ true

none-new : (seen : List (List ℕ)) → AreNew seen []
none-new seen = record { words = All-nil is_name_so; new = tt }

one-new : (seen : List (List ℕ)) (n : List ℕ) (ns : List (List ℕ)) → IsNew seen n → AreNew (seen ++ n ∷ []) ns → AreNew seen (n ∷ ns)
one-new seen n ns p q = record { words = All-cons is_name_so n ns p.word q.words; new = (p.new, q.new) }

-- ---- declarations one after the other, each with a new name
record Declares {A : Type 0} (text_of : A → List ℕ) (f : List (List ℕ) → Form A) : Type 0 where
  new : (seen : List (List ℕ)) (ts : List Symbol) (a : A) (rest : List Symbol) → (f seen).spells ts a rest → AllGood ts → IsNew seen (text_of a)
  good : (seen : List (List ℕ)) (ts : List Symbol) (a : A) (rest : List Symbol) → (f seen).spells ts a rest → AllGood ts → AllGood rest

abbrev adding : {A : Type 0} → (A → List ℕ) → List (List ℕ) → A → List (List ℕ)
adding text_of seen a = seen ++ text_of a ∷ []

several-new : {A : Type 0} (text_of : A → List ℕ) (f : List (List ℕ) → Form A) → Declares text_of f → (seen : List (List ℕ)) (ts : List Symbol)
    (xs : List A) (rest : List Symbol) → Several (adding text_of) (λ s. (f s).spells) seen ts xs rest → AllGood ts
    → AreNew seen (map text_of xs) × AllGood rest
several-new text_of f d seen ts [] rest e good = (none-new seen, subst AllGood (sym e) good)
several-new text_of f d seen ts (a ∷ xs) rest (mid, item, others) good =
    let q = several-new text_of f d (seen ++ text_of a ∷ []) mid xs rest others (d.good seen ts a mid item good) in
    (one-new seen (text_of a) (map text_of xs) (d.new seen ts a mid item good) q.0, q.1)

signals-declare : Declares signal_text signal
signals-declare = record {
  new = λ seen ts a rest h good. subst (λ (s : Signal). IsNew seen (signal_text s)) h.2 (new-name seen ts h.0.0 h.1.1.0 h.1.1.2 good);
  good = λ seen ts a rest h good. after-behind ts rest ((signal_takes seen).lawful.behind ts a rest h) good;
}

tables-declare : Declares table_text table
tables-declare = record {
  new = λ seen ts a rest h good. subst (λ (s : Table). IsNew seen (table_text s)) h.2 (new-name seen ts h.0.0 h.1.0 h.1.1 good);
  good = λ seen ts a rest h good. after-behind ts rest ((table_takes seen).lawful.behind ts a rest h) good;
}

abbrev next_word : List (List ℕ) → Form Name
next_word seen = comma &> new_word seen

slaves-declare : Declares name_text next_word
slaves-declare = record {
  new = λ seen ts a rest h good. new-name seen h.1 a rest h.3 (after-token ts h.1 h.2.0 h.2.1 good);
  good = λ seen ts a rest h good. after-token h.1 rest h.3.0 h.3.1 (after-token ts h.1 h.2.0 h.2.1 good);
}

-- ---- sections
-- a word, and a block of declarations
block-new : {A : Type 0} (text_of : A → List ℕ) (f : List (List ℕ) → Form A) → Declares text_of f → (seen : List (List ℕ)) (ts : List Symbol)
    (xs : List A) (rest : List Symbol) → (block (adding text_of) f seen).spells ts xs rest → AllGood ts → AreNew seen (map text_of xs)
block-new text_of f d seen ts xs rest (u, mid, brace, (last, v, items, close)) good =
    (several-new text_of f d seen mid xs last items (after-token ts mid brace.0 brace.1 good)).0

from-once : {A B : Type 0} (o : Option A) (f : Form B) (ts : List Symbol) (b : B) (rest : List Symbol) → (once o f).spells ts b rest → f.spells ts b rest
from-once None f ts b rest h = h
from-once (Some x) f ts b rest h = absurd h

-- the names of signals and tables that sections declare
record AreDeclared (s : Sections) : Type 0 where
  signals : AreNew [] (map signal_text (or_empty s.signals))
  tables : AreNew [] (map table_text (or_empty s.tables))

section-declares : (k : SectionWord) (s : Sections) (ts : List Symbol) (a : Sections) (rest : List Symbol) → (section_of k s).spells ts a rest → AllGood ts
    → AreDeclared s → AreDeclared a
section-declares words_of.Signals s ts a rest (xs, h, same) good d =
    let p = from-once s.signals signals ts xs rest h in
    let q = block-new signal_text signal signals-declare [] p.1 xs rest p.3 (after-token ts p.1 p.2.0 p.2.1 good) in
    subst AreDeclared same (record { signals = q; tables = d.tables })
section-declares words_of.Frames s ts a rest (xs, h, same) good d = subst AreDeclared same (record { signals = d.signals; tables = d.tables })
section-declares words_of.Sporadic s ts a rest (xs, h, same) good d = subst AreDeclared same (record { signals = d.signals; tables = d.tables })
section-declares words_of.Event s ts a rest (xs, h, same) good d = subst AreDeclared same (record { signals = d.signals; tables = d.tables })
section-declares words_of.Attributes s ts a rest (xs, h, same) good d = subst AreDeclared same (record { signals = d.signals; tables = d.tables })
section-declares words_of.Tables s ts a rest (xs, h, same) good d =
    let p = from-once s.tables tables ts xs rest h in
    let q = block-new table_text table tables-declare [] p.1 xs rest p.3 (after-token ts p.1 p.2.0 p.2.1 good) in
    subst AreDeclared same (record { signals = d.signals; tables = q })
section-declares words_of.Nodes s ts a rest h good d = absurd h
section-declares words_of.Unused s ts a rest (u, h, same) good d = subst AreDeclared same d

sections-declare : (n : ℕ) (s : Sections) (ts : List Symbol) (last : Sections) (rest : List Symbol) → ItemSteps (λ x. (section x).spells) n s ts last rest → AllGood ts
    → AreDeclared s → AreDeclared last
sections-declare zero s ts last rest h good d = subst AreDeclared (sym h.0) d
sections-declare (suc n) s ts last rest (next, mid, (k, item), others) good d =
    sections-declare n next mid last rest others (after-behind ts mid ((section_takes s).lawful.behind ts next mid (k, item)) good)
    (section-declares k s ts next mid item good d)

-- ---- nodes
record AreNodes (n : Nodes) (rest : List Symbol) : Type 0 where
  names : AreNew [] (n.master.text ∷ map name_text n.slaves)
  good : AllGood rest

master-new : (seen : List (List ℕ)) (ts : List Symbol) (m : Name × (Number × Number)) (rest : List Symbol) → (master seen).spells ts m rest → AllGood ts → IsNew seen m.0.text
master-new seen ts m rest (u, mid, (a1, v, t1, t2), parts) good =
    let g1 = after-token ts a1 t1.0 t1.1 good in
    let g2 = after-token a1 mid t2.0 t2.1 g1 in
    new-name seen mid m.0 parts.1.0 parts.1.2 g2

slaves-new : (seen : List (List ℕ)) (ts : List Symbol) (names : List Name) (rest : List Symbol) → (slaves seen).spells ts names rest → AllGood ts
    → AreNew seen (map name_text names) × AllGood rest
slaves-new seen ts names rest (u, a2, (a1, v, t1, t2), (a3, x, (a4, y, (q, (a5, first, others), same), semi), close)) good =
    let g1 = after-token ts a1 t1.0 t1.1 good in
    let g2 = after-token a1 a2 t2.0 t2.1 g1 in
    let n = new-name seen a2 q.0 a5 first g2 in
    let more = several-new name_text next_word slaves-declare (seen ++ q.0.text ∷ []) a5 q.1 a4 others (after-token a2 a5 first.0 first.1 g2) in
    let all = one-new seen q.0.text (map name_text q.1) n more.0 in (
      subst (λ (ns : List Name). AreNew seen (map name_text ns)) same all,
      after-token a3 rest close.0 close.1 (after-token a4 a3 semi.0 semi.1 more.1),
    )

nodes-new : (ts : List Symbol) (n : Nodes) (rest : List Symbol) → nodes_section.spells ts n rest → AllGood ts → AreNodes n rest
nodes-new ts n rest (p, (u, a2, (a1, v, t1, t2), (mid, first, others)), same) good =
    let g = after-token a1 a2 t2.0 t2.1 (after-token ts a1 t1.0 t1.1 good) in
    let m = master-new [] a2 p.0 mid first g in
    let q = slaves-new (p.0.0.text ∷ []) mid p.1 rest others (after-behind a2 mid ((master_takes []).lawful.behind a2 p.0 mid first) g) in
    subst (λ (x : Nodes). AreNodes x rest) same
    (record { names = one-new [] p.0.0.text (map name_text p.1) m q.0; good = q.1 })

-- ---- the whole text
pub record DeclaresNames (d : Description) : Type 0 where
  pub of_nodes : AreNew [] (d.master.text ∷ map name_text d.slaves)
  pub of_signals : AreNew [] (map signal_text d.signals)
  pub of_tables : AreNew [] (map table_text d.tables)

nothing-declared : (names : List (List ℕ)) → AreDeclared (no_sections names)
nothing-declared names = record {
  signals = none-new [];
  tables = none-new [];
}

file-declares : (ts : List Symbol) (d : Description) → Spells ts d → AllGood ts → DeclaresNames d
unfolding Spells
file-declares ts d (q, (mid, (m, head, of_nodes), (end, u, (n, steps), over)), same) good =
    let g = after-behind ts m (header_takes.lawful.behind ts q.0.0 m head) good in
    let p = nodes-new m q.0.1 mid of_nodes g in
    let s = sections-declare n (no_sections (declared_node_names q.0.1)) mid q.1 end steps p.good (nothing-declared (declared_node_names q.0.1)) in
    subst DeclaresNames same (record {
      of_nodes = p.names;
      of_signals = s.signals;
      of_tables = s.tables;
    })

pub text-declares : (text : List ℕ) (d : Description) → Describes text d → DeclaresNames d
text-declares text d (ts, tokens, spelled) = file-declares (symbols_in text ts) d spelled (tokens-good text ts tokens)

-- ---- names by their numbers
or-no : (a b : Bool) → (a || b) ≡ false → (a ≡ false) × (b ≡ false)
or-no true b h = absurd (cc)
or-no false b h = (refl, h)

grown-name : (seen : List (List ℕ)) (n name : List ℕ) → has_name (seen ++ n ∷ []) name ≡ false
    → (has_name seen name ≡ false) × (bytes_eq name n ≡ false)
grown-name [] n name h = (refl, (or-no (bytes_eq name n) false h).0)
grown-name (s ∷ seen) n name h =
    let p = or-no (bytes_eq name s) (has_name (seen ++ n ∷ []) name) h in
    let q = grown-name seen n name p.1 in
    (rw (p.0, q.0) refl, q.1)

new-at : (seen names : List (List ℕ)) → AllNew seen names → (i : ℕ) → i < length names → has_name seen (get_or names i []) ≡ false
new-at seen [] h i less = absurd (omega arith)
new-at seen (n ∷ ns) h zero less = h.0
new-at seen (n ∷ ns) h (suc i) less = (grown-name seen n (get_or ns i []) (new-at (seen ++ n ∷ []) ns h.1 i (omega arith))).0

first-unlike : (seen : List (List ℕ)) (n : List ℕ) (ns : List (List ℕ)) → AllNew (seen ++ n ∷ []) ns → (i : ℕ) → i < length ns → get_or ns i [] ≡ n → ⊥
first-unlike seen n ns h i less e =
    let p = (grown-name seen n (get_or ns i []) (new-at (seen ++ n ∷ []) ns h i less)).1 in
    let q = (bytes_eq-Decides (get_or ns i []) n).1 e in
    let bad : false ≡ true = sym p ∙ q in cc

unlike-at : (seen names : List (List ℕ)) → AllNew seen names → (i k : ℕ) → i < length names → k < length names
    → get_or names i [] ≡ get_or names k [] → i ≡ k
unlike-at seen [] h i k a b e = absurd (omega arith)
unlike-at seen (n ∷ ns) h zero zero a b e = refl
unlike-at seen (n ∷ ns) h zero (suc k) a b e = absurd (first-unlike seen n ns h.1 k (omega arith) (sym e))
unlike-at seen (n ∷ ns) h (suc i) zero a b e = absurd (first-unlike seen n ns h.1 i (omega arith) e)
unlike-at seen (n ∷ ns) h (suc i) (suc k) a b e = ap suc (unlike-at (seen ++ n ∷ []) ns h.1 i k (omega arith) (omega arith) e)

pub word-at : (names : List (List ℕ)) → AllNames names → (i : ℕ) → i < length names → is_identifier (get_or names i []) ≡ true
word-at [] h i less = absurd (omega arith)
word-at (n ∷ ns) h zero less = All-head is_name_so n ns h
word-at (n ∷ ns) h (suc i) less = word-at ns (All-tail is_name_so n ns h) i (omega arith)

-- things that have these names, in order
pub names-of_new : (names : List (List ℕ)) → AreNew [] names → (n : ℕ) (name_of : ℕ → List ℕ) → n ≡ length names
    → ((k : ℕ) → name_of k ≡ get_or names k []) → AreNames (record { count = n; name = name_of })
names-of_new names a n name_of long same = record {
  words = λ k less. rw (same k) (and_parts (is_name (get_or names k [])) (list_all is_word_byte (get_or names k [])) (word-at names a.words k (omega arith))).0;
  unlike = λ i k less few e. unlike-at [] names a.new i k (omega arith) (omega arith) (sym (same i) ∙ e ∙ same k);
}
