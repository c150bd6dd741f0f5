-- The productions of plain texts, down to their items, in texts of the field.
use Rattle.std.proofs.Common.{inl, inr, ◌≡◌, ◌∙◌, ◌+◌, ◌-◌, ◌^◌, ◌<◌, ◌++◌, ◌&&◌, ℕ, Bool, true, false, not, List, [], ◌∷◌, Option, Some, None, refl, sym, ap, subst, map, arith, cond}
use Rattle.std.specs.Prelude.{codes}
use Rattle.std.proofs.lemmas.Bool.{eqb-true, lt-ltb, ltb-true}
use Rattle.lin_ldf.specs.Forms.{Form, ◌>>=◌, ◌&◌, ◌&>◌, ◌<&◌, is_keyword, keyword, mark, nothing}
use Rattle.lin_ldf.specs.Grammar as plain
use Rattle.lin_ldf.specs.GrammarLaws.{both_true, has_kind, is_word, keyword_is_word, other_is_word}
use Rattle.lin_ldf.specs.Laws.{bind_some, made_is}
use Rattle.lin_ldf.specs.Loops.{is_next}
use Rattle.lin_ldf.specs.Numbers.{fraction_digit, fraction_part, has_three_decimals, has_zero_tail, int_value, is_hexadecimal, is_in_limit, is_whole, thousandths}
use Rattle.lin_ldf.specs.Symbols.{Symbol, is_kind}
use Rattle.lin_ldf.specs.UpTo.{depth_after, depth_behind, is_end, up_to}
use Rattle.lin_ldf.specs.Words.{block, comma, consed_of, dec, dec_in, group, int, ints, is_word_but, list, name_of, new_word, new_words, no_comma, no_word, placed_number, one_or_more, others, place_of, same_state, semicolon, with_name, word, word_but, words}
use Rattle.lin_ldf.specs.declared.header.Nodes.{Nodes}
use Rattle.lin_ldf.specs.declared.token.TokenKind.{TokenKind}
use Rattle.lin_ldf.specs.declared.token.TokenKind.TheVariants as kinds
use Rattle.lin_field.specs.Grammar as field
use Rattle.lin_field.specs.Marks.{without_extra_marks}
use Rattle.lin_field.specs.PlainTexts.{exact, loose_entry, loose_event, loose_frame, loose_init, loose_signal, loose_table, wide}
use Rattle.lin_field.specs.declared.loose.LooseNodes.{LooseNodes}
use Rattle.lin_tool.proofs.laws.Limits.{IsClean, IsWithin, Limit, clean_behind, covers, covers_anything, first_limit, goes, is_left_out, kind_is, last_limit, left_out, stays, within_kind}
use Rattle.lin_tool.proofs.laws.Limits.{Anything, NoEnd, NoSemicolon}
use Rattle.lin_tool.proofs.laws.Widens.{Widens, both, into_left, into_right, left, mark_moved, regrouped, relaxed, right, same_either, same_nothing, same_token, several_widens, then, token_widens, value, value_of}

-- ---- tokens

kind_within : (k : TokenKind) (t : Symbol) → is_kind k t.kind ≡ true → IsWithin (first_limit k) (last_limit k) t.kind
kind_within k t e = within_kind k t.kind (kind_is k t.kind e)

pub word_within : (t : Symbol) → is_kind kinds.Word t.kind ≡ true → IsWithin NoEnd Anything t.kind
word_within t e = kind_within kinds.Word t e

pub number_within : (t : Symbol) → is_kind kinds.Number t.kind ≡ true → IsWithin NoEnd Anything t.kind
number_within t e = kind_within kinds.Number t e

pub text_within : (t : Symbol) → is_kind kinds.Text t.kind ≡ true → IsWithin NoEnd Anything t.kind
text_within t e = kind_within kinds.Text t e

pub same_mark : (k : TokenKind) → Widens (first_limit k) (last_limit k) (mark k) (mark k) (λ u. u)
same_mark k = same_token (first_limit k) (last_limit k) (λ t. is_kind k t.kind) (λ t. tt) (kind_within k)

pub same_keyword : (w : List ℕ) → Widens NoEnd Anything (keyword w) (keyword w) (λ u. u)
same_keyword w = same_token NoEnd Anything (is_keyword w) (λ t. tt) (λ t e. word_within t (keyword_is_word w t e))

pub keyword_mark : (w : List ℕ) (k : TokenKind) → Widens NoEnd (last_limit k) (keyword w <& mark k) (keyword w <& mark k) (λ u. u)
keyword_mark w k = left (same_keyword w) (same_mark k) (covers_anything (first_limit k))

pub same_word : Widens NoEnd Anything word word (λ n. n)
same_word = same_token NoEnd Anything is_word name_of word_within

pub same_new_word : (seen : List (List ℕ)) → Widens NoEnd Anything (new_word seen) (new_word seen) (λ n. n)
same_new_word seen = same_token NoEnd Anything (is_word_but seen) name_of (λ t e. word_within t (other_is_word seen t e))

pub same_word_but : (ws : List (List ℕ)) → Widens NoEnd Anything (word_but ws) (word_but ws) (λ u. u)
same_word_but ws = same_token NoEnd Anything (is_word_but ws) (λ t. tt) (λ t e. word_within t (other_is_word ws t e))

pub same_int : Widens NoEnd Anything int int (λ n. n)
same_int = same_token NoEnd Anything _ _ (λ t e. number_within t (both_true (has_kind kinds.Number t) _ e).0)

-- ---- numbers with decimals

zero_digit : (digits : List ℕ) → has_zero_tail digits ≡ true → fraction_digit digits 3 ≡ 0
zero_digit [] e = refl
zero_digit (a ∷ []) e = refl
zero_digit (a ∷ b ∷ []) e = refl
zero_digit (a ∷ b ∷ c ∷ []) e = refl
zero_digit (a ∷ b ∷ c ∷ d ∷ digits) e = ap (λ x. x - 48) (eqb-true d 48 (both_true _ _ e).0)

and_nothing : (n : ℕ) → n + 0 ≡ n
and_nothing n = omega arith

not_rounded : (w : List ℕ) → has_zero_tail (fraction_part w) ≡ true → field.rounded_thousandths w ≡ thousandths w
not_rounded w e = rw (zero_digit (fraction_part w) e) (and_nothing (thousandths w))

both_so : (a b : Bool) → a ≡ true → b ≡ true → (a && b) ≡ true
both_so a b e f = rw (e, f) refl

pub dec_widens : Widens NoEnd Anything dec field.decimal exact
dec_widens =
    token_widens NoEnd Anything _ (λ t. is_kind kinds.Number t.kind && field.is_decimal t.text) (placed_number thousandths) field.rounded_decimal exact
    (λ t e. number_within t (both_true (has_kind kinds.Number t) _ e).0)
    (λ t e clean.
    let a = both_true (has_kind kinds.Number t) (has_three_decimals t.text && is_in_limit (thousandths t.text)) e in
    let b = both_true (has_three_decimals t.text) (is_in_limit (thousandths t.text)) a.1 in
    let c = both_true (not (is_hexadecimal t.text)) (has_zero_tail (fraction_part t.text)) b.0 in
    let same : field.rounded_thousandths t.text ≡ thousandths t.text = not_rounded t.text c.1 in (
      both_so _ _ a.0 (both_so _ _ c.0 (ap is_in_limit same ∙ b.1)),
      λ i. record { number = record { value = same i; line = t.line; column = t.column }; is_rounded = ap not c.1 i },
    ))

pub dec_in_widens : (unit : List ℕ) (k : TokenKind) → Widens NoEnd (last_limit k) (dec_in unit k) (field.decimal_in unit k) exact
dec_in_widens unit k = left dec_widens (keyword_mark unit k) refl

-- ---- numbers of up to 64 bits

wide_limit : (n : ℕ) → is_in_limit n ≡ true → field.is_in_wide_limit n ≡ true
wide_limit n e =
    let below : n < 2 ^ 32 = ltb-true n (2 ^ 32) e in
    lt-ltb n (2 ^ 64) (omega arith)

int_widens : Widens NoEnd Anything int field.wide_int wide
int_widens =
    token_widens NoEnd Anything _ (λ t. is_kind kinds.Number t.kind && (is_whole t.text && field.is_in_wide_limit (int_value t.text)))
    (placed_number int_value) field.wide_number_of wide (λ t e. number_within t (both_true (has_kind kinds.Number t) _ e).0)
    (λ t e clean.
    let a = both_true (has_kind kinds.Number t) (is_whole t.text && is_in_limit (int_value t.text)) e in
    let b = both_true (is_whole t.text) (is_in_limit (int_value t.text)) a.1 in
    (both_so _ _ a.0 (both_so _ _ b.0 (wide_limit (int_value t.text) b.1)), refl))

-- ---- lists, blocks and groups

pub same_others : {A S : Type 0} (next : S → A → S) (f : S → Form A) → ((s : S) → Widens NoEnd Anything (f s) (f s) (λ a. a)) → (s : S)
    → Widens Anything Anything (others next f s) (others next f s) (λ xs. xs)
same_others next f p s =
    several_widens next next (λ x. comma &> f x) (λ x. comma &> f x) (λ a. a) (λ xs. xs) refl (λ a xs. refl) (λ x a. refl)
    (λ x. right (same_mark kinds.Comma) (p x) refl) no_comma no_comma s

pub same_list_of : {A S : Type 0} (next : S → A → S) (f : S → Form A) → ((s : S) → Widens NoEnd Anything (f s) (f s) (λ a. a)) → (s : S)
    → Widens NoEnd Anything (one_or_more next f s) (one_or_more next f s) (λ xs. xs)
same_list_of next f p s =
    value consed_of consed_of (λ xs. xs) (then (λ a. others next f (next s a)) (p s) (λ a. same_others next f p (next s a)) refl) (λ x. refl)

pub same_words : Widens NoEnd Anything words words (λ ns. ns)
same_words = same_list_of same_state (λ (s : Unit {0}). word) (λ s. same_word) tt

same_ints : Widens NoEnd Anything ints ints (λ ns. ns)
same_ints = same_list_of same_state (λ (s : Unit {0}). int) (λ s. same_int) tt

pub same_new_words : (seen : List (List ℕ)) → Widens NoEnd Anything (new_words seen) (new_words seen) (λ ns. ns)
same_new_words seen = same_list_of with_name new_word same_new_word seen

pub same_block : {A S : Type 0} {e : Limit} (next : S → A → S) (f : S → Form A) → ((s : S) → Widens NoEnd e (f s) (f s) (λ a. a))
    → covers NoSemicolon e ≡ true → (s : S) → Widens NoEnd Anything (block next f s) (block next f s) (λ xs. xs)
same_block {e = e} next f p is s =
    right (same_mark kinds.OpenBrace) (left (several_widens next next f f (λ a. a) (λ xs. xs) refl (λ a xs. refl) (λ x a. refl) p no_word no_word s)
    (same_mark kinds.CloseBrace) is) (covers_anything e)

pub block_widens : {A B S : Type 0} {e : Limit} (next : S → A → S) (wide : S → B → S) (f : S → Form A) (g : S → Form B) (h : A → B)
    → ((s : S) → Widens NoEnd e (f s) (g s) h) → covers NoSemicolon e ≡ true → ((s : S) (a : A) → wide s (h a) ≡ next s a) → (s : S)
    → Widens NoEnd Anything (block next f s) (block wide g s) (map h)
block_widens {e = e} next wide f g h p is same s =
    right (same_mark kinds.OpenBrace) (left (several_widens next wide f g h (map h) refl (λ a xs. refl) same p no_word no_word s)
    (same_mark kinds.CloseBrace) is) (covers_anything e)

-- marks that are left out open and close nothing
same_depth : (kind : TokenKind) (ts : List Symbol) (n : ℕ) → is_left_out kind ts ≡ true → depth_behind n kind ≡ Some n
same_depth kind ts n e = elim (left_out kind ts e) [ inl m ↦ rw (m.0) refl | inr m ↦ rw (m.0) refl ]

unended : (b : Bool) (o : Option ℕ) (m : ℕ) → cond b None o ≡ Some m → (b ≡ false) × (o ≡ Some m)
unended true o m e = absurd cc
unended false o m e = (refl, e)

front_depth : (end : TokenKind) (n l m : ℕ) (t : Symbol) (w : List Symbol) → is_end end n t.kind ≡ false → depth_behind n t.kind ≡ Some l
    → depth_after end l w ≡ Some m → depth_after end n (t ∷ w) ≡ Some m
front_depth end n l m t w e f g = rw (e, f) g

record Inside (end : TokenKind) (n m : ℕ) (w next : List Symbol) : Type 0 where
  kept : List Symbol
  whole : without_extra_marks (w ++ next) ≡ kept ++ without_extra_marks next
  balanced : depth_after end n kept ≡ Some m

inside : (end : TokenKind) (w : List Symbol) (n m : ℕ) (next : List Symbol) → depth_after end n w ≡ Some m → Inside end n m w next
inside end [] n m next d = record { kept = []; whole = refl; balanced = d }
inside end (t ∷ w) n m next d =
    let step = unended (is_end end n t.kind) (depth_behind n t.kind >>= λ l. depth_after end l w) m d in
    let behind = bind_some (depth_behind n t.kind) (λ l. depth_after end l w) m step.1 in
    elim (is_left_out t.kind (w ++ next)) as (λ b. (is_left_out t.kind (w ++ next) ≡ b) → Inside end n m (t ∷ w) next) [
      | true ↦ λ is.
          let same : behind.0 ≡ n = made_is behind.0 n (sym behind.1 ∙ same_depth t.kind (w ++ next) n is) in
          let rest = inside end w n m next (subst (λ (l : ℕ). depth_after end l w ≡ Some m) same behind.2) in
          record { kept = rest.kept; whole = goes t (w ++ next) is ∙ rest.whole; balanced = rest.balanced }
      | false ↦ λ is.
          let rest = inside end w behind.0 m next behind.2 in
          record {
            kept = t ∷ rest.kept;
            whole = stays t (w ++ next) is ∙ ap (λ (us : List Symbol). t ∷ us) rest.whole;
            balanced = front_depth end n behind.0 m t rest.kept step.0 behind.1 rest.balanced;
          }
    ] refl

same_up_to : (end : TokenKind) → Widens Anything Anything (up_to end) (up_to end) (λ u. u)
same_up_to end = record {
  begins = λ ts u rest x is. refl;
  widened = λ ts u rest x c is. let i = inside end x.0 0 0 rest x.2 in (i.kept, ap without_extra_marks x.1 ∙ i.whole, i.balanced);
  cleans = λ ts u rest x c. clean_behind x.0 rest (subst IsClean x.1 c);
}

pub same_list : Widens Anything NoSemicolon list list (λ u. u)
same_list = left (same_up_to kinds.Semicolon) (same_mark kinds.Semicolon) refl

pub same_group : Widens NoEnd Anything group group (λ u. u)
same_group = right (same_mark kinds.OpenBrace) (left (same_up_to kinds.CloseBrace) (same_mark kinds.CloseBrace) refl) refl

-- ---- nodes

master_end : Widens NoEnd NoSemicolon (plain.milliseconds kinds.Semicolon) (field.decimal <& keyword (codes "ms") <& field.master_rest) exact
master_end =
    regrouped dec (keyword (codes "ms")) semicolon
    (left (left dec_widens (same_keyword (codes "ms")) refl) (into_right (is_next kinds.Comma) (comma &> list) (same_mark kinds.Semicolon)) refl)

master_widens : (seen : List (List ℕ))
    → Widens NoEnd NoSemicolon (plain.master seen) (field.loose_master seen) (λ m. (m.0, (exact m.1.0, exact m.1.1)))
master_widens seen =
    right (keyword_mark (codes "Master") kinds.Colon)
    (both (left (same_new_word seen) (same_mark kinds.Comma) refl) (both (dec_in_widens (codes "ms") kinds.Comma) master_end refl) refl) refl

same_slaves : (seen : List (List ℕ)) → Widens NoEnd Anything (plain.slaves seen) (plain.slaves seen) (λ ns. ns)
same_slaves seen =
    right (keyword_mark (codes "Slaves") kinds.Colon)
    (left (left (same_new_words seen) (same_mark kinds.Semicolon) refl) (same_mark kinds.CloseBrace) refl) refl

abbrev pub loose_nodes : Nodes → LooseNodes
loose_nodes n = record { master = n.master; time_base = exact n.time_base; jitter = exact n.jitter; slaves = n.slaves }

pub nodes_widen : Widens NoEnd Anything plain.nodes_section field.loose_nodes loose_nodes
nodes_widen =
    value plain.as_nodes field.as_loose_nodes loose_nodes
    (right (keyword_mark (codes "Nodes") kinds.OpenBrace)
    (then (λ m. plain.slaves (with_name [] m.0)) (master_widens []) (λ m. same_slaves (with_name [] m.0)) refl) refl) (λ p. refl)

-- ---- signals

array_widens : Widens NoEnd Anything plain.array field.loose_array loose_init
array_widens =
    value plain.as_array field.as_loose_array loose_init (both (same_token NoEnd Anything _ place_of (kind_within kinds.OpenBrace))
    (left same_ints (same_mark kinds.CloseBrace) refl) refl) (λ p. refl)

init_widens : Widens NoEnd Anything plain.init field.loose_init loose_init
init_widens =
    same_either (is_next kinds.OpenBrace) (is_next kinds.OpenBrace) array_widens
    (value plain.as_scalar field.as_loose_scalar loose_init int_widens (λ n. refl))

pub signal_widens : (seen : List (List ℕ)) → Widens NoEnd NoSemicolon (plain.signal seen) (field.loose_signal seen) loose_signal
signal_widens seen =
    value plain.as_signal field.as_loose_signal loose_signal
    (both (left (same_new_word seen) (same_mark kinds.Colon) refl)
    (both (left same_int (same_mark kinds.Comma) refl)
    (both (left init_widens (same_mark kinds.Comma) refl)
    (both same_word (left (same_others same_state (λ (s : Unit {0}). word) (λ s. same_word) tt)
    (same_mark kinds.Semicolon) refl) refl) refl) refl) refl) (λ p. refl)

-- ---- frames

same_placement : (s : Unit {0}) → Widens NoEnd NoSemicolon plain.placement plain.placement (λ p. p)
same_placement s =
    value plain.placed_of plain.placed_of (λ p. p)
    (both (left same_word (same_mark kinds.Comma) refl) (left same_int (same_mark kinds.Semicolon) refl) refl) (λ p. refl)

same_placed : Widens NoEnd Anything plain.placed_signals plain.placed_signals (λ ps. ps)
same_placed = same_block same_state (λ (s : Unit {0}). plain.placement) same_placement refl tt

size_widens : Widens NoEnd Anything (comma &> int) field.optional_size field.some_of
size_widens =
    into_left (is_next kinds.Comma) (nothing None) (value_of field.some_of (right (same_mark kinds.Comma) same_int refl))

frame_rest : Widens NoEnd Anything (word <& comma & int & plain.placed_signals) (word & field.optional_size & plain.placed_signals)
    (λ p. (p.0, (field.some_of p.1.0, p.1.1)))
frame_rest = mark_moved word comma int plain.placed_signals (both same_word (both size_widens same_placed refl) refl)

pub frame_widens : (seen : List (List ℕ)) → Widens NoEnd Anything (plain.frame_declaration seen) (field.loose_frame seen) loose_frame
frame_widens seen =
    value plain.as_frame field.as_loose_frame loose_frame
    (both (left (same_new_word seen) (same_mark kinds.Colon) refl) (both (left same_int (same_mark kinds.Comma) refl) frame_rest refl) refl)
    (λ p. refl)

same_sporadic : (seen : List (List ℕ)) → Widens NoEnd NoSemicolon (plain.sporadic_frame seen) (plain.sporadic_frame seen) (λ f. f)
same_sporadic seen =
    value plain.as_sporadic plain.as_sporadic (λ f. f)
    (both (left (same_new_word seen) (same_mark kinds.Colon) refl) (left same_words (same_mark kinds.Semicolon) refl) refl) (λ p. refl)

pub same_sporadics : (seen : List (List ℕ)) → Widens NoEnd Anything (plain.sporadic seen) (plain.sporadic seen) (λ fs. fs)
same_sporadics seen =
    right (same_keyword (codes "Sporadic_frames")) (same_block plain.with_sporadic plain.sporadic_frame same_sporadic refl seen) refl

table_widens : Widens NoEnd NoEnd (word <& comma) field.event_table field.some_of
table_widens = into_left (is_next kinds.Word) (nothing None) (value_of field.some_of (left same_word (same_mark kinds.Comma) refl))

pub event_widens : (seen : List (List ℕ)) → Widens NoEnd NoSemicolon (plain.event_frame seen) (field.loose_event seen) loose_event
event_widens seen =
    value plain.as_event field.as_loose_event loose_event
    (both (left (same_new_word seen) (same_mark kinds.Colon) refl)
    (both table_widens (both (left same_int (same_mark kinds.Comma) refl) (left same_words (same_mark kinds.Semicolon) refl) refl) refl) refl)
    (λ p. refl)

-- ---- schedule tables

same_has_group : Widens Anything Anything plain.has_group plain.has_group (λ b. b)
same_has_group =
    same_either (is_next kinds.OpenBrace) (is_next kinds.OpenBrace)
    (relaxed (value (λ u. true) (λ u. true) (λ b. b) same_group (λ u. refl)) refl refl) (same_nothing false false (λ b. b) refl)

pub entry_widens : (s : Unit {0}) → Widens NoEnd NoSemicolon plain.entry field.loose_entry loose_entry
entry_widens s =
    value plain.as_entry field.as_loose_entry loose_entry
    (both same_word (both (left same_has_group (same_keyword (codes "delay")) refl) (dec_in_widens (codes "ms") kinds.Semicolon) refl) refl)
    (λ p. refl)

entries_widen : Widens NoEnd Anything plain.entries field.loose_entries (map loose_entry)
entries_widen =
    block_widens same_state same_state (λ (s : Unit {0}). plain.entry) (λ (s : Unit {0}). field.loose_entry) loose_entry entry_widens refl
    (λ s a. refl) tt

pub plain_table_widens : (seen : List (List ℕ)) → Widens NoEnd Anything (plain.table seen) (field.loose_table seen) loose_table
plain_table_widens seen =
    value plain.as_table field.as_loose_table loose_table (both (same_new_word seen) entries_widen refl) (λ p. refl)
