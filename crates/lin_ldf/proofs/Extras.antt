-- Reading a word that is none of those that begin something else.
use Rattle.std.proofs.Common.{◌≡◌, Bool, true, false, ◌&&◌, ◌||◌, cond, not, ℕ, List, [], ◌∷◌, Some, None, refl, ap}
use Rattle.std.specs.Prelude.{codes}
use Rattle.std.specs.Str.{bytes_eq}
use Rattle.lin_ldf.specs.Symbols.{Symbol, is_kind}
use Rattle.lin_ldf.specs.Names.{has_name}
use Rattle.lin_ldf.specs.Forms.{mark, tail}
use Rattle.lin_ldf.specs.Words.{word_but, is_word_next}
use Rattle.lin_ldf.specs.Grammar.{header_words, is_extra_next, attribute_words, section_words, section_word, front_section}
use Rattle.lin_ldf.specs.declared.token.TokenKind.TheVariants.{Word}
use Rattle.lin_ldf.specs.declared.section.SectionWord.{SectionWord}
use Rattle.lin_ldf.specs.declared.section.SectionWord.TheVariants as words_of

pub extra_word_is : (ts : List Symbol) → is_extra_next ts ≡ true → (word_but header_words).read ts ≡ Some (tt, tail ts)
extra_word_is [] e = absurd cc
extra_word_is (t ∷ ts) e = rw e refl

-- a word that has none of these names passes as any word does
same_test : (a b : Bool) → b ≡ false → (a && not b) ≡ a
same_test true b e = rw e refl
same_test false b e = refl

-- a token that is neither of two words
no_name : (a : Bool) (p n : Bool) → (a && p) ≡ false → (a && n) ≡ false → (a && not (p || (n || false))) ≡ a
no_name true p n e f = rw (e, f) refl
no_name false p n e f = refl

pub general_word_is : (ts : List Symbol) → is_word_next (codes "LIN_protocol") ts ≡ false → is_word_next (codes "configured_NAD") ts ≡ false → (word_but attribute_words).read ts ≡ (mark Word).read ts
general_word_is [] e f = refl
general_word_is (t ∷ ts) e f =
    ap (λ b. cond b (Some (tt, ts)) None) (no_name (is_kind Word t.kind) (bytes_eq t.text (codes "LIN_protocol")) (bytes_eq t.text (codes "configured_NAD")) e f)

not_first : (b : Bool) (k rest : SectionWord) → (k ≡ words_of.Unused → ⊥) → cond b k rest ≡ words_of.Unused → (b ≡ false) × (rest ≡ words_of.Unused)
not_first true k rest other e = absurd (other e)
not_first false k rest other e = (refl, e)

no_section : (w : List ℕ) → section_word w ≡ words_of.Unused → has_name section_words w ≡ false
no_section w e =
    let a = not_first (bytes_eq w (codes "Signals")) words_of.Signals _ (λ e. absurd cc) e in
    let b = not_first (bytes_eq w (codes "Frames")) words_of.Frames _ (λ e. absurd cc) a.1 in
    let c = not_first (bytes_eq w (codes "Sporadic_frames")) words_of.Sporadic _ (λ e. absurd cc) b.1 in
    let d = not_first (bytes_eq w (codes "Event_triggered_frames")) words_of.Event _ (λ e. absurd cc) c.1 in
    let f = not_first (bytes_eq w (codes "Node_attributes")) words_of.Attributes _ (λ e. absurd cc) d.1 in
    let g = not_first (bytes_eq w (codes "Schedule_tables")) words_of.Tables _ (λ e. absurd cc) f.1 in
    let h = not_first (bytes_eq w (codes "Nodes")) words_of.Nodes words_of.Unused (λ e. absurd cc) g.1 in
    rw (a.0, b.0, c.0, d.0, f.0, g.0, h.0) refl

pub unused_word_is : (ts : List Symbol) → front_section ts ≡ words_of.Unused → (word_but section_words).read ts ≡ (mark Word).read ts
unused_word_is [] e = refl
unused_word_is (t ∷ ts) e =
    ap (λ b. cond b (Some (tt, ts)) None) (same_test (is_kind Word t.kind) (has_name section_words t.text) (no_section t.text e))
