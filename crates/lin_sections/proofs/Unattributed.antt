-- A text that doesn't mention the section of the attributes of nodes has none.
use Rattle.std.proofs.Common.{◌≡◌, ◌∙◌, ℕ, zero, suc, Bool, true, false, cond, List, [], ◌∷◌, ◌++◌, length, Some, None, flat_map, refl, sym, ap}
use Rattle.std.specs.Prelude.{codes}
use Rattle.std.specs.Str.{bytes_eq}
use Rattle.std.proofs.lemmas.Bool.{and_right, or_parts}
use Rattle.std.proofs.lemmas.List.Folds.{list_any-append}
use Rattle.lin_ldf.specs.Forms.{tail, Form}
use Rattle.lin_ldf.specs.GrammarLaws.{ended_by}
use Rattle.lin_ldf.specs.Laws.{mark_takes, right_take, Behind, Lawful}
use Rattle.lin_ldf.specs.Symbols.{Symbol}
use Rattle.lin_ldf.specs.UpToLaws.{up_to_lawful}
use Rattle.lin_ldf.specs.Words.{group, is_word_next, list}
use Rattle.lin_ldf.specs.declared.token.TokenKind.TheVariants.{OpenBrace, CloseBrace, Semicolon}
use Rattle.lin_sections.specs.Attributes.{attribute_blocks, block_of, node_attributes}
use Rattle.lin_sections.specs.Mentioned.{has_word}
use Rattle.lin_sections.specs.Passed.{has_line}
use Rattle.lin_sections.specs.Statements.{behind_statement, inside, is_group, statements, statements_at, tokens_left}
use Rattle.lin_sections.specs.declared.attribute_blocks.NodeAttributes.{NodeAttributes}
use Rattle.lin_sections.proofs.Unmentioned.{not-behind, not-next}

-- ---- what is left behind others

left-behind : (w : List ℕ) (ts rest : List Symbol) → Behind ts rest → has_word w ts ≡ false → has_word w rest ≡ false
left-behind w ts rest (v, e) none =
    (or_parts (has_word w v) (has_word w rest)
    (sym (list_any-append (λ (t : Symbol). bytes_eq t.text w) v rest) ∙ ap (has_word w) (sym e) ∙ none)).1

left-by : {ends : List Symbol → Bool} (f : Form (Unit {0})) → Lawful ends f → (w : List ℕ) (ts : List Symbol) → has_word w ts ≡ false → has_word w (tokens_left (f.read ts)) ≡ false
left-by f lawful w ts none =
    elim (f.read ts) as (λ o. (f.read ts ≡ o) → has_word w (tokens_left o) ≡ false) [
      | None ↦ λ e. refl
      | Some a ↦ λ e. left-behind w ts a.1 (lawful.behind ts a.0 a.1 (lawful.found ts a.0 a.1 e)) none
    ] refl

left-by-statement : (w : List ℕ) (ts : List Symbol) → has_word w ts ≡ false → has_word w (behind_statement ts) ≡ false
left-by-statement w ts none =
    elim (is_group ts) as (λ b. has_word w (tokens_left (cond b (group.read (tail ts)) (list.read ts))) ≡ false) [
      | true ↦ left-by group (right_take (mark_takes OpenBrace) (ended_by CloseBrace (up_to_lawful CloseBrace) (λ t us e. e))).lawful w (tail ts) (not-behind w ts none)
      | false ↦ left-by list (ended_by Semicolon (up_to_lawful Semicolon) (λ t us e. e)) w ts none
    ]

-- ---- no section

abbrev section_word : List ℕ
section_word = codes "Node_attributes"

no-block : (ts : List Symbol) → has_word section_word ts ≡ false → attribute_blocks ts ≡ []
no-block ts none =
    ap (λ b. cond {A = List NodeAttributes} b (flat_map block_of (statements (inside ts))) [])
    (and_right (is_group ts) (is_word_next section_word ts) (not-next section_word ts none))

no-blocks : (n : ℕ) (ts : List Symbol) → has_word section_word ts ≡ false → flat_map attribute_blocks (statements_at n ts) ≡ []
no-blocks zero ts none = refl
no-blocks (suc n) ts none =
    elim (has_line ts) as (λ b. flat_map attribute_blocks (cond b (ts ∷ statements_at n (behind_statement ts)) []) ≡ []) [
      | true ↦ (λ j. no-block ts none j ++ no-blocks n (behind_statement ts) (left-by-statement section_word ts none) j)
      | false ↦ refl
    ]

pub none-attributed : (ts : List Symbol) → has_word (codes "Node_attributes") ts ≡ false → node_attributes ts ≡ []
none-attributed ts none = no-blocks (length ts) ts none
