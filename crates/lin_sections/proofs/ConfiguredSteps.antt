-- One name, attribute, block or statement more of the configurable frames that are read.
use Rattle.std.proofs.Common.{◌≡◌, ℕ, ◌≤◌, ◌<◌, true, false, cond, List, [], ◌∷◌, length, arith}
use Rattle.std.specs.Prelude.{codes}
use Rattle.std.specs.Str.{bytes_eq}
use Rattle.lin_cluster.specs.declared.lints.configurable.Configurable.{Configurable}
use Rattle.lin_parts.specs.declared.description.Name.{Name}
use Rattle.lin_ldf.specs.Forms.{has_front, tail}
use Rattle.lin_ldf.specs.Loops.{is_next}
use Rattle.lin_ldf.specs.Symbols.{Symbol}
use Rattle.lin_ldf.specs.Words.{is_word_next, name_of}
use Rattle.lin_ldf.specs.declared.token.TokenKind.TheVariants.{Word, OpenBrace}
use Rattle.lin_sections.specs.Configured.{with_listed_name, with_names, with_attribute, listed_names, with_listed, with_node_block, with_blocks, with_section, with_statement}
use Rattle.lin_sections.specs.Passed.{has_line, behind_line, behind_group, steps_while}
use Rattle.lin_sections.proofs.PassedSteps.{shorter, no-more, group-keeps, tail-keeps}
use Rattle.lin_sections.proofs.ReadingSteps.{TakesOne, repeated-keeps}
use Rattle.lin_sections.proofs.Repeating.{one-step, no-step}

pub name-takes : TakesOne with_listed_name
name-takes x h = shorter x.0 h

names-keep : (ts : List Symbol) (names : List Name) → length (with_names ts names).0 ≤ length ts
names-keep ts names =
    let p : length (with_names ts names).0 ≤ length (tail ts) = repeated-keeps with_listed_name name-takes (tail ts, names) in
    let q : length (tail ts) ≤ length ts = tail-keeps ts in
    omega arith

attribute-shrinks : (ts : List Symbol) (names : List Name) → has_line ts ≡ true → length (with_attribute (ts, names)).0 < length ts
attribute-shrinks [] names h = absurd cc
attribute-shrinks (t ∷ ts) names h =
    let p : length (with_names ts names).0 ≤ length ts = names-keep ts names in
    let q : length (behind_group ts) ≤ length ts = group-keeps ts in
    let r : length (behind_line 0 ts) ≤ length ts = no-more 0 ts in
    elim (is_next OpenBrace ts) as (λ b. length (cond {A = List Symbol × List Name} b (cond (is_word_next (codes "configurable_frames") (t ∷ ts)) (with_names ts names) (behind_group ts, names)) (behind_line 0 ts, names)).0 < length (t ∷ ts)) [
      | true ↦ elim (is_word_next (codes "configurable_frames") (t ∷ ts)) as (λ b. length (cond {A = List Symbol × List Name} b (with_names ts names) (behind_group ts, names)).0 < length (t ∷ ts)) [
        | true ↦ omega arith
        | false ↦ omega arith
      ]
      | false ↦ omega arith
    ]

pub attribute-takes : TakesOne with_attribute
attribute-takes x h = attribute-shrinks x.0 x.1 h

listed-keep : (ts : List Symbol) → length (listed_names ts).0 ≤ length ts
listed-keep ts =
    let p : length (listed_names ts).0 ≤ length (tail ts) = repeated-keeps with_attribute attribute-takes (tail ts, []) in
    let q : length (tail ts) ≤ length ts = tail-keeps ts in
    omega arith

block-shrinks : (ts : List Symbol) (cs : List Configurable) → has_line ts ≡ true → length (with_node_block (ts, cs)).0 < length ts
block-shrinks [] cs h = absurd cc
block-shrinks (t ∷ ts) cs h =
    let p : length (listed_names ts).0 ≤ length ts = listed-keep ts in
    let r : length (behind_line 0 ts) ≤ length ts = no-more 0 ts in
    elim (is_next OpenBrace ts) as (λ b. length (cond {A = List Symbol × List Configurable} b (with_listed (name_of t) (listed_names ts) cs) (behind_line 0 ts, cs)).0 < length (t ∷ ts)) [
      | true ↦ omega arith
      | false ↦ omega arith
    ]

pub block-takes : TakesOne with_node_block
block-takes x h = block-shrinks x.0 x.1 h

section-keeps : (w : List ℕ) (ts : List Symbol) (cs : List Configurable) → length (with_section w ts cs).0 ≤ length ts
section-keeps w ts cs =
    let p : length (with_blocks ts cs).0 ≤ length (tail ts) = repeated-keeps with_node_block block-takes (tail ts, cs) in
    let q : length (tail ts) ≤ length ts = tail-keeps ts in
    let g : length (behind_group ts) ≤ length ts = group-keeps ts in
    elim (bytes_eq w (codes "Node_attributes")) as (λ b. length (cond {A = List Symbol × List Configurable} b (with_blocks ts cs) (behind_group ts, cs)).0 ≤ length ts) [
      | true ↦ omega arith
      | false ↦ g
    ]

statement-shrinks : (ts : List Symbol) (cs : List Configurable) → has_front ts ≡ true → length (with_statement (ts, cs)).0 < length ts
statement-shrinks [] cs h = absurd cc
statement-shrinks (t ∷ ts) cs h =
    let p : length (with_section t.text ts cs).0 ≤ length ts = section-keeps t.text ts cs in
    let q : length (behind_line 0 ts) ≤ length ts = no-more 0 ts in
    elim (is_next Word (t ∷ ts)) as (λ b. length (cond {A = List Symbol × List Configurable} b (cond (is_next OpenBrace ts) (with_section t.text ts cs) (behind_line 0 ts, cs)) (ts, cs)).0 < length (t ∷ ts)) [
      | true ↦ elim (is_next OpenBrace ts) as (λ b. length (cond {A = List Symbol × List Configurable} b (with_section t.text ts cs) (behind_line 0 ts, cs)).0 < length (t ∷ ts)) [
        | true ↦ omega arith
        | false ↦ omega arith
      ]
      | false ↦ omega arith
    ]

abbrev Shrinks : Type 0
Shrinks = (x : List Symbol × List Configurable) → has_front x.0 ≡ true → length (with_statement x).0 < length x.0

statement-takes : Shrinks
statement-takes x h = statement-shrinks x.0 x.1 h

abbrev pub statements_from : List Symbol × List Configurable → List Symbol × List Configurable
statements_from x = steps_while (length x.0) (λ y. has_front y.0) with_statement x

pub statement-more : (x y total : List Symbol × List Configurable) → has_front x.0 ≡ true → y ≡ with_statement x → statements_from x ≡ total → statements_from y ≡ total
statement-more x y total e made so_far = one-step (λ (z : List Symbol × List Configurable). length z.0) (λ z. has_front z.0) with_statement statement-takes x y total e made so_far

pub statement-less : (x y : List Symbol × List Configurable) → has_front x.0 ≡ true → y ≡ with_statement x → length y.0 < length x.0
statement-less x y e made = rw made (statement-takes x e)

pub statements-done : (x total : List Symbol × List Configurable) → has_front x.0 ≡ false → statements_from x ≡ total → total ≡ x
statements-done x total e so_far = no-step (λ (z : List Symbol × List Configurable). length z.0) (λ z. has_front z.0) with_statement statement-takes x total e so_far
