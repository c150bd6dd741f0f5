-- The cluster of an LDF text has names that a bench script reads.
use Rattle.std.proofs.Common.{◌≡◌, ◌∙◌, ◌+◌, ◌==◌, ◌<◌, ℕ, zero, suc, List, [], ◌∷◌, refl, sym, ap, arith, true, false, codes, length, get_or, map, None}
use Rattle.std.specs.List.{enumerate_from, list_all, list_any}
use Rattle.std.specs.Str.{bytes_eq}
use Rattle.std.proofs.lemmas.Bool.{and_parts}
use Rattle.std.proofs.lemmas.Grind.{common_steps}
use Rattle.std.proofs.lemmas.List.{length-map}
use Rattle.std.proofs.lemmas.List.FromFn.{length-enumerate_from}
use Rattle.std.proofs.lemmas.Slice.Eq.{bytes_eq-Decides}
use Rattle.lin_frame.specs.declared.value.Value.TheVariants.{Scalar}
use Rattle.lin_parts.specs.declared.description.Description.{Description}
use Rattle.lin_parts.specs.declared.description.Name.{Name}
use Rattle.lin_parts.specs.Cluster.{node_of, nodes}
use Rattle.lin_parts.specs.declared.parts.Node.{Node}
use Rattle.lin_parts.specs.declared.parts.Signal.{Signal}
use Rattle.lin_parts.specs.declared.parts.Table.{Table}
use Rattle.lin_cluster.specs.Described.{described_signal, described_table, parts_of, responder}
use Rattle.lin_log.specs.Language.{named_language}
use Rattle.lin_ldf.specs.Bytes.{is_word_byte}
use Rattle.lin_log.specs.Laws.{HasNames, is_name}
use Rattle.lin_bench.specs.Plain.{ArePlain, HasPlainNames, IsPlainName}
use Rattle.lin_tool.specs.laws.NamedScripts.{NamedLogsOfTexts}
use Rattle.lin_tool.proofs.laws.LdfNames.{AllNames, DeclaresNames, name_text, names-of_new, signal_text, table_text, text-declares, word-at}
use Rattle.lin_tool.proofs.laws.LdfWords.{is_identifier}
use Rattle.lin_tool.proofs.laws.NamedLogs.{named-logs}

-- what is made of things has their names, and nothing else has one
made-name : {A B : Type 0} (make : A → B) (name_of : B → List ℕ) (text_of : A → List ℕ) (other : B) → ((a : A) → name_of (make a) ≡ text_of a)
    → name_of other ≡ [] → (xs : List A) (k : ℕ) → name_of (get_or (map make xs) k other) ≡ get_or (map text_of xs) k []
made-name make name_of text_of other same none [] k = none
made-name make name_of text_of other same none (x ∷ xs) zero = same x
made-name make name_of text_of other same none (x ∷ xs) (suc k) = made-name make name_of text_of other same none xs k

numbered-names : (n : ℕ) (xs : List Name) → map (λ (p : ℕ × Name). p.1.text) (enumerate_from n xs) ≡ map name_text xs
numbered-names n [] = refl
numbered-names n (x ∷ xs) = ap (λ l. x.text ∷ l) (numbered-names (n + 1) xs)

node-name : (d : Description) (k : ℕ) → (node_of (parts_of d) k).name ≡ get_or (d.master.text ∷ map name_text d.slaves) k []
node-name d zero = refl
node-name d (suc k) =
    made-name (responder d) (λ (n : Node). n.name) (λ (p : ℕ × Name). p.1.text) (record { name = []; nad = None }) (λ p. refl) refl (enumerate_from 1 d.slaves) k
    ∙ ap (λ l. get_or l k []) (numbered-names 1 d.slaves)

node-count : (d : Description) → nodes (parts_of d) ≡ length (d.master.text ∷ map name_text d.slaves)
node-count d =
    omega (arith, length-map (enumerate_from 1 d.slaves) (responder d), length-enumerate_from 1 d.slaves, length-map d.slaves name_text)

words-of_text : (d : Description) → DeclaresNames d → HasNames (named_language (parts_of d))
words-of_text d p = record {
  of_nodes = names-of_new (d.master.text ∷ map name_text d.slaves) p.of_nodes _ _ (node-count d) (node-name d);
  of_signals = names-of_new (map signal_text d.signals) p.of_signals _ _
      (length-map d.signals (described_signal d) ∙ sym (length-map d.signals signal_text))
      (made-name (described_signal d) (λ (s : Signal). s.name) signal_text (record { name = []; publisher = 0; subscribers = []; size = 1; initial = Scalar 0 })
      (λ s. refl) refl d.signals);
  of_tables = names-of_new (map table_text d.tables) p.of_tables _ _
      (length-map d.tables (described_table d) ∙ sym (length-map d.tables table_text))
      (made-name (described_table d) (λ (t : Table). t.name) table_text (record { name = []; lines = [] }) (λ t. refl) refl d.tables);
}

-- ---- identifiers have no `$`, and none is `\`
no-dollar : (w : List ℕ) → list_all is_word_byte w ≡ true → list_any (λ b. b == 36) w ≡ false
no-dollar [] h = refl
no-dollar (b ∷ bs) h =
    let p = and_parts (is_word_byte b) (list_all is_word_byte bs) h in
    let k = p.0 in
    let other : (b == 36) ≡ false = grind (arith, common_steps, k) in
    rw other (no-dollar bs p.1)

no-backslash : (w : List ℕ) → list_all is_word_byte w ≡ true → bytes_eq w (codes "\\") ≡ false
no-backslash w h = elim (bytes_eq w (codes "\\")) as (λ b. bytes_eq w (codes "\\") ≡ b → b ≡ false) [
  | true ↦ λ e. (let no : false ≡ true = sym (ap (list_all is_word_byte) ((bytes_eq-Decides w (codes "\\")).0 e)) ∙ h in absurd (cc))
  | false ↦ λ e. refl
] refl

plain-name : (w : List ℕ) → is_identifier w ≡ true → IsPlainName w
plain-name w h =
    let p = and_parts (is_name w) (list_all is_word_byte w) h in
    (no-dollar w p.1, no-backslash w p.1)

plain-names : (names : List (List ℕ)) → AllNames names → (n : ℕ) (name_of : ℕ → List ℕ) → n ≡ length names
    → ((k : ℕ) → name_of k ≡ get_or names k []) → ArePlain (record { count = n; name = name_of })
plain-names names words n name_of long same =
    λ k less. rw (same k) (plain-name (get_or names k []) (word-at names words k (omega arith)))

plain-of_text : (d : Description) → DeclaresNames d → HasPlainNames (parts_of d)
plain-of_text d p = record {
  nodes = plain-names (d.master.text ∷ map name_text d.slaves) p.of_nodes.words _ _ (node-count d) (node-name d);
  signals = plain-names (map signal_text d.signals) p.of_signals.words _ _
      (length-map d.signals (described_signal d) ∙ sym (length-map d.signals signal_text))
      (made-name (described_signal d) (λ (s : Signal). s.name) signal_text (record { name = []; publisher = 0; subscribers = []; size = 1; initial = Scalar 0 })
      (λ s. refl) refl d.signals);
  tables = plain-names (map table_text d.tables) p.of_tables.words _ _
      (length-map d.tables (described_table d) ∙ sym (length-map d.tables table_text))
      (made-name (described_table d) (λ (t : Table). t.name) table_text (record { name = []; lines = [] }) (λ t. refl) refl d.tables);
}

pub named-logs-of_texts : NamedLogsOfTexts
named-logs-of_texts text d k log opening capacity described fits =
    let p = text-declares text d described in
    named-logs (parts_of d) k log opening capacity (words-of_text d p) (plain-of_text d p) fits
