-- A text none of whose marks is a suspect: what the parser makes of its tokens.
use Rattle.std.proofs.Common.{◌≡◌, ℕ, false, List, [], ◌++◌, ◌∷◌, Ok, sym, ap, subst, ◌∙◌, inl, inr}
use Rattle.lin_ldf.specs.Symbols.{Symbol, symbols_in}
use Rattle.lin_ldf.specs.Forms.{Form, Gives}
use Rattle.lin_ldf.specs.Stream.{start_of}
use Rattle.lin_ldf.specs.Laws.{keyword_takes}
use Rattle.lin_ldf.specs.Words.{with_name, same_state}
use Rattle.lin_ldf.specs.GrammarLaws.{keyword_before}
use Rattle.lin_ldf.specs.Tokens.{AreTokens}
use Rattle.lin_ldf.specs.declared.token.Token.{Token}
use Rattle.lin_ldf.specs.declared.token.TokenKind.TheVariants as kinds
use Rattle.lin_ldf.proofs.Outcomes.{outcome}
use Rattle.lin_ldf.proofs.Stops.{Closed, Closes, after, closes_right, closes_then, closes_value, closes_once, closes_choice, block_closes, slaves_close, sections_close, steps_close, no_stop}
use Rattle.lin_field.specs.Grammar.{unless, as_loose_nodes, loose_nodes, loose_node_names, loose_signal, with_loose_signal, loose_frame, with_loose_frame, loose_event, with_loose_event, loose_block, with_loose_block, node_address, loose_table, with_loose_table, with_loose_signals, with_loose_frames, with_loose_events, with_loose_attributes, with_addresses, with_loose_tables, with_plain, field_section_words, loose_section_of, loose_section, no_loose_sections, field_file}
use Rattle.lin_field.specs.GrammarLaws.{header_takes, master_takes, loose_signal_takes, loose_frame_takes, loose_event_takes, loose_block_takes, address_takes, loose_table_takes}
use Rattle.lin_field.specs.Marks.{AreExtraMarks}
use Rattle.lin_field.specs.Suspects.{has_suspect}
use Rattle.lin_field.specs.declared.loose.Loose.{Loose}
use Rattle.lin_field.specs.declared.file.FieldWord.{FieldWord}
use Rattle.lin_field.specs.declared.file.FieldWord.TheVariants as field_words
use Rattle.lin_field.specs.declared.file.LooseSections.{LooseSections}
use Rattle.lin_field.proofs.Spelled.{found_spelled, seen_in}
use Rattle.lin_field.proofs.Suspects.{no_extra}

closes_unless : {A : Type 0} (words : List (List ℕ)) {f : Form A} → Closes f → Closes (unless words f)
closes_unless words q = record { closed = λ ts a rest h. q.closed ts a rest h.1 }

nodes_close : Closes loose_nodes
nodes_close = closes_value as_loose_nodes (closes_right (keyword_before _ kinds.OpenBrace).lawful (closes_then (master_takes []).lawful (λ m. slaves_close (with_name [] m.0))))

section_closes : (s : LooseSections) (w : FieldWord) → Closes (loose_section_of w s)
section_closes s field_words.Signals = closes_value (with_loose_signals s) (closes_once s.signals (closes_right (keyword_takes _).lawful (block_closes with_loose_signal loose_signal loose_signal_takes [])))
section_closes s field_words.Frames = closes_value (with_loose_frames s) (closes_once s.frames (closes_right (keyword_takes _).lawful (block_closes with_loose_frame loose_frame loose_frame_takes s.plain.frame_names)))
section_closes s field_words.Event = closes_value (with_loose_events s) (closes_once s.events (closes_right (keyword_takes _).lawful (block_closes with_loose_event loose_event loose_event_takes s.plain.frame_names)))
section_closes s field_words.Attributes = closes_value (with_loose_attributes s) (closes_once s.attributes (closes_right (keyword_takes _).lawful (block_closes with_loose_block loose_block loose_block_takes s.plain.blocks)))
section_closes s field_words.Addresses = closes_value (with_addresses s) (closes_once s.addresses (closes_right (keyword_takes _).lawful (block_closes same_state (λ (u : Unit {0}). node_address) address_takes tt)))
section_closes s field_words.Tables = closes_value (with_loose_tables s) (closes_once s.tables (closes_right (keyword_takes _).lawful (block_closes with_loose_table loose_table loose_table_takes [])))
section_closes s field_words.Plain = closes_value (with_plain s) (closes_unless field_section_words (sections_close s.plain))

-- the last token of a file is a closing brace
file_closes : (ss : List Symbol) (l : Loose) → field_file.spells ss l [] → Closed ss []
file_closes ss l h =
    let first = h.1.1 in
    let begun : Closed ss h.1.0 = after ss first.0 h.1.0 (header_takes.lawful.behind ss h.0.0.0 first.0 first.1) (nodes_close.closed first.0 h.0.0.1 h.1.0 first.2) in
    let sections = h.1.2 in
    subst (Closed ss) sections.3.0 (steps_close loose_section (λ s. closes_choice (section_closes s)) sections.2.0 ss (no_loose_sections (loose_node_names h.0.0.1)) h.1.0 h.0.1 sections.0 begun sections.2.1)

-- no mark is left out, whatever the tokens are
pub no_marks : (source : List ℕ) → has_suspect source ≡ false → (ts : List Token) → AreTokens source ts → AreExtraMarks source []
no_marks source none ts are = (ts, are, sym (no_extra source none ts are))

-- where a file was read, its tokens have no fault
pub read_whole : (source : List ℕ) (l : Loose) (left ss : List Symbol) → ss ≡ seen_in source → Gives (Ok l) left (field_file.read ss) → AreTokens source (start_of source).tokens
read_whole source l left ss seen e = elim (outcome source) [
  | inl (are, none) ↦ are
  | inr (f, is, other, some, us, p, same) ↦
      let stops : ss ≡ symbols_in source (us ++ _ ∷ []) = seen ∙ ap (symbols_in source) same in
      absurd (no_stop source us p (file_closes _ l (subst (λ (xs : List Symbol). field_file.spells xs l []) stops (found_spelled l left ss e))))
]
