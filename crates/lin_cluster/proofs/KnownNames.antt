-- The numbers of names that a description knows.
use Rattle.std.proofs.Common.{◌≡◌, ◌≢◌, ◌<◌, ◌+◌, ℕ, suc, Bool, true, false, List, [], ◌∷◌, length, get_or, refl, sym, subst, ap, ◌∙◌, arith}
use Rattle.std.specs.Prelude.{◌==◌, Option, Some, None, is_some, is_none}
use Rattle.std.specs.List.{enumerate_from, position_or_len}
use Rattle.std.specs.Str.{bytes_eq}
use Rattle.std.proofs.lemmas.Bool.{eqb-true, eq-eqb}
use Rattle.std.proofs.lemmas.List.{get_or-map, length-map}
use Rattle.std.proofs.lemmas.List.FromFn.{length-enumerate_from, get_or-enumerate_from}
use Rattle.lin_parts.specs.declared.description.Description.{Description}
use Rattle.lin_parts.specs.declared.description.Init.TheVariants as inits
use Rattle.lin_parts.specs.declared.description.Frame as declared_frame
use Rattle.lin_parts.specs.declared.description.Name.{Name}
use Rattle.lin_parts.specs.declared.description.Number.{Number}
use Rattle.lin_parts.specs.declared.description.PlacedSignal.{PlacedSignal}
use Rattle.lin_parts.specs.declared.description.Signal as declared_signal
use Rattle.lin_parts.specs.declared.description.Table as declared_table
use Rattle.lin_parts.specs.Cluster.{nodes, signal_of, frame_of}
use Rattle.lin_cluster.specs.Described.{node_names, node_number, signal_number, frame_number, table_number, responder, described_signal, described_frame, parts_of}
use Rattle.lin_cluster.specs.FindingsNames.{is_node, signal_named, frame_named, table_named, same_name}
use Rattle.lin_cluster.proofs.NamesFound.{number_by, same-text, text-same, has-text, one-text, any-within, found-within, found-at}

pub alike : (a b : Bool) → (a ≡ true → b ≡ true) → (b ≡ true → a ≡ true) → a ≡ b
alike true b there back = sym (there refl)
alike false true there back = back refl
alike false false there back = refl

abbrev pub no_name : Name
no_name = record { text = []; line = 0; column = 0 }

abbrev pub no_number : Number
no_number = record { value = 0; line = 0; column = 0 }

abbrev pub no_signal : declared_signal.Signal
no_signal = record { name = no_name; size = no_number; init = inits.Scalar no_number; publisher = no_name; subscribers = [] }

abbrev pub no_frame : declared_frame.Frame
no_frame = record { name = no_name; id = no_number; publisher = no_name; size = no_number; placed = [] }

abbrev pub no_table : declared_table.Table
no_table = record { name = no_name; entries = [] }

abbrev text_of : Name → List ℕ
text_of n = n.text

-- ---- nodes

pub nodes-count : (d : Description) → nodes (parts_of d) ≡ suc (length d.slaves)
nodes-count d = ap suc (length-map _ (responder d) ∙ length-enumerate_from 1 d.slaves)

pub node-within : (d : Description) (name : Name) → is_node d name ≡ true → node_number d name < suc (length d.slaves)
node-within d name known = any-within (λ n. bytes_eq n.text name.text) (node_names d) known

pub node-same : (d : Description) (a b : Name) → same_name a b ≡ true → node_number d a ≡ node_number d b
node-same d a b same = ap (λ t. number_by text_of (node_names d) t) (same-text a.text b.text same)

pub same-node : (d : Description) (a b : Name) → is_node d a ≡ true → node_number d a ≡ node_number d b → same_name a b ≡ true
same-node d a b known same = text-same a.text b.text (one-text text_of (node_names d) a.text b.text (node-within d a known) same)

first-passes : {X : Type 0} (p : X → Bool) (x : X) (xs : List X) → p x ≡ true → position_or_len p (x ∷ xs) ≡ 0
first-passes p x xs e = rw e refl

pub commander : (d : Description) (a : Name) → same_name a d.master ≡ true → node_number d a ≡ 0
commander d a same = first-passes (λ n. bytes_eq n.text a.text) d.master d.slaves (text-same d.master.text a.text (sym (same-text a.text d.master.text same)))

pub not-commander : (d : Description) (a : Name) → same_name a d.master ≡ false → node_number d a ≢ 0
not-commander d a differ is =
    let within : node_number d a < suc (length d.slaves) = omega arith
    in let text : d.master.text ≡ a.text = subst (λ k. (get_or (node_names d) k no_name).text ≡ a.text) is (has-text text_of (node_names d) a.text no_name within)
    in let same : same_name a d.master ≡ true = text-same a.text d.master.text (sym text)
    in cc

-- ---- signals

pub some-of : {A : Type 0} (o : Option A) → is_none o ≡ false → is_some o ≡ true
some-of None e = absurd (cc)
some-of (Some x) e = refl

-- the signal that a frame places
abbrev pub the_signal : Description → PlacedSignal → declared_signal.Signal
the_signal d p = get_or d.signals (signal_number d p.signal) no_signal

pub signal-within : (d : Description) (name : Name) → is_none (signal_named d name) ≡ false → signal_number d name < length d.signals
signal-within d name known = found-within (λ s. bytes_eq s.name.text name.text) d.signals (some-of (signal_named d name) known)

pub signal-at : (d : Description) (p : PlacedSignal) → signal_number d p.signal < length d.signals → signal_named d p.signal ≡ Some (the_signal d p)
signal-at d p lt = found-at (λ s. bytes_eq s.name.text p.signal.text) d.signals no_signal lt

pub signal-part : (d : Description) (p : PlacedSignal) → signal_number d p.signal < length d.signals → signal_of (parts_of d) (signal_number d p.signal) ≡ described_signal d (the_signal d p)
signal-part d p lt = get_or-map (described_signal d) d.signals (signal_number d p.signal) no_signal _ lt

abbrev signal_text : declared_signal.Signal → List ℕ
signal_text s = s.name.text

pub same-signal : (d : Description) (p q : PlacedSignal) → signal_number d p.signal < length d.signals → signal_number d p.signal ≡ signal_number d q.signal → same_name p.signal q.signal ≡ true
same-signal d p q lt same = text-same p.signal.text q.signal.text (one-text signal_text d.signals p.signal.text q.signal.text lt same)

-- where a signal is found, those of its number are those of its name
pub same-number : (d : Description) (p q : PlacedSignal) → signal_number d p.signal < length d.signals → same_name q.signal p.signal ≡ (signal_number d q.signal == signal_number d p.signal)
same-number d p q lt =
    let name = same_name q.signal p.signal
    in let number = signal_number d q.signal == signal_number d p.signal
    in alike name number
    (λ e. eq-eqb (signal_number d q.signal) (signal_number d p.signal) (ap (λ t. number_by signal_text d.signals t) (same-text q.signal.text p.signal.text e)))
    (λ e. text-same q.signal.text p.signal.text (sym (same-text p.signal.text q.signal.text (same-signal d p q lt (sym (eqb-true (signal_number d q.signal) (signal_number d p.signal) e))))))

-- ---- frames and tables

pub frame-found : (d : Description) (name : Name) → frame_number d name < length d.frames → frame_named d name ≡ Some (get_or d.frames (frame_number d name) no_frame)
frame-found d name lt = found-at (λ f. bytes_eq f.name.text name.text) d.frames no_frame lt

frame-numbered : (d : Description) (k : ℕ) (x : ℕ × declared_frame.Frame) → k < length d.frames → get_or (enumerate_from 0 d.frames) k x ≡ (k, get_or d.frames k x.1)
frame-numbered d k x lt = let e : 0 + k ≡ k = omega arith in subst (λ n. get_or (enumerate_from 0 d.frames) k x ≡ (n, get_or d.frames k x.1)) e (get_or-enumerate_from 0 d.frames k x lt)

pub frame-part : (d : Description) (k : ℕ) → k < length d.frames → frame_of (parts_of d) k ≡ described_frame d (k, get_or d.frames k no_frame)
frame-part d k lt =
    let within : k < length (enumerate_from 0 d.frames) = omega (arith, length-enumerate_from 0 d.frames)
    in get_or-map (described_frame d) (enumerate_from 0 d.frames) k (0, no_frame) _ within ∙ ap (described_frame d) (frame-numbered d k (0, no_frame) lt)

pub table-within : (d : Description) (name : Name) → is_none (table_named d name) ≡ false → table_number d name < length d.tables
table-within d name known = found-within (λ t. bytes_eq t.name.text name.text) d.tables (some-of (table_named d name) known)

pub table-found : (d : Description) (name : Name) → table_number d name < length d.tables → table_named d name ≡ Some (get_or d.tables (table_number d name) no_table)
table-found d name lt = found-at (λ t. bytes_eq t.name.text name.text) d.tables no_table lt
