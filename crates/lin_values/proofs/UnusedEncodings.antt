-- Encodings that no signal has, type by type.
use Rattle.std.proofs.Common.{◌≡◌, ◌<◌, ◌+◌, ℕ, Bool, not, List, [], ◌++◌, length, take, get_or, refl, sym, ap, subst, ◌∙◌, arith}
use Rattle.std.specs.Prelude.{Option, Some, None, find, option_and_then}
use Rattle.std.specs.List.{list_any}
use Rattle.std.specs.Option.{option_map}
use Rattle.std.proofs.lemmas.List.{length-take-le}
use Rattle.indexmap.specs.IndexMap.{IndexMap}
use Rattle.lin_cluster.specs.FindingsNames.{at_name, when}
use Rattle.lin_cluster.specs.declared.finding.Finding.{Finding}
use Rattle.lin_cluster.specs.declared.finding.FindingKind.TheVariants.{UnusedEncoding}
use Rattle.lin_parts.specs.declared.description.Description.{Description}
use Rattle.lin_parts.specs.declared.description.Name.{Name}
use Rattle.lin_parts.specs.declared.description.Signal.{Signal}
use Rattle.lin_values.proofs.ItemSteps.{told-step}
use Rattle.lin_values.specs.Coded.{is_named, named_in}
use Rattle.lin_values.specs.Gathered.{encoding_in, type_number, AreNamed}
use Rattle.lin_values.specs.Unused.{encoding_number, is_raw_number, unused_encoding}
use Rattle.lin_values.specs.Warnings.{told_by}
use Rattle.lin_values.specs.declared.codings.CodedLine.{CodedLine}
use Rattle.lin_values.specs.declared.codings.CodingType.{CodingType}
use Rattle.lin_values.specs.declared.codings.Codings.{Codings}
use denote.Ref.{Bor}

-- the encoding of a signal, by its name
joined : (ts : List CodingType) (o : Option (Name × Name)) → option_and_then (λ e. e) (option_map (λ p. type_number ts p.1) o) ≡ option_and_then (λ p. type_number ts p.1) o
joined ts None = refl
joined ts (Some p) = refl

number-same : {S : Type 0} (k : Codings) (m : IndexMap (Bor (List ℕ)) (Option ℕ) S) → AreNamed k.types (named_in k.lines) m → (s : Signal) → encoding_in m s.name.text ≡ encoding_number k s
number-same k m named s = ap (option_and_then (λ e. e)) (named s.name.text) ∙ joined k.types (find (is_named s.name.text) (named_in k.lines))

-- a type more
pub unused-step : {S : Type 0} (d : Description) (k : Codings) (m : IndexMap (Bor (List ℕ)) (Option ℕ) S) (ts : List CodingType) (ls : List CodedLine) (ss : List Signal) (i : ℕ) (t : CodingType) (is_used is_unused : Bool) (f : Finding) (old now : List Finding) → ts ≡ k.types → ls ≡ k.lines → ss ≡ d.signals → i < length ts → t ≡ get_or ts i t → AreNamed ts (named_in ls) m → is_used ≡ list_any (λ s. is_raw_number i (encoding_in m s.name.text)) ss → is_unused ≡ not is_used → f ≡ at_name UnusedEncoding t.name → old ≡ told_by (unused_encoding d k) [] (take i ts) → now ≡ old ++ when is_unused f → now ≡ told_by (unused_encoding d k) [] (take (i + 1) ts)
unused-step d k m ts ls ss i t is_used is_unused f old now types lines signals lt is named used unused at so here =
    let named-here : AreNamed k.types (named_in k.lines) m = subst (λ (tl : List CodingType × List CodedLine). AreNamed tl.0 (named_in tl.1) m) (λ j. (types j, lines j)) named in
    let same : is_used ≡ list_any (λ s. is_raw_number (length (take i ts)) (encoding_number k s)) d.signals =
    used ∙ ap (list_any (λ s. is_raw_number i (encoding_in m s.name.text))) signals
    ∙ (λ j. list_any (λ s. is_raw_number i (number-same k m named-here s j)) d.signals)
    ∙ ap (λ n. list_any (λ s. is_raw_number n (encoding_number k s)) d.signals) (sym (length-take-le i ts (omega arith))) in
    told-step (unused_encoding d k) ts i t [] old now (when is_unused f) lt is so here
    ((λ j. when (unused j) (at j)) ∙ ap (λ b. when (not b) (at_name UnusedEncoding t.name)) same)
