-- What `parse` and `check` say of a text, in C's words.
use Rattle.std.proofs.Common.{◌≡◌, ◌≢◌, ◌⊎◌, inl, inr, ℕ, ◌+◌, Bool, subst, ◌<◌, List, [], ◌∷◌, ◌++◌, length, Result, Ok, Err, add-one, ap, append-nil, flat_map, sym, ◌∙◌, slice_index_or, rules}
use Rattle.std.specs.Prelude.{IfErr, IfOk}
use Rattle.std.proofs.lemmas.Grind.{flat_map-append}
use Rattle.std.proofs.lemmas.List.{nil_from_length}
use Rattle.std.proofs.lemmas.List.Sorted.{length_permutation}
use Rattle.lin_frame.specs.Words.{numbers}
use Rattle.lin_ldf.specs.Describes.{Describes}
use Rattle.lin_ldf.specs.Stream.{start_of}
use Rattle.lin_ldf.specs.Symbols.{symbols_in}
use Rattle.lin_ldf.specs.Tokens.{IsLexFault}
use Rattle.lin_ldf.specs.declared.fault.LdfFault.{LdfFault}
use Rattle.lin_ldf.specs.declared.fault.LdfFault.TheVariants as ldf
use Rattle.lin_parts.specs.declared.description.Description.{Description}
use Rattle.lin_parts.specs.declared.parts.Parts.{Parts}
use Rattle.lin_cluster.specs.Checks.{IsCheckFault}
use Rattle.lin_cluster.specs.Findings.{candidates}
use Rattle.lin_cluster.specs.declared.finding.CheckFault.TheVariants.{Findings}
use Rattle.lin_cluster.specs.declared.finding.Finding.{Finding}
use Rattle.lin_field.specs.Bytes.{field_bytes}
use Rattle.lin_field.specs.Describes.{ReadsFieldText}
use Rattle.lin_field.specs.declared.field_text.FieldText.{FieldText}
use Rattle.lin_field.specs.declared.normalizing.Normalized.{Normalized}
use Rattle.linsim_c.specs.Described.{AnswersChecked, AnswersField, AnswersNormalized, AnswersStandard, ChecksField}
use Rattle.linsim_c.specs.Described.{blanked_text, configured_in, field_coded_in, limits_in, node_limits}
use Rattle.linsim_c.specs.declared.ldf_cluster.Described.{Described}
use Rattle.linsim_c.specs.declared.fault.Fault.TheVariants as fault
use Rattle.lin_values.specs.Coded.{coded_signals}
use Rattle.lin_sections.specs.Reading.{codings, field_codings}
use Rattle.lin_sections.specs.TransferLimits.{transfer_limits}
use Rattle.lin_sections.specs.declared.transfer_limits.TransferLimits.{TransferLimits}
use Rattle.lin_values.specs.declared.codings.Codings.{Codings}
use Rattle.linsim_c.specs.Setups.{IsClusterOf, IsFirstFinding, IsParseFault, TextFaults}
use Rattle.linsim_c.specs.declared.fault.Fault.{Fault}
use Rattle.linsim_c.specs.declared.fault.Fault.TheVariants.{Ldf, OutOfMemory}

-- the items of one number more
pub numbers-more : {A : Type 0} (f : ℕ → List A) (n : ℕ) → flat_map f (numbers (n + 1)) ≡ flat_map f (numbers n) ++ f n
numbers-more f n =
    ap (λ k. flat_map f (numbers k)) (add-one n) ∙ flat_map-append f (numbers n) (n ∷ []) ∙ ap (λ l. flat_map f (numbers n) ++ l) (append-nil (f n))

-- what C's fault says of the text
pub tells_fault : (text : List ℕ) (told : Fault) (fault : LdfFault) → IsParseFault told fault
    → ((d : Description) → Describes text d → fault ≡ ldf.OutOfMemory)
    → ((e : LdfFault) → IsLexFault text e → e ≢ ldf.OutOfMemory → (fault ≡ e) ⊎ (fault ≡ ldf.OutOfMemory)) → TextFaults told text
tells_fault text (Ldf f) fault (same, some) only first = record {
  some = λ memory. some (sym same ∙ memory);
  nothing = λ d h. some (only d h);
  first = λ e h other. elim (first e h other) [ inl is ↦ same ∙ is | inr memory ↦ absurd (some memory) ];
}
tells_fault text OutOfMemory fault h only first = tt
tells_fault text _ fault h only first = absurd h

-- the same of a text of the field
pub tells_field : (text left : List ℕ) (told : Fault) (fault : LdfFault) → IsParseFault told fault
    → ((t : FieldText) → ReadsFieldText text t → fault ≡ ldf.OutOfMemory)
    → ((e : LdfFault) → IsLexFault (field_bytes text) e → e ≢ ldf.OutOfMemory → (fault ≡ e) ⊎ (fault ≡ ldf.OutOfMemory))
    → AnswersNormalized (Err told) text left
tells_field text left (Ldf f) fault (same, some) only first = record {
  some = λ memory. some (sym same ∙ memory);
  nothing = λ t h. some (only t h);
  first = λ e h other. elim (first e h other) [ inl is ↦ same ∙ is | inr memory ↦ absurd (some memory) ];
}
tells_field text left OutOfMemory fault h only first = tt
tells_field text left _ fault h only first = absurd h

-- why a text isn't settled, and what is answered to what it is settled to, is what is answered to it
pub unsettled : (is_configured : Bool) (text left : List ℕ) (why : Fault) → AnswersNormalized (Err why) text left
    → AnswersField is_configured (Err why) text
unsettled is_configured text left (Ldf f) h = h
unsettled is_configured text left OutOfMemory h = tt
unsettled is_configured text left _ h = absurd h

pub field_answer : (is_configured : Bool) (text left : List ℕ) (s : Normalized) (r : Result Described Fault) → AnswersNormalized (Ok s) text left
    → AnswersChecked is_configured r s left → AnswersField is_configured r text
field_answer is_configured text left s (Ok d) (read, settled, is) (c, (free, said), sent, coded, limits) = record {
  read = read;
  s = s;
  settled = settled;
  free = free;
  said = sent ∙ ap (λ bytes. configured_in is_configured bytes c) is ∙ ap (configured_in is_configured (blanked_text text read)) said;
  coded = coded ∙ ap (λ bytes. field_coded_in s.wide bytes d.cluster) is;
  limits = limits ∙ ap (λ bytes. limits_in bytes d.cluster) is;
}
field_answer is_configured text left s (Err (fault.Finding f)) (read, settled, is) h = (read, s, settled, h)
field_answer is_configured text left s (Err OutOfMemory) settled h = tt
field_answer is_configured text left s (Err _) settled h = absurd h

-- what values mean in the cluster that is answered
coded-there : (d : Described) (all k : Codings) (q : Parts) → k ≡ all → d.cluster ≡ q → d.coded ≡ coded_signals q k
    → d.coded ≡ coded_signals d.cluster all
coded-there d all k q read same coded = coded ∙ ap (coded_signals q) read ∙ ap (λ c. coded_signals c all) (sym same)

-- the limits of the nodes of the cluster that is answered
limits-there : (d : Described) (all named : List TransferLimits) (q : Parts) → named ≡ all → d.cluster ≡ q → d.limits ≡ node_limits q named
    → d.limits ≡ node_limits d.cluster all
limits-there d all named q read same limits = limits ∙ ap (node_limits q) read ∙ ap (λ c. node_limits c all) (sym same)

-- the cluster that was found, with its requests, with what values mean and with the limits of its nodes, is what is answered
pub standard_answer : (is_configured : Bool) (text : List ℕ) (k : Codings) (named : List TransferLimits) (p q : Parts) (r : Result Described Fault) → IsClusterOf text p
    → q ≡ configured_in is_configured text p → k ≡ codings (symbols_in text (start_of text).tokens)
    → named ≡ transfer_limits (symbols_in text (start_of text).tokens) → IfOk r (λ d. d.cluster ≡ q)
    → IfOk r (λ d. d.coded ≡ coded_signals q k) → IfOk r (λ d. d.limits ≡ node_limits q named) → IfErr r (λ why. why ≡ OutOfMemory) → AnswersStandard is_configured r text
standard_answer is_configured text k named p q (Ok d) of sent read times same coded limits memory = (
  p,
  of,
  same ∙ sent,
  coded-there d (codings (symbols_in text (start_of text).tokens)) k q read same coded,
  limits-there d (transfer_limits (symbols_in text (start_of text).tokens)) named q times same limits,
)
standard_answer is_configured text k named p q (Err why) of sent read times same coded limits memory = subst (λ w. TextFaults w text) (sym memory) tt

pub checked_answer : (is_configured : Bool) (left : List ℕ) (s : Normalized) (k : Codings) (named : List TransferLimits) (p q : Parts) (r : Result Described Fault)
    → ChecksField (Ok p) s → q ≡ configured_in is_configured left p → k ≡ field_codings s.wide (symbols_in left (start_of left).tokens)
    → named ≡ transfer_limits (symbols_in left (start_of left).tokens) → IfOk r (λ d. d.cluster ≡ q)
    → IfOk r (λ d. d.coded ≡ coded_signals q k) → IfOk r (λ d. d.limits ≡ node_limits q named) → IfErr r (λ why. why ≡ OutOfMemory)
    → AnswersChecked is_configured r s left
checked_answer is_configured left s k named p q (Ok d) of sent read times same coded limits memory = (
  p,
  of,
  same ∙ sent,
  coded-there d (field_codings s.wide (symbols_in left (start_of left).tokens)) k q read same coded,
  limits-there d (transfer_limits (symbols_in left (start_of left).tokens)) named q times same limits,
)
checked_answer is_configured left s k named p q (Err why) of sent read times same coded limits memory = subst (λ w. ChecksField (Err w) s) (sym memory) tt

-- there is a first finding
pub some_found : (d : Description) (found : List Finding) → IsCheckFault d (Findings found) → 0 < length found
some_found d [] (all, some, one) = absurd (some (nil_from_length (candidates d) (sym (length_permutation (candidates d) [] all.all))))
some_found d (f ∷ fs) h = search rules

pub first_found : (text : List ℕ) (d : Description) (found : List Finding) (other : Finding) → Describes text d
    → IsCheckFault d (Findings found) → IsFirstFinding text (slice_index_or found 0 other)
first_found text d [] other described h = search (some_found d [] h, rules)
first_found text d (f ∷ fs) other described h = record { description = d; described = described; others = fs; all = h.0 }
