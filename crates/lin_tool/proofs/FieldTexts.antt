-- What `read_field`, `settle` and `check_field` say of a text, in the program's words.
use Rattle.std.proofs.Common.{◌≡◌, ◌≢◌, ◌⊎◌, inl, inr, ℕ, ◌≤◌, List, ◌++◌, take, length, map, Bool, true, false, Option, Some, None, IfOk, IfErr, IfSome, IsPermutation, Result, Ok, Err, refl, sym, ap, subst, ◌∙◌}
use Rattle.std.specs.Prelude.{All, flat_map, not}
use Rattle.std.proofs.lemmas.List.Elements.{All-weaker}
use Rattle.std.proofs.lemmas.List.Sorted.{IsPermutation-trans, IsPermutation-append_left}
use Rattle.std.proofs.Math.Seq.{take-append_seam}
use Rattle.lin_ldf.specs.Stream.{start_of}
use Rattle.lin_ldf.specs.Symbols.{Symbol, symbols_in}
use Rattle.lin_ldf.specs.Tokens.{AreTokens, IsLexFault}
use Rattle.lin_ldf.specs.declared.fault.LdfFault.{LdfFault}
use Rattle.lin_ldf.specs.declared.fault.LdfFault.TheVariants as ldf
use Rattle.lin_ldf.specs.declared.token.Token.{Token}
use Rattle.lin_cluster.specs.Described.{parts_of}
use Rattle.lin_cluster.specs.SlotTimes.{slot_need, NoSlotIsShort}
use Rattle.lin_field.specs.Bytes.{field_bytes}
use Rattle.lin_field.specs.Checks.{remark, remarks, IsFieldFree}
use Rattle.lin_field.specs.Describes.{ReadsFieldText}
use Rattle.lin_field.specs.Plain.{plain_data, plain_text}
use Rattle.lin_field.specs.declared.field_check.Checked.{Checked}
use Rattle.lin_field.specs.declared.field_check.Remark.{Remark}
use Rattle.lin_field.specs.declared.field_text.FieldText.{FieldText}
use Rattle.lin_field.specs.declared.normalizing.Normalized.{Normalized}
use Rattle.lin_field.proofs.Mended.{marks_blanked}
use Rattle.lin_text.specs.Written.{WritesText}
use Rattle.lin_text.specs.declared.fault.WriteFailed.{WriteFailed}
use Rattle.lin_tool.specs.Clusters.{IsParseFault}
use Rattle.lin_parts.specs.Configured.{with_configuration, entry_with, line_with, table_with}
use Rattle.lin_parts.specs.declared.parts.Entry.{Entry}
use Rattle.lin_parts.specs.declared.parts.Entry.TheVariants.{Frame, Sporadic, Event, MasterReq, SlaveResp, Fixed, Quiet}
use Rattle.lin_parts.specs.declared.parts.Identity.{Identity}
use Rattle.lin_parts.specs.declared.parts.Line.{Line}
use Rattle.lin_parts.specs.declared.parts.Parts.{Parts}
use Rattle.lin_parts.specs.declared.parts.Table.{Table}
use Rattle.lin_parts.proofs.Configuring.{changed-all}
use Rattle.lin_sections.specs.Configuring.{configured_by, identities_by, identities_in, requests_in, section_requests, warnings_by}
use Rattle.lin_sections.specs.Statements.{statements}
use Rattle.lin_tool.specs.Coding.{coded_read, configured_read, configuring_told, with_lints, sections_read, AreWarnings}
use Rattle.lin_tool.specs.Field.{AnswersChecked, AnswersField, AnswersNormalized, CheckFaults, FieldSays, IsChecked, IsReadOver, IsNormalized, IsWrittenPlain, ReadFaults, WritesPlain}
use Rattle.lin_tool.specs.Reading.{AnswersReading}
use Rattle.lin_tool.specs.Limits.{node_limits}
use Rattle.lin_tool.specs.declared.coding.Described.{Described}
use Rattle.lin_tool.specs.declared.coding.Extras.{Extras}
use Rattle.lin_tool.specs.declared.coding.ExtraSections.{ExtraSections}
use Rattle.lin_tool.specs.declared.describing.Reading.{Reading}
use Rattle.lin_tool.specs.declared.describing.Reading.TheVariants.{Plain, Field}
use Rattle.lin_tool.specs.declared.fault.Fault.{Fault}
use Rattle.lin_tool.specs.declared.fault.Fault.TheVariants as fault
use Rattle.lin_tool.specs.declared.fault.Fault.TheVariants.{Ldf, Remarks, LdfTooLong, OutOfMemory, ReadFailed}
use Rattle.lin_tool.proofs.Texts.{answers_unread, answers_untold}
use Rattle.lin_tool.proofs.Warned.{remarked, reordered}

-- what the program's fault says of the text
pub tells_field : (text left : List ℕ) (told : Fault) (fault : LdfFault) → IsParseFault told fault
    → ((t : FieldText) → ReadsFieldText text t → fault ≡ ldf.OutOfMemory)
    → ((e : LdfFault) → IsLexFault (field_bytes text) e → e ≢ ldf.OutOfMemory → (fault ≡ e) ⊎ (fault ≡ ldf.OutOfMemory))
    → AnswersNormalized (Err told) text left
tells_field text left (Ldf f) fault (same, some) only first = record {
  some = λ memory. some (sym same ∙ memory);
  nothing = λ t h. some (only t h);
  first = λ e h other. elim (first e h other) [ inl is ↦ same ∙ is | inr memory ↦ absurd (some memory) ];
}
tells_field text left OutOfMemory fault h only first = tt
tells_field text left _ fault h only first = absurd h

-- why a text isn't settled is why a reader of it gives no cluster
pub unsettled : (x : Extras) (fault : Fault) (text left : List ℕ) (warned : List Remark) (told : Option (List ℕ)) → IfSome told (λ bytes. text ≡ bytes)
    → length text ≤ 4194304 → AnswersNormalized (Err fault) text left → AnswersField x (Err fault) warned told
unsettled x (Ldf f) text left warned told is short h = (text, is, short, h)
unsettled x OutOfMemory text left warned told is short h = tt
unsettled x _ text left warned told is short h = absurd h

-- what is answered to what a text is settled to, where nothing is wrong and its cluster is this one, with the requests of the commands
pub described_answer : (x : Extras) (s : Normalized) (checked : Checked) (k : ExtraSections) (ts : List Symbol) (c : Parts) (words odd rs : List Remark) (r : Result Described Fault) (warned : List Remark)
    → IsChecked s checked → IsPermutation (checked.warnings ++ map (remark true) k.found) words
    → IsPermutation (with_lints s.description s.placed_elsewhere k.configurables k.codings words) odd
    → c ≡ configured_read x.is_configured checked.cluster ts → IsPermutation (odd ++ map (remark true) (configuring_told x.is_configured checked.cluster ts)) rs
    → IfOk r (λ d. d.cluster ≡ c) → IfOk r (λ d. d.coded ≡ coded_read x.encodings d.cluster k.codings)
    → IfOk r (λ d. d.limits ≡ node_limits d.cluster k.limits) → IfOk r (λ d. AreWarnings x.encodings d.cluster k.codings rs warned) → IfErr r (λ fault. fault ≡ OutOfMemory) → AnswersChecked x s k ts r warned
described_answer x s checked k ts c words odd rs (Ok d) warned is joined are sends told cluster coded limits warnings memory =
    let found : List Remark = with_lints s.description s.placed_elsewhere k.configurables k.codings (remarks s ++ map (remark true) k.found) in
    let commands : List Remark = map (remark true) (configuring_told x.is_configured (parts_of s.description) ts) in
    let behind : IsPermutation (odd ++ commands) rs =
    subst (λ p. IsPermutation (odd ++ map (remark true) (configuring_told x.is_configured p ts)) rs) is.said told in
    let all : IsPermutation (found ++ commands) rs = IsPermutation-trans (found ++ commands) (odd ++ commands) rs
    (IsPermutation-append_left commands found odd (remarked s k.configurables k.codings (map (remark true) k.found) checked.warnings words odd is.warnings joined are)) behind in
    record {
      free = is.free;
      sends = cluster ∙ sends ∙ ap (λ p. configured_read x.is_configured p ts) is.said;
      coded = coded;
      limits = limits;
      warnings = reordered x.encodings d.cluster k.codings (found ++ commands) rs warned all warnings;
    }
described_answer x s checked k ts c words odd rs (Err fault) warned is joined are sends told cluster coded limits warnings memory = subst (λ f. CheckFaults f s) (sym memory) tt

pub not_both : {X : Type 0} (b : Bool) → not b ≡ true → b ≡ true → X
not_both true off on = absurd (cc)
not_both false off on = absurd (cc)

-- without the option no commands are read
same_sent : (b : Bool) (c : Parts) (ts us : List Symbol) → (b ≡ true → ts ≡ us) → configured_read b c ts ≡ configured_read b c us
same_sent true c ts us same = ap (configured_by c) (same refl)
same_sent false c ts us same = refl

same_told : (b : Bool) (c : Parts) (ts us : List Symbol) → (b ≡ true → ts ≡ us) → configuring_told b c ts ≡ configuring_told b c us
same_told true c ts us same = ap (warnings_by c) (same refl)
same_told false c ts us same = refl

pub resent : (x : Extras) (s : Normalized) (k : ExtraSections) (ts us : List Symbol) (r : Result Described Fault) (warned : List Remark)
    → (x.is_configured ≡ true → ts ≡ us) → AnswersChecked x s k ts r warned → AnswersChecked x s k us r warned
resent x s k ts us (Ok d) warned same h = record {
  free = h.free;
  sends = h.sends ∙ same_sent x.is_configured (parts_of s.description) ts us same;
  coded = h.coded;
  limits = h.limits;
  warnings = subst (λ fs. AreWarnings x.encodings d.cluster k.codings
      (with_lints s.description s.placed_elsewhere k.configurables k.codings (remarks s ++ map (remark true) k.found) ++ map (remark true) fs) warned)
      (same_told x.is_configured (parts_of s.description) ts us same) h.warnings;
}
resent x s k ts us (Err fault) warned same h = h

-- what the bytes that are left say is what the text says
pub field_says : (x : Extras) (text left : List ℕ) (s : Normalized) (k : ExtraSections) → IsReadOver text left
    → k ≡ sections_read (Some s.wide) x s.description (symbols_in left (start_of left).tokens)
    → FieldSays x text s k (symbols_in left (start_of left).tokens)
field_says x text left s k (ts, are, is) says =
    (ts, are, (ap (λ bytes. symbols_in bytes (start_of bytes).tokens) is ∙ marks_blanked (field_bytes text) ts are, says))

-- and what is answered to what it is settled to
pub checked : (x : Extras) (r : Result Described Fault) (text left given : List ℕ) (s : Normalized) (k : ExtraSections) (warned : List Remark) (told : Option (List ℕ))
    → IfSome told (λ bytes. text ≡ bytes) → length text ≤ 4194304 → IsNormalized text s × IsReadOver text left
    → k ≡ sections_read (Some s.wide) x s.description (symbols_in left (start_of left).tokens) → (x.is_configured ≡ true → given ≡ left)
    → AnswersChecked x s k (symbols_in given (start_of given).tokens) r warned → AnswersField x r warned told
checked x (Ok d) text left given s k warned told is short (settled, over) says same h =
    let said : List Symbol = symbols_in left (start_of left).tokens in
    let sent = resent x s k (symbols_in given (start_of given).tokens) said (Ok d) warned
    (λ on. ap (λ bytes. symbols_in bytes (start_of bytes).tokens) (same on)) h in
    (text, is, short, (s, settled, (k, (said, (field_says x text left s k over says, sent)))))
checked x (Err (Remarks found)) text left given s k warned told is short (settled, over) says same h = (text, is, short, (s, settled, h))
checked x (Err OutOfMemory) text left given s k warned told is short both says same h = tt
checked x (Err _) text left given s k warned told is short both says same h = absurd h

pub field_unread : (x : Extras) (fault : Fault) (warned : List Remark) (told : Option (List ℕ)) → ReadFaults fault told → AnswersField x (Err fault) warned told
field_unread x LdfTooLong warned told h = h
field_unread x OutOfMemory warned told h = tt
field_unread x ReadFailed warned told h = tt
field_unread x _ warned told h = absurd h

field_untold : (x : Extras) (r : Result Described Fault) (warned : List Remark) (told : Option (List ℕ)) → AnswersField x r warned told
    → AnswersField x r warned None
field_untold x (Ok d) warned told (text, is, short, h) = (text, tt, short, h)
field_untold x (Err (Ldf f)) warned told (text, is, short, h) = (text, tt, short, h)
field_untold x (Err (Remarks found)) warned told (text, is, short, h) = (text, tt, short, h)
field_untold x (Err LdfTooLong) warned told h = tt
field_untold x (Err OutOfMemory) warned told h = tt
field_untold x (Err ReadFailed) warned told h = tt
field_untold x (Err _) warned told h = absurd h

-- a list is as long as the room that it was lent
pub all_lent : (n : ℕ) (xs ys : List ℕ) → length xs ≡ n → take n (xs ++ ys) ≡ xs
all_lent n xs ys long = ap (λ k. take k (xs ++ ys)) (sym long) ∙ take-append_seam xs ys

-- of what is wrong no plain text is written
pub plain_unchecked : (old new : Option (List ℕ)) (fault : Fault) (text : List ℕ) (s : Normalized) → IsNormalized text s → CheckFaults fault s
    → WritesPlain old new (Err fault) text
plain_unchecked old new (Remarks found) text s settled h = (s, settled, h)
plain_unchecked old new OutOfMemory text s settled h = tt
plain_unchecked old new _ text s settled h = absurd h

-- the plain text was written, or a beginning of it
-- (what the writer answered, and the bytes that it read, by other names)
renamed : (old new : Option (List ℕ)) (s : Normalized) (l left : List ℕ) → l ≡ left → (r q : Result Unit WriteFailed) → r ≡ q
    → ((ts : List Token) → AreTokens l ts → WritesText {E = WriteFailed} old new r (plain_text (plain_data s.header s.description l ts)))
    → (ts : List Token) → AreTokens left ts → WritesText {E = WriteFailed} old new q (plain_text (plain_data s.header s.description left ts))
renamed old new s l left same r q is h =
    subst (λ k. (ts : List Token) → AreTokens k ts → WritesText {E = WriteFailed} old new q (plain_text (plain_data s.header s.description k ts))) same
    (subst (λ p. (ts : List Token) → AreTokens l ts → WritesText {E = WriteFailed} old new p (plain_text (plain_data s.header s.description l ts))) is h)

pub plain_done : (old new : Option (List ℕ)) (text left : List ℕ) (s : Normalized) → IsNormalized text s → IsReadOver text left → IsFieldFree s
    → (l : List ℕ) → l ≡ left → (r : Result Unit WriteFailed) → r ≡ Ok tt
    → ((ts : List Token) → AreTokens l ts → WritesText {E = WriteFailed} old new r (plain_text (plain_data s.header s.description l ts)))
    → IsWrittenPlain old new (Ok tt) text
plain_done old new text left s settled over free l same r is h = record {
  s = s;
  settled = settled;
  free = free;
  left = left;
  over = over;
  written = λ ts are. let k = renamed old new s l left same r (Ok tt) is h ts are in
      record { part = k.part; rest = k.rest; written = k.written; whole = k.whole; all = k.all };
}

pub plain_begun : (old new : Option (List ℕ)) (text left : List ℕ) (s : Normalized) (failed : WriteFailed) → IsNormalized text s → IsReadOver text left → IsFieldFree s
    → (l : List ℕ) → l ≡ left → (r : Result Unit WriteFailed) → r ≡ Err failed
    → ((ts : List Token) → AreTokens l ts → WritesText {E = WriteFailed} old new r (plain_text (plain_data s.header s.description l ts)))
    → IsWrittenPlain old new (Err fault.WriteFailed) text
plain_begun old new text left s failed settled over free l same r is h = record {
  s = s;
  settled = settled;
  free = free;
  left = left;
  over = over;
  written = λ ts are. let k = renamed old new s l left same r (Err failed) is h ts are in
      record { part = k.part; rest = k.rest; written = k.written; whole = k.whole; all = tt };
}

-- what is answered to some reader
pub reading_untold : (reading : Reading) (x : Extras) (r : Result Described Fault) (warned : List Remark) (told : Option (List ℕ))
    → AnswersReading reading x r warned told → AnswersReading reading x r warned None
reading_untold Plain x r warned told h = answers_untold x r warned told h
reading_untold Field x r warned told h = field_untold x r warned told h

-- where it can't be read
pub reading_unread : (reading : Reading) (x : Extras) (fault : Fault) (warned : List Remark) (told : Option (List ℕ)) → ReadFaults fault told
    → AnswersReading reading x (Err fault) warned told
reading_unread Plain x fault warned told h = answers_unread x fault warned told h
reading_unread Field x fault warned told h = field_unread x fault warned told h

-- the slot of a request is as long as the silent one was
long_same : (c : Parts) (is : List Identity) (rs : List (List (Option (List ℕ)))) (e : Entry) (n : ℕ) → slot_need c e ≤ n → slot_need (with_configuration c is rs) e ≤ n
long_same c is rs (Frame f) n h = h
long_same c is rs (Sporadic k) n h = h
long_same c is rs (Event e) n h = h
long_same c is rs MasterReq n h = h
long_same c is rs SlaveResp n h = h
long_same c is rs (Fixed request) n h = h
long_same c is rs Quiet n h = h

long_entry : (c : Parts) (is : List Identity) (rs : List (List (Option (List ℕ)))) (e : Entry) (o : Option (List ℕ)) (n : ℕ)
    → slot_need (with_configuration c is rs) e ≤ n → slot_need (with_configuration c is rs) (entry_with e o) ≤ n
long_entry c is rs (Frame f) o n h = h
long_entry c is rs (Sporadic k) o n h = h
long_entry c is rs (Event e) o n h = h
long_entry c is rs MasterReq o n h = h
long_entry c is rs SlaveResp o n h = h
long_entry c is rs (Fixed request) o n h = h
long_entry c is rs Quiet (Some request) n h = h
long_entry c is rs Quiet None n h = h

long_configured : (c : Parts) (is : List Identity) (rs : List (List (Option (List ℕ)))) → NoSlotIsShort c → NoSlotIsShort (with_configuration c is rs)
long_configured c is rs long =
    let d : Parts = with_configuration c is rs in
    let P : Line → Type 0 = λ l. slot_need d l.entry ≤ l.delay_us in
    let Q : Table → Type 0 = λ t. All P t.lines in
    changed-all Q table_with (λ t os h. changed-all P line_with (λ l o g. long_entry c is rs l.entry o l.delay_us g) t.lines os h) c.tables rs
    (All-weaker (λ (t : Table). All (λ (l : Line). slot_need c l.entry ≤ l.delay_us) t.lines) Q
    (λ t h. All-weaker (λ (l : Line). slot_need c l.entry ≤ l.delay_us) P (λ l g. long_same c is rs l.entry l.delay_us g) t.lines h) c.tables long)

long_sent : (b : Bool) (c : Parts) (ts : List Symbol) → NoSlotIsShort c → NoSlotIsShort (configured_read b c ts)
long_sent true c ts long =
    let ids = identities_by c ts in
    long_configured c (identities_in c ids) (requests_in c (flat_map (section_requests c ids) (statements ts))) long
long_sent false c ts long = long

-- no slot of a cluster that is answered is short, where the text isn't read as one of the field
pub long_slots : (reading : Reading) (x : Extras) (r : Result Described Fault) (warned : List Remark) (told : Option (List ℕ))
    → reading ≡ Plain → AnswersReading reading x r warned told → IfOk r (λ d. NoSlotIsShort d.cluster)
long_slots Plain x (Ok d) warned told plain (text, is, short, h) =
    subst NoSlotIsShort (sym h.sends) (long_sent x.is_configured h.checked (symbols_in text h.tokens) h.cluster.long)
long_slots Plain x (Err fault) warned told plain h = tt
long_slots Field x r warned told plain h = absurd (cc)
