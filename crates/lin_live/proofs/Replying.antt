-- The reply to a line, by what it says.
use Rattle.std.proofs.Common.{◌≡◌, ◌<◌, ◌-◌, ◌^◌, ◌++◌, ℕ, true, List, [], None, Option, Some, Result, Ok, Err, ap, length, refl, subst, sym}
use Rattle.lin_parts.specs.declared.parts.Parts.{Parts}
use Rattle.lin_core.specs.declared.log.LogEntry.{LogEntry}
use Rattle.lin_values.specs.Coded.{CodedData}
use Rattle.lin_bench.specs.Resolved.{with_parameter}
use Rattle.lin_bench.specs.declared.parameters.Parameter.{Parameter}
use Rattle.lin_bench.specs.Read.{Fails as ReadFails}
use Rattle.lin_bench.specs.declared.fault.LineFault.{LineFault as ScriptFault}
use Rattle.lin_bench.specs.declared.fault.LineFault.TheVariants as scripts
use Rattle.lin_bench.specs.declared.reason.Reason.{Reason as ScriptReason}
use Rattle.lin_live.specs.Asked.{◌>>=◌, Fails, script_fault, script_field}
use Rattle.lin_live.specs.Serving.{Replies, WritesAnswer}
use Rattle.lin_live.specs.Hand.{AnswersSaid}
use Rattle.lin_live.specs.Told.{Bad, Ending, Fine, HandData, Is, IsFull, asked_value, bad_reply, ending_text, entries_text, heard_by, heard_reply, reply, answer_without_step, shown_coding, heard_answer, written}
use Rattle.lin_live.specs.declared.answer_format.AnswerFormat.{AnswerFormat}
use Rattle.lin_live.specs.declared.answer_format.AnswerFormat.TheVariants.{Log, Named, Jsonl}
use Rattle.lin_live.specs.declared.fault.Fault.{Fault}
use Rattle.lin_live.specs.declared.fault.Fault.TheVariants.{LogFull, OutOfMemory, ReadFailed, WriteFailed}
use Rattle.lin_live.specs.Heard.{Heard}
use Rattle.lin_live.specs.Heard.Heard.{Ask, SetParameter}
use Rattle.lin_live.specs.declared.question.Question.{Question}
use Rattle.lin_live.specs.declared.reason.LineFault.{LineFault}
use Rattle.lin_live.specs.declared.reason.LineFault.TheVariants.{Bad as BadLine, OutOfMemory as NoMemory}
use Rattle.lin_live.specs.declared.reason.Reason.{Reason}

-- where there is always a place
pub tells-anyway : {S : Type 0} (p : S × List ℕ) (full : Type 0) (t : S) (old new : Option (List ℕ)) (result : Result Unit Fault)
    → WritesAnswer p ⊥ t old new result → WritesAnswer p full t old new result
tells-anyway p full t old new (Ok done) h = h
tells-anyway p full t old new (Err WriteFailed) h = h
tells-anyway p full t old new (Err OutOfMemory) h = h
tells-anyway p full t old new (Err LogFull) h = absurd h.1
tells-anyway p full t old new (Err ReadFailed) h = h

-- no entry, and a last line
none-told : (f : AnswerFormat) (c : Parts) (k : Option CodedData) (past : List LogEntry) → entries_text f c k past [] ≡ []
none-told Log c k past = refl
none-told Named c k past = refl
none-told Jsonl c k past = refl

pub tells-ending : (h u : HandData) (ending : Ending) (full : Type 0) (t : HandData) (old new : Option (List ℕ)) (result : Result Unit Fault)
    → WritesAnswer (u, ending_text h ending) full t old new result → WritesAnswer (written h (u, answer_without_step ending)) full t old new result
tells-ending h u ending full t old new result k =
    subst (λ l. WritesAnswer (u, l ++ ending_text h ending) full t old new result) (sym (none-told h.format h.cluster (shown_coding h) h.bench.past)) k

-- a parameter was set
pub set-said : (h t : HandData) (p : Parameter) (old new : Option (List ℕ)) (result : Result Unit Fault) → t ≡ record h { sets = with_parameter h.sets p.name p.text }
    → WritesAnswer (t, ending_text t Fine) ⊥ t old new result → WritesAnswer (heard_reply h (SetParameter p)) ⊥ t old new result
set-said h t p old new result is w =
    tells-ending h (record h { sets = with_parameter h.sets p.name p.text }) Fine ⊥ t old new result
    (subst (λ (x : HandData). WritesAnswer (x, ending_text x Fine) ⊥ t old new result) is w)

-- a bench in hand to which there was a line
abbrev pub begun_of : HandData → HandData
begun_of h = record h { begun = true }

-- telling what a line says, which is this, after it was heard
pub replies-so : (h b : HandData) (line : Option (List ℕ)) (said : Result (Option Heard) Reason)
    (t : HandData) (old new : Option (List ℕ)) (result : Result Unit Fault)
    → b ≡ begun_of h → heard_by h line ≡ said
    → WritesAnswer (written b (heard_answer b said)) (2 ^ 32 - 1 < length (heard_answer b said).0.bench.past) t old new result
    → Replies reply IsFull h t old new line result
replies-so h b line said t old new result is_b is_said k =
    let is : reply h line ≡ written (begun_of h) (heard_answer (begun_of h) said) =
    ap (λ r. written (begun_of h) (heard_answer (begun_of h) r)) is_said in
    subst (λ (p : HandData × List ℕ). WritesAnswer p (2 ^ 32 - 1 < length p.0.bench.past) t old new result) (sym is)
    (subst (λ (x : HandData). WritesAnswer (written x (heard_answer x said)) (2 ^ 32 - 1 < length (heard_answer x said).0.bench.past) t old new result) is_b k)

-- ---- the answer to what a line says
pub answers-so : (h : HandData) (said same : Result (Option Heard) Reason) (t : HandData) (old new : Option (List ℕ)) (result : Result Unit Fault)
    → said ≡ same → AnswersSaid h same t old new result → AnswersSaid h said t old new result
answers-so h said same t old new result e k = subst (λ s. AnswersSaid h s t old new result) (sym e) k

pub says-nothing : (h t : HandData) (old new : Option (List ℕ)) (result : Result Unit Fault)
    → WritesAnswer (h, ending_text h Fine) ⊥ t old new result → AnswersSaid h (Ok None) t old new result
says-nothing h t old new result k = tells-ending h h Fine _ t old new result (tells-anyway _ _ t old new result k)

pub says-badly : (h t : HandData) (why : Reason) (old new : Option (List ℕ)) (result : Result Unit Fault)
    → WritesAnswer (bad_reply h why) ⊥ t old new result → AnswersSaid h (Err why) t old new result
says-badly h t why old new result k = tells-ending h (record h { was_bad = true }) (Bad why) _ t old new result (tells-anyway _ _ t old new result k)

pub says-question : (h t : HandData) (q : Question) (old new : Option (List ℕ)) (result : Result Unit Fault)
    → WritesAnswer (h, ending_text h (Is (asked_value h q))) ⊥ t old new result → AnswersSaid h (Ok (Some (Ask q))) t old new result
says-question h t q old new result k = tells-ending h h (Is (asked_value h q)) _ t old new result (tells-anyway _ _ t old new result k)

-- a bad line, by its fault
pub fails-so : (h t : HandData) (why : Reason) (said : Result (Option Heard) Reason) (old new : Option (List ℕ)) (result : Result Unit Fault)
    → said ≡ Err why → WritesAnswer (bad_reply h why) ⊥ t old new result → AnswersSaid h said t old new result
fails-so h t why said old new result e k = answers-so h said (Err why) t old new result e (says-badly h t why old new result k)

-- what isn't read isn't heard
pub fails-more : {X : Type 0} (e : LineFault) (r : Result X Reason) (f : X → Result (Option Heard) Reason) → Fails e r → Fails e (r >>= f)
fails-more (BadLine why) r f h = ap (λ x. x >>= f) h
fails-more NoMemory r f h = tt

pub fails-script : {X : Type 0} (e : ScriptFault) (r : Result X ScriptReason) → ReadFails e r → Fails (script_fault e) (script_field r)
fails-script (scripts.Bad why) r h = ap script_field h
fails-script scripts.OutOfMemory r h = tt
