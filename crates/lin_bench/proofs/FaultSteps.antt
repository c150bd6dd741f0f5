-- Faults in slots, as code finds and marks them.
use Rattle.std.proofs.Common.{◌≡◌, ◌∙◌, ℕ, suc, ◌+◌, ◌-◌, ◌==◌, Bool, true, false, ◌||◌, List, [], ◌∷◌, ◌++◌, Option, Some, None, refl, sym, ap, arith, length, map, drop, get_or, take, cond}
use Rattle.std.specs.Prelude.{find, is_none, is_some, not, option_map}
use Rattle.std.specs.List.{list_any}
use Rattle.std.specs.Option.{option_map_or}
use Rattle.std.proofs.lemmas.Grind.{common_steps}
use Rattle.lin_frame.specs.Frame.{is_answer}
use Rattle.lin_frame.specs.declared.sums.SumKind.{SumKind}
use Rattle.lin_parts.specs.declared.parts.Parts.{Parts}
use Rattle.lin_core.specs.History.{Slot, open_slot, slot_after_hurt}
use Rattle.lin_core.specs.Replies.{in_slot, is_open, may, passes_in, refusal, reply, response_refusals}
use Rattle.lin_core.specs.Runs.{entry_of}
use Rattle.lin_core.specs.declared.log.LogEntry.{LogEntry}
use Rattle.lin_core.specs.declared.port.PortId.{PortId}
use Rattle.lin_core.specs.declared.port.PortId.TheVariants.{Bus, Host, Node}
use Rattle.lin_core.specs.declared.reply.Refusal.{Refusal}
use Rattle.lin_core.specs.declared.reply.Refusal.TheVariants.{NoSlot, NotYours}
use Rattle.lin_core.specs.declared.reply.Reply.{Reply}
use Rattle.lin_core.specs.declared.reply.Reply.TheVariants.{Done, Refused}
use Rattle.lin_core.specs.declared.step.Step.{Step}
use Rattle.lin_core.specs.declared.step.Step.TheVariants.{Send, Write, Open, Answer, Leave, Hurt, Finish, Timeout, Switch, AskSleep, Wake, Close}
use Rattle.lin_bench.specs.FaultLaws.{AreDone, NoFaultIsRefused}
use Rattle.lin_bench.specs.Faults.{changed_steps, is_changed, is_intact, is_struck, slots_finished, struck, struck_by, target, would_be_done}
use Rattle.lin_bench.specs.declared.faults.FaultKind.{FaultKind}
use Rattle.lin_bench.specs.declared.faults.ArmedFault.{ArmedFault}

-- ---- no bytes at all never pass for a response
none-answers : (kind : SumKind) (pid len : ℕ) → is_answer kind pid len [] ≡ false
none-answers kind pid len = let e : (0 == len + 1) ≡ false = grind (arith, common_steps) in rw e refl

none-passes : (c : Parts) (s : Slot) (answer : List ℕ) (h : Option ℕ) → s.header ≡ h → passes_in c s answer [] ≡ false
none-passes c s answer None e = rw e refl
none-passes c s answer (Some pid) e = rw e (none-answers _ pid (length answer - 1))

nothing-passes : (c : Parts) (s : Slot) (puts : List (ℕ × List ℕ)) → list_any (λ (p : ℕ × List ℕ). passes_in c s p.1 []) puts ≡ false
nothing-passes c s [] = refl
nothing-passes c s (p ∷ ps) = rw (none-passes c s p.1 s.header refl) (nothing-passes c s ps)

-- so they are refused only if there is no response, or no single one, or it is corrupted
intact-by : (c : Parts) (cap : ℕ) (past : List LogEntry) (s : Slot) (hurt one : Bool) → open_slot past ≡ Some s → s.hurt ≡ hurt → (length s.puts == 1) ≡ one
    → is_none (refusal c cap past Bus (Hurt [])) ≡ is_intact s
intact-by c cap past s true true h k l = rw (h, k, l) refl
intact-by c cap past s true false h k l = rw (h, k, l) refl
intact-by c cap past s false false h k l = rw (h, k, l) refl
intact-by c cap past s false true h k l = rw (h, k, l, nothing-passes c s s.puts) refl

intact-in : (c : Parts) (cap : ℕ) (past : List LogEntry) (o : Option Slot) → open_slot past ≡ o → is_none (refusal c cap past Bus (Hurt [])) ≡ in_slot past is_intact
intact-in c cap past None h = rw h refl
intact-in c cap past (Some s) h = intact-by c cap past s s.hurt (length s.puts == 1) h refl refl ∙ sym (rw h refl)

pub intact : (c : Parts) (cap : ℕ) (past : List LogEntry) → is_none (refusal c cap past Bus (Hurt [])) ≡ in_slot past is_intact
intact c cap past = intact-in c cap past (open_slot past) refl

-- whether there is none, as it is asked
pub none-asked : {A : Type 0} (o : Option A) (r : Bool) → is_some o ≡ not r → r ≡ is_none o
none-asked None true h = refl
none-asked None false h = absurd (cc)
none-asked (Some x) true h = absurd (cc)
none-asked (Some x) false h = refl

-- ---- faults that change no step stay as they are
struck-not : (n : ℕ) (kind : FaultKind) (f : ArmedFault) (b : Bool) → is_struck n kind f ≡ b → b ≡ false → struck_by n kind f ≡ f
struck-not n kind f true h k = absurd (cc)
struck-not n kind f false h k = rw h refl

any-not : (a b : Bool) → (a || b) ≡ false → (a ≡ false) × (b ≡ false)
any-not true b h = absurd (cc)
any-not false b h = (refl, h)

pub none-struck : (n : ℕ) (kind : FaultKind) (fs : List ArmedFault) → list_any (is_struck n kind) fs ≡ false → map (struck_by n kind) fs ≡ fs
none-struck n kind [] h = refl
none-struck n kind (f ∷ fs) h =
    let no = any-not (is_struck n kind f) (list_any (is_struck n kind) fs) h in
    ap (λ (g : ArmedFault). g ∷ map (struck_by n kind) fs) (struck-not n kind f (is_struck n kind f) refl no.0)
    ∙ ap (λ (gs : List ArmedFault). f ∷ gs) (none-struck n kind fs no.1)

-- ---- a step is changed, and faults are marked, by the kind of faults that it meets
pub struck-by : (c : Parts) (cap : ℕ) (faults : List ArmedFault) (past : List LogEntry) (s : PortId × Step) (kind : FaultKind) → target c cap past s ≡ Some kind
    → (is_changed c cap faults past s ≡ list_any (is_struck (slots_finished past) kind) faults) × (struck c cap faults past s ≡ map (struck_by (slots_finished past) kind) faults)
struck-by c cap faults past s kind h = (rw h refl, rw h refl)

pub struck-none : (c : Parts) (cap : ℕ) (faults : List ArmedFault) (past : List LogEntry) (s : PortId × Step) → target c cap past s ≡ None
    → (is_changed c cap faults past s ≡ false) × (struck c cap faults past s ≡ faults)
struck-none c cap faults past s h = (rw h refl, rw h refl)

-- ---- other steps stay as they are
pub unchanged-step : (by : PortId) (step : Step) → ((n : ℕ) → step ≡ Answer n → ⊥) → (step ≡ Finish → ⊥) → changed_steps (by, step) ≡ (by, step) ∷ []
unchanged-step by (Answer n) h k = absurd (h n refl)
unchanged-step by Finish h k = absurd (k refl)
unchanged-step by step h k = refl

-- ---- a fault's own step is never refused
same-may : (by : PortId) (n : ℕ) → may by (Answer n) ≡ may by (Leave n)
same-may Bus n = refl
same-may (Host h) n = refl
same-may (Node m) n = refl

-- a response that is omitted would have been done
leave-alike : (c : Parts) (cap : ℕ) (past : List LogEntry) (by : PortId) (n : ℕ) → refusal c cap past by (Answer n) ≡ refusal c cap past by (Leave n)
leave-alike c cap past by n =
    ap (λ (b : Bool). option_map (λ (r : Refusal × Bool). r.0) (find (λ (r : Refusal × Bool). r.1) (response_refusals c past b n))) (same-may by n)

answer-done : (c : Parts) (cap : ℕ) (faults : List ArmedFault) (past : List LogEntry) (by : PortId) (n : ℕ) (r : Option Refusal) → refusal c cap past by (Answer n) ≡ r
    → is_changed c cap faults past (by, Answer n) ≡ true → refusal c cap past by (Leave n) ≡ None
answer-done c cap faults past by n None e h = sym (leave-alike c cap past by n) ∙ e
answer-done c cap faults past by n (Some why) e h = let no : false ≡ true = rw e at h in absurd (cc)

-- a slot stays open while its response is corrupted
mapped-some : (o : Option Slot) → is_some (option_map slot_after_hurt o) ≡ is_some o
mapped-some None = refl
mapped-some (Some s) = refl

still-open : (past : List LogEntry) (by : PortId) (r : Reply) → is_open (record { port = by; step = Hurt []; reply = r } ∷ past) ≡ is_open past
still-open past by (Done es) = mapped-some (open_slot past)
still-open past by (Refused why) = refl

finish-alike : (c : Parts) (cap : ℕ) (past : List LogEntry) (e : LogEntry) (by : PortId) → is_open (e ∷ past) ≡ is_open past
    → refusal c cap (e ∷ past) by Finish ≡ refusal c cap past by Finish
finish-alike c cap past e by h =
    ap (λ (b : Bool). option_map (λ (r : Refusal × Bool). r.0) (find (λ (r : Refusal × Bool). r.1) ((NoSlot, not b) ∷ (NotYours, not (may by Finish)) ∷ []))) h

none-is : {A : Type 0} (o : Option A) → is_none o ≡ true → o ≡ None
none-is None h = refl
none-is (Some x) h = absurd (cc)

finish-done : (c : Parts) (cap : ℕ) (faults : List ArmedFault) (past : List LogEntry) (by : PortId) (done intact : Bool) → would_be_done c cap past (by, Finish) ≡ done
    → in_slot past is_intact ≡ intact → is_changed c cap faults past (by, Finish) ≡ true
    → (would_be_done c cap past (by, Finish) ≡ true) × (in_slot past is_intact ≡ true)
finish-done c cap faults past by true true d e h = (d, e)
finish-done c cap faults past by true false d e h = let no : false ≡ true = rw (d, e) at h in absurd (cc)
finish-done c cap faults past by false intact d e h = let no : false ≡ true = rw d at h in absurd (cc)

changed-done : (c : Parts) (o cap : ℕ) (faults : List ArmedFault) (past : List LogEntry) (by : PortId) (step : Step) → is_changed c cap faults past (by, step) ≡ true
    → AreDone c o cap past (changed_steps (by, step))
changed-done c o cap faults past by (Answer n) h = (answer-done c cap faults past by n (refusal c cap past by (Answer n)) refl h, tt)
changed-done c o cap faults past by Finish h =
    let is = finish-done c cap faults past by (would_be_done c cap past (by, Finish)) (in_slot past is_intact) refl refl h in
    let done = none-is (refusal c cap past by Finish) is.0 in
    let hurt = none-is (refusal c cap past Bus (Hurt [])) (intact c cap past ∙ is.1) in
    (hurt, (finish-alike c cap past (entry_of c o cap past (Bus, Hurt [])) by (still-open past Bus (reply c o cap past Bus (Hurt []))) ∙ done, tt))
changed-done c o cap faults past by (Send from to message) h = absurd (cc)
changed-done c o cap faults past by (Write at signal value) h = absurd (cc)
changed-done c o cap faults past by Open h = absurd (cc)
changed-done c o cap faults past by (Leave n) h = absurd (cc)
changed-done c o cap faults past by (Hurt bytes) h = absurd (cc)
changed-done c o cap faults past by (Timeout node dir) h = absurd (cc)
changed-done c o cap faults past by (Switch table) h = absurd (cc)
changed-done c o cap faults past by AskSleep h = absurd (cc)
changed-done c o cap faults past by Wake h = absurd (cc)
changed-done c o cap faults past by (Close host) h = absurd (cc)

pub no-fault-refused : NoFaultIsRefused
no-fault-refused c o cap faults past s h = changed-done c o cap faults past s.0 s.1 h
