-- Steps that are made on a core, with those that rules add.
use Rattle.std.proofs.Common.{◌≡◌, ◌∙◌, ℕ, suc, ◌+◌, ◌-◌, ◌<◌, ◌≤◌, Bool, true, false, List, [], ◌∷◌, ◌++◌, reverse, length, get_or, refl, sym, ap, subst, arith, append_assoc, is_some, if◌then◌else◌, Result, Ok, Err}
use Rattle.std.proofs.lemmas.List.{reverse-append, reverse-reverse}
use Rattle.lin_parts.specs.declared.parts.Parts.{Parts}
use Rattle.lin_core.specs.Core.{CoreData, entry_with_reply, past_of}
use Rattle.lin_core.specs.History.{finished_slot, is_finish}
use Rattle.lin_core.specs.Runs.{entry_of, history}
use Rattle.lin_core.specs.declared.log.LogEntry.{LogEntry}
use Rattle.lin_core.specs.declared.port.PortId.{PortId}
use Rattle.lin_core.specs.declared.reply.Reply.{Reply}
use Rattle.lin_core.specs.declared.reply.Reply.TheVariants.{Done, Refused}
use Rattle.lin_core.specs.declared.port.PortId.TheVariants.{Bus}
use Rattle.lin_core.specs.declared.step.Step.{Step}
use Rattle.lin_core.specs.declared.step.Step.TheVariants.{Send, Write, Open, Answer, Leave, Hurt, Finish, Timeout, Switch, AskSleep, Wake, Close}
use Rattle.lin_bench.specs.Added.{added_steps}
use Rattle.lin_bench.specs.Faults.{changed_steps, disturbed_steps, is_changed}
use Rattle.lin_bench.specs.Making.{IsGrown, AreExecuted, IsMadeSo, MakesSteps, MakesUnchanged, RuledData, StepsFail, UnchangedFail, course_on, is_changed_on, made_on, struck_on}
use Rattle.lin_bench.specs.Ons.{reactions}
use Rattle.lin_bench.specs.Slots.{Course, called_if, course_after, after_made, first_added, past_after, with_entry, with_struck}
use Rattle.lin_bench.specs.declared.faults.ArmedFault.{ArmedFault}
use Rattle.lin_bench.specs.declared.fault.MakeFault.{MakeFault}
use Rattle.lin_bench.specs.declared.fault.MakeFault.TheVariants.{LogFull, OutOfMemory}
use Rattle.lin_bench.specs.declared.rules.Rules.{Rules}

pub made-append : (c : Parts) (o cap : ℕ) (at : Course) (ss ts : List (PortId × Step))
    → after_made c o cap at (ss ++ ts) ≡ after_made c o cap (after_made c o cap at ss) ts
made-append c o cap at [] ts = refl
made-append c o cap at (s ∷ ss) ts = made-append c o cap (with_entry c o cap at (entry_of c o cap at.past s)) ss ts

-- a course after a step that a line says
abbrev pub after_one : Parts → ℕ → ℕ → Course → PortId × Step → Course
after_one c o cap at s = after_made c o cap (with_struck c cap at s) (disturbed_steps c cap at.rules.faults at.past s)

pub after-append : (c : Parts) (o cap : ℕ) (at : Course) (ss ts : List (PortId × Step))
    → course_after c o cap at (ss ++ ts) ≡ course_after c o cap (course_after c o cap at ss) ts
after-append c o cap at [] ts = refl
after-append c o cap at (s ∷ ss) ts = after-append c o cap (after_one c o cap at s) ss ts

pub append-nothing : {A : Type 0} (xs : List A) → xs ++ [] ≡ xs
append-nothing [] = refl
append-nothing (x ∷ xs) = ap (λ l. x ∷ l) (append-nothing xs)

-- what steps make of a history is the history of those before and these
pub after-history : (c : Parts) (o cap : ℕ) (ss ts : List (PortId × Step))
    → past_after c o cap (history c o cap (reverse ss)) ts ≡ history c o cap (reverse (ss ++ ts))
after-history c o cap ss [] = ap (λ l. history c o cap (reverse l)) (sym (append-nothing ss))
after-history c o cap ss (t ∷ ts) =
    ap (λ l. past_after c o cap l ts) (sym (ap (history c o cap) (reverse-append ss (t ∷ []))))
    ∙ after-history c o cap (ss ++ t ∷ []) ts
    ∙ ap (λ l. history c o cap (reverse l)) (append_assoc ss (t ∷ []) ts)

-- an entry that is no finish that was done adds nothing
pub adds-nothing : (c : Parts) (o cap : ℕ) (past : List LogEntry) (rules : Rules) (e : LogEntry) → is_some (finished_slot e past) ≡ false
    → with_entry c o cap (record { past = past; rules = rules }) e ≡ record { past = e ∷ past; rules = rules }
adds-nothing c o cap past rules e h = rw h refl

pub made-nothing : (a : RuledData) → AreExecuted a [] a
made-nothing a = record { course = refl; alike = (refl, refl, refl) }

-- a step that is no finish ends no slot
pub no-finish : (by : PortId) (step : Step) (r : Reply) (past : List LogEntry) → is_finish step ≡ false
    → is_some (finished_slot (record { port = by; step = step; reply = r }) past) ≡ false
no-finish by step (Done es) past h = rw h refl
no-finish by step (Refused why) past h = refl

-- so an open, which no fault changes, is an entry and no more
pub open-past : (a b : RuledData) → AreExecuted a ((Bus, Open) ∷ []) b → past_of b.core ≡ entry_with_reply a.core Bus Open ∷ past_of a.core
open-past a b made =
    let none = no-finish Bus Open (entry_with_reply a.core Bus Open).reply (past_of a.core) refl in
    ap (λ (k : Course). k.past) made.course
    ∙ ap (λ (k : Course). k.past) (adds-nothing a.core.cluster a.core.opening a.core.capacity (past_of a.core) a.rules (entry_with_reply a.core Bus Open) none)

pub made-more : (a b d : RuledData) (ss ts : List (PortId × Step)) → AreExecuted a ss b → AreExecuted b ts d → AreExecuted a (ss ++ ts) d
made-more a b d ss ts p q =
    record {
      course =
          (rw (p.alike.0, p.alike.1, p.alike.2, p.course) at q.course)
          ∙ sym (after-append a.core.cluster a.core.opening a.core.capacity (course_on a) ss ts);
      alike = (q.alike.0 ∙ p.alike.0, q.alike.1 ∙ p.alike.1, q.alike.2 ∙ p.alike.2);
    }

-- likewise of steps that no fault changes
pub made-so-more : (a b d : RuledData) (ss ts : List (PortId × Step)) → IsMadeSo a ss b → IsMadeSo b ts d → IsMadeSo a (ss ++ ts) d
made-so-more a b d ss ts p q =
    record {
      course =
          (rw (p.alike.0, p.alike.1, p.alike.2, p.course) at q.course)
          ∙ sym (made-append a.core.cluster a.core.opening a.core.capacity (course_on a) ss ts);
      alike = (q.alike.0 ∙ p.alike.0, q.alike.1 ∙ p.alike.1, q.alike.2 ∙ p.alike.2);
    }

pub length-last : {A : Type 0} (xs : List A) (e : A) → length (xs ++ e ∷ []) ≡ suc (length xs)
length-last [] e = refl
length-last (x ∷ xs) e = ap suc (length-last xs e)

-- the last item of a list that ends so
last-item : {A : Type 0} (xs : List A) (e d : A) → get_or (xs ++ e ∷ []) (length xs) d ≡ e
last-item [] e d = refl
last-item (x ∷ xs) e d = last-item xs e d

pub ends-so : {A : Type 0} (xs ys : List A) (e : A) → reverse xs ≡ e ∷ ys → xs ≡ reverse ys ++ e ∷ []
ends-so xs ys e h = sym (reverse-reverse xs) ∙ ap reverse h ∙ reverse-append (e ∷ []) ys

pub some-past : (core : CoreData) (e : LogEntry) (past : List LogEntry) → past_of core ≡ e ∷ past → 0 < length core.log
some-past core e past h = let k = ap length (ends-so core.log past e h) ∙ length-last (reverse past) e in omega (arith, k)

pub last-of : {A : Type 0} (xs ys : List A) (e x : A) → xs ≡ ys ++ e ∷ [] → x ≡ get_or xs (length xs - 1) x → x ≡ e
last-of xs ys e x h is =
    let n : length xs - 1 ≡ length ys = let l = ap length h ∙ length-last ys e in omega (arith, l) in
    is ∙ ap (λ i. get_or xs i x) n ∙ ap (λ l. get_or l (length ys) x) h ∙ last-item ys e x

-- the newest entry of a log
pub newest-past : (core : CoreData) (e x : LogEntry) (past : List LogEntry) → past_of core ≡ e ∷ past → x ≡ get_or core.log (length core.log - 1) x → x ≡ e
newest-past core e x past h is = last-of core.log (reverse past) e x (ends-so core.log past e h) is

-- ---- a history has an entry more for each step, and for each that is added
pub past-longer : (c : Parts) (o cap : ℕ) (past : List LogEntry) (ss : List (PortId × Step)) → length (past_after c o cap past ss) ≡ length past + length ss
past-longer c o cap past [] = omega arith
past-longer c o cap past (s ∷ ss) =
    let e = past-longer c o cap (entry_of c o cap past s ∷ past) ss in omega (arith, e)

called-longer : (c : Parts) (o cap : ℕ) (b : Bool) (at : Course) → length at.past ≤ length (called_if c o cap b at).past
called-longer c o cap true at = let e = past-longer c o cap at.past (reactions c at.past at.rules) in omega (arith, e)
called-longer c o cap false at = omega arith

pub made-longer : (c : Parts) (o cap : ℕ) (at : Course) (ss : List (PortId × Step)) → length at.past + length ss ≤ length (after_made c o cap at ss).past
made-longer c o cap at [] = omega arith
made-longer c o cap at (s ∷ ss) =
    let e : LogEntry = entry_of c o cap at.past s in
    let one = past-longer c o cap (e ∷ at.past) (added_steps c e at.past at.rules) in
    let two = called-longer c o cap (is_some (finished_slot e at.past)) (first_added c o cap at e) in
    let more = made-longer c o cap (with_entry c o cap at e) ss in
    omega (arith, one, two, more)

-- one or two steps are made for each step that a line says
changed-size : (by : PortId) (step : Step) → (1 ≤ length (changed_steps (by, step))) × (length (changed_steps (by, step)) ≤ 2)
changed-size by (Send from to message) = (omega arith, omega arith)
changed-size by (Write at signal value) = (omega arith, omega arith)
changed-size by Open = (omega arith, omega arith)
changed-size by (Answer node) = (omega arith, omega arith)
changed-size by (Leave node) = (omega arith, omega arith)
changed-size by (Hurt bytes) = (omega arith, omega arith)
changed-size by Finish = (omega arith, omega arith)
changed-size by (Timeout node dir) = (omega arith, omega arith)
changed-size by (Switch table) = (omega arith, omega arith)
changed-size by AskSleep = (omega arith, omega arith)
changed-size by Wake = (omega arith, omega arith)
changed-size by (Close host) = (omega arith, omega arith)

either-size : (b : Bool) (s : PortId × Step) → (1 ≤ length (if b then changed_steps s else s ∷ [])) × (length (if b then changed_steps s else s ∷ []) ≤ 2)
either-size true s = changed-size s.0 s.1
either-size false s = (omega arith, omega arith)

pub disturbed-size : (c : Parts) (cap : ℕ) (faults : List ArmedFault) (past : List LogEntry) (s : PortId × Step)
    → (1 ≤ length (disturbed_steps c cap faults past s)) × (length (disturbed_steps c cap faults past s) ≤ 2)
disturbed-size c cap faults past s = either-size (is_changed c cap faults past s) s

pub after-longer : (c : Parts) (o cap : ℕ) (at : Course) (ss : List (PortId × Step)) → length at.past + length ss ≤ length (course_after c o cap at ss).past
after-longer c o cap at [] = omega arith
after-longer c o cap at (s ∷ ss) =
    let one = made-longer c o cap (with_struck c cap at s) (disturbed_steps c cap at.rules.faults at.past s) in
    let some = (disturbed-size c cap at.rules.faults at.past s).0 in
    let more = after-longer c o cap (after_one c o cap at s) ss in
    omega (arith, one, some, more)

pub past-adds : (c : Parts) (o cap : ℕ) (past : List LogEntry) (ss : List (PortId × Step)) → (more : List LogEntry) × (past_after c o cap past ss ≡ more ++ past)
past-adds c o cap past [] = ([], refl)
past-adds c o cap past (s ∷ ss) =
    let e = entry_of c o cap past s in
    let r = past-adds c o cap (e ∷ past) ss in
    (r.0 ++ e ∷ [], r.1 ∙ sym (append_assoc r.0 (e ∷ []) past))

called-adds : (c : Parts) (o cap : ℕ) (b : Bool) (at : Course) → (more : List LogEntry) × ((called_if c o cap b at).past ≡ more ++ at.past)
called-adds c o cap true at = past-adds c o cap at.past (reactions c at.past at.rules)
called-adds c o cap false at = ([], refl)

made-adds : (c : Parts) (o cap : ℕ) (at : Course) (ss : List (PortId × Step)) → (more : List LogEntry) × ((after_made c o cap at ss).past ≡ more ++ at.past)
made-adds c o cap at [] = ([], refl)
made-adds c o cap at (s ∷ ss) =
    let e : LogEntry = entry_of c o cap at.past s in
    let one = past-adds c o cap (e ∷ at.past) (added_steps c e at.past at.rules) in
    let two = called-adds c o cap (is_some (finished_slot e at.past)) (first_added c o cap at e) in
    let rest = made-adds c o cap (with_entry c o cap at e) ss in
    let first = one.1 ∙ sym (append_assoc one.0 (e ∷ []) at.past) in
    let both = two.1 ∙ ap (λ l. two.0 ++ l) first ∙ sym (append_assoc two.0 (one.0 ++ e ∷ []) at.past) in (
      rest.0 ++ (two.0 ++ (one.0 ++ e ∷ [])),
      rest.1 ∙ ap (λ l. rest.0 ++ l) both ∙ sym (append_assoc rest.0 (two.0 ++ (one.0 ++ e ∷ [])) at.past),
    )

after-adds : (c : Parts) (o cap : ℕ) (at : Course) (ss : List (PortId × Step)) → (more : List LogEntry) × ((course_after c o cap at ss).past ≡ more ++ at.past)
after-adds c o cap at [] = ([], refl)
after-adds c o cap at (s ∷ ss) =
    let one = made-adds c o cap (with_struck c cap at s) (disturbed_steps c cap at.rules.faults at.past s) in
    let rest = after-adds c o cap (after_one c o cap at s) ss in
    (rest.0 ++ one.0, rest.1 ∙ ap (λ l. rest.0 ++ l) one.1 ∙ sym (append_assoc rest.0 one.0 at.past))

-- the log stands as it was where a history adds to one
grown-by : (a b : CoreData) (more : List LogEntry) → past_of b ≡ more ++ past_of a → IsGrown a b
grown-by a b more h =
    record {
      more = reverse more;
      log = sym (reverse-reverse b.log) ∙ ap reverse h ∙ reverse-append more (past_of a) ∙ ap (λ l. l ++ reverse more) (reverse-reverse a.log);
    }

pub grown-made-so : (a b : RuledData) (ss : List (PortId × Step)) → IsMadeSo a ss b → IsGrown a.core b.core
grown-made-so a b ss p =
    let r = made-adds a.core.cluster a.core.opening a.core.capacity (course_on a) ss in
    grown-by a.core b.core r.0 (ap (λ (k : Course). k.past) p.course ∙ r.1)

pub grown-made : (a b : RuledData) (ss : List (PortId × Step)) → AreExecuted a ss b → IsGrown a.core b.core
grown-made a b ss p =
    let r = after-adds a.core.cluster a.core.opening a.core.capacity (course_on a) ss in
    grown-by a.core b.core r.0 (ap (λ (k : Course). k.past) p.course ∙ r.1)

pub grown-nothing : (a b : CoreData) → b.log ≡ a.log → IsGrown a b
grown-nothing a b e = record { more = []; log = e ∙ sym (append-nothing a.log) }

pub grown-more : (a b d : CoreData) → IsGrown a b → IsGrown b d → IsGrown a d
grown-more a b d p q =
    record { more = p.more ++ q.more; log = q.log ∙ ap (λ l. l ++ q.more) p.log ∙ append_assoc a.log p.more q.more }

-- ---- steps that aren't made, among others
pub fails-before : (fault : MakeFault) (a : RuledData) (ss ts : List (PortId × Step)) → StepsFail fault a ss → StepsFail fault a (ss ++ ts)
fails-before LogFull a ss ts full =
    let e = ap (λ (k : Course). length k.past) (after-append a.core.cluster a.core.opening a.core.capacity (course_on a) ss ts) in
    let more = after-longer a.core.cluster a.core.opening a.core.capacity (course_after a.core.cluster a.core.opening a.core.capacity (course_on a) ss) ts in
    omega (arith, e, more, full)
fails-before OutOfMemory a ss ts none = tt

pub fails-after : (fault : MakeFault) (a b : RuledData) (ss ts : List (PortId × Step)) → AreExecuted a ss b → StepsFail fault b ts → StepsFail fault a (ss ++ ts)
fails-after LogFull a b ss ts p full =
    let e = ap (λ (k : Course). length k.past) (after-append a.core.cluster a.core.opening a.core.capacity (course_on a) ss ts) in
    let there = rw (p.alike.0, p.alike.1, p.alike.2, p.course) at full in
    omega (arith, e, there)
fails-after OutOfMemory a b ss ts p none = tt

-- what making steps after others answers
pub makes-more : {X : Type 0} (a b d : RuledData) (ss ts : List (PortId × Step)) (r : Result X MakeFault) → AreExecuted a ss b → MakesSteps b ts r d
    → MakesSteps a (ss ++ ts) r d
makes-more a b d ss ts (Ok x) p q = made-more a b d ss ts p q
makes-more a b d ss ts (Err fault) p (fails, grown) =
    (fails-after fault a b ss ts p fails, grown-more a.core b.core d.core (grown-made a b ss p) grown)

-- ---- steps that no fault changes
pub so-fails-before : (fault : MakeFault) (a : RuledData) (ss ts : List (PortId × Step)) → UnchangedFail fault a ss → UnchangedFail fault a (ss ++ ts)
so-fails-before LogFull a ss ts full =
    let e = ap (λ (k : Course). length k.past) (made-append a.core.cluster a.core.opening a.core.capacity (course_on a) ss ts) in
    let more = made-longer a.core.cluster a.core.opening a.core.capacity (made_on a ss) ts in
    omega (arith, e, more, full)
so-fails-before OutOfMemory a ss ts none = tt

so-fails-after : (fault : MakeFault) (a b : RuledData) (ss ts : List (PortId × Step)) → IsMadeSo a ss b → UnchangedFail fault b ts → UnchangedFail fault a (ss ++ ts)
so-fails-after LogFull a b ss ts p full =
    let e = ap (λ (k : Course). length k.past) (made-append a.core.cluster a.core.opening a.core.capacity (course_on a) ss ts) in
    let there = rw (p.alike.0, p.alike.1, p.alike.2, p.course) at full in
    omega (arith, e, there)
so-fails-after OutOfMemory a b ss ts p none = tt

pub makes-so-more : {X : Type 0} (a b d : RuledData) (ss ts : List (PortId × Step)) (r : Result X MakeFault) → IsMadeSo a ss b → MakesUnchanged b ts r d
    → MakesUnchanged a (ss ++ ts) r d
makes-so-more a b d ss ts (Ok x) p q = made-so-more a b d ss ts p q
makes-so-more a b d ss ts (Err fault) p (fails, grown) =
    (so-fails-after fault a b ss ts p fails, grown-more a.core b.core d.core (grown-made-so a b ss p) grown)

-- ---- a step that a line says, from a core whose faults were marked
pub record IsStruck (a i : RuledData) (s : PortId × Step) : Type 0 where
  pub core : i.core ≡ a.core
  pub rules : i.rules ≡ struck_on a s

-- what is made in its place
abbrev pub in_place : RuledData → PortId × Step → List (PortId × Step)
in_place a s = disturbed_steps a.core.cluster a.core.capacity a.rules.faults (past_of a.core) s

pub makes-struck : {X : Type 0} (a i b : RuledData) (s : PortId × Step) (r : Result X MakeFault) → IsStruck a i s → MakesUnchanged i (in_place a s) r b
    → MakesSteps a (s ∷ []) r b
makes-struck a i b s (Ok x) at made = record { course = made.course ∙ (rw (at.core, at.rules) refl); alike = rw at.core at made.alike }
makes-struck a i b s (Err LogFull) at (full, grown) = (rw (at.core, at.rules) at full, rw at.core at grown)
makes-struck a i b s (Err OutOfMemory) at (none, grown) = (tt, rw at.core at grown)

-- whether it was changed
pub makes-changed : {X : Type 0} (a i b : RuledData) (s : PortId × Step) (r : Result X MakeFault) (is : Bool) → IsStruck a i s
    → is ≡ is_changed_on a s → is ≡ true → MakesUnchanged i (changed_steps s) r b → MakesSteps a (s ∷ []) r b
makes-changed a i b s r is at e h made =
    let same : in_place a s ≡ changed_steps s = ap (λ t. if t then changed_steps s else s ∷ []) (sym e ∙ h) in
    makes-struck a i b s r at (subst (λ (ss : List (PortId × Step)). MakesUnchanged i ss r b) (sym same) made)

pub makes-unchanged : {X : Type 0} (a i b : RuledData) (s : PortId × Step) (r : Result X MakeFault) (is : Bool) → IsStruck a i s
    → is ≡ is_changed_on a s → is ≡ false → MakesUnchanged i (s ∷ []) r b → MakesSteps a (s ∷ []) r b
makes-unchanged a i b s r is at e h made =
    let same : in_place a s ≡ s ∷ [] = ap (λ t. if t then changed_steps s else s ∷ []) (sym e ∙ h) in
    makes-struck a i b s r at (subst (λ (ss : List (PortId × Step)). MakesUnchanged i ss r b) (sym same) made)
