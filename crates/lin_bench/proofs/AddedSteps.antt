-- Steps that rules add, made on a core.
use Rattle.std.proofs.Common.{◌≡◌, ◌∙◌, ℕ, true, false, List, [], ◌∷◌, ◌++◌, reverse, length, refl, sym, ap, arith, is_some, Result, Ok, Err, Some}
use Rattle.std.proofs.lemmas.List.{length-reverse, reverse-append, reverse-reverse}
use Rattle.lin_parts.specs.declared.parts.Parts.{Parts}
use Rattle.lin_core.specs.Core.{CoreData, IsAlike, entry_with_reply, past_of}
use Rattle.lin_core.specs.History.{Slot, finished_slot, open_slot}
use Rattle.lin_core.specs.Replies.{may}
use Rattle.lin_core.specs.Runs.{entry_of}
use Rattle.lin_core.specs.declared.log.LogEntry.{LogEntry}
use Rattle.lin_core.specs.declared.port.PortId.{PortId}
use Rattle.lin_core.specs.declared.step.Step.{Step}
use Rattle.lin_core.specs.declared.step.Step.TheVariants.{Finish}
use Rattle.lin_bench.specs.Added.{added_after, rules_after}
use Rattle.lin_bench.specs.Adding.{AddedFail, AddsAfterFinish, AreAdded, CourseFails, MakesCalled, after_finish, called_on, HasFinished, IsStepFault, MakesAdded}
use Rattle.lin_bench.specs.Making.{IsGrown, IsMadeSo, MakesUnchanged, RuledData, UnchangedFail, course_on}
use Rattle.lin_bench.specs.Ons.{reactions}
use Rattle.lin_bench.specs.Slots.{Course, after_made, past_after, with_called}
use Rattle.lin_bench.specs.declared.rules.Rules.{Rules}
use Rattle.lin_bench.specs.declared.fault.MakeFault.{MakeFault}
use Rattle.lin_bench.specs.declared.fault.MakeFault.TheVariants.{LogFull, OutOfMemory}
use Rattle.lin_bench.proofs.HeardLinks.{finished-slot, past-one}
use Rattle.lin_bench.proofs.Makes.{adds-nothing, grown-more, made-longer, past-adds, past-longer}

past-append : (c : Parts) (o cap : ℕ) (past : List LogEntry) (ss ts : List (PortId × Step))
    → past_after c o cap past (ss ++ ts) ≡ past_after c o cap (past_after c o cap past ss) ts
past-append c o cap past [] ts = refl
past-append c o cap past (s ∷ ss) ts = past-append c o cap (entry_of c o cap past s ∷ past) ss ts

pub added-nothing : (a : CoreData) → AreAdded a [] a
added-nothing a = record { past = refl; alike = (refl, refl, refl) }

pub added-one : (a b : CoreData) (by : PortId) (step : Step) → b.log ≡ a.log ++ entry_with_reply a by step ∷ [] → IsAlike a b → AreAdded a ((by, step) ∷ []) b
added-one a b by step e alike = record { past = past-one a b by step e; alike = alike }

pub added-more : (a b d : CoreData) (ss ts : List (PortId × Step)) → AreAdded a ss b → AreAdded b ts d → AreAdded a (ss ++ ts) d
added-more a b d ss ts p q =
    record {
      past = (rw (p.alike.0, p.alike.1, p.alike.2, p.past) at q.past) ∙ sym (past-append a.cluster a.opening a.capacity (past_of a) ss ts);
      alike = (q.alike.0 ∙ p.alike.0, q.alike.1 ∙ p.alike.1, q.alike.2 ∙ p.alike.2);
    }

pub grown-added : (a b : CoreData) (ss : List (PortId × Step)) → AreAdded a ss b → IsGrown a b
grown-added a b ss p =
    let r = past-adds a.cluster a.opening a.capacity (past_of a) ss in
    record {
      more = reverse r.0;
      log =
          sym (reverse-reverse b.log) ∙ ap reverse (p.past ∙ r.1) ∙ reverse-append r.0 (past_of a)
          ∙ ap (λ l. l ++ reverse r.0) (reverse-reverse a.log);
    }

pub added-fails-first : (fault : MakeFault) (a : CoreData) (ss ts : List (PortId × Step)) → AddedFail fault a ss → AddedFail fault a (ss ++ ts)
added-fails-first LogFull a ss ts full =
    let e = ap length (past-append a.cluster a.opening a.capacity (past_of a) ss ts) in
    let more = past-longer a.cluster a.opening a.capacity (past_after a.cluster a.opening a.capacity (past_of a) ss) ts in
    omega (arith, e, more, full)
added-fails-first OutOfMemory a ss ts none = tt

pub added-fails-later : (fault : MakeFault) (a b : CoreData) (ss ts : List (PortId × Step)) → AreAdded a ss b → AddedFail fault b ts → AddedFail fault a (ss ++ ts)
added-fails-later LogFull a b ss ts p full =
    let e = ap length (past-append a.cluster a.opening a.capacity (past_of a) ss ts) in
    let there = rw (p.alike.0, p.alike.1, p.alike.2, p.past) at full in
    omega (arith, e, there)
added-fails-later OutOfMemory a b ss ts p none = tt

pub makes-added-more : {X : Type 0} (a b d : CoreData) (ss ts : List (PortId × Step)) (r : Result X MakeFault) → AreAdded a ss b → MakesAdded b ts r d
    → MakesAdded a (ss ++ ts) r d
makes-added-more a b d ss ts (Ok x) p q = added-more a b d ss ts p q
makes-added-more a b d ss ts (Err fault) p (fails, grown) =
    (added-fails-later fault a b ss ts p fails, grown-more a b d (grown-added a b ss p) grown)

-- one of several steps isn't made
pub fails-among : (fault : MakeFault) (a b d : CoreData) (ss : List (PortId × Step)) (t : PortId × Step) (ts : List (PortId × Step)) → AreAdded a ss b
    → AddedFail fault b (t ∷ []) × IsGrown b d → AddedFail fault a (ss ++ t ∷ ts) × IsGrown a d
fails-among fault a b d ss t ts p q =
    (added-fails-later fault a b ss (t ∷ ts) p (added-fails-first fault b (t ∷ []) ts q.0), grown-more a b d (grown-added a b ss p) q.1)

pub one-fails : (fault : MakeFault) (a : CoreData) (by : PortId) (step : Step) → IsStepFault fault a → AddedFail fault a ((by, step) ∷ [])
one-fails LogFull a by step full = omega (arith, full, length-reverse a.log)
one-fails OutOfMemory a by step full = tt

-- ---- a finish, and what is added after it
course-is : (d : RuledData) (past : List LogEntry) (rules : Rules) → past_of d.core ≡ past → d.rules ≡ rules → course_on d ≡ record { past = past; rules = rules }
course-is d past rules e f = rw (e, f) refl

finish-course : (a : RuledData) (by : PortId) (c : Parts) (o cap : ℕ) (past finished : List LogEntry) (rules : Rules) → past_of a.core ≡ past
    → finished ≡ entry_of c o cap past (by, Finish) ∷ past → rules ≡ a.rules → is_some (finished_slot (entry_of c o cap past (by, Finish)) past) ≡ true
    → with_called c o cap (record {
      past = past_after c o cap finished (added_after c (entry_of c o cap past (by, Finish)) past rules);
      rules = rules_after c (entry_of c o cap past (by, Finish)) past rules;
    })
    ≡ after_made c o cap (course_on a) ((by, Finish) ∷ [])
finish-course a by c o cap past finished rules p e same fin = rw (p, e, same, fin) refl

alike-course : (a b : CoreData) (at : Course) (ss : List (PortId × Step)) → IsAlike a b → after_made b.cluster b.opening b.capacity at ss ≡ after_made a.cluster a.opening a.capacity at ss
alike-course a b at ss alike =
    ap (λ c. after_made c b.opening b.capacity at ss) alike.0 ∙ ap (λ o. after_made a.cluster o b.capacity at ss) alike.1
    ∙ ap (λ k. after_made a.cluster a.opening k at ss) alike.2

pub finish-added : {X : Type 0} (a b d : RuledData) (by : PortId) (s : Slot) (r : Result X MakeFault)
    → AreAdded a.core ((by, Finish) ∷ []) b.core → b.rules ≡ a.rules → HasFinished b.core by (past_of a.core) s
    → AddsAfterFinish b (entry_of b.core.cluster b.core.opening b.core.capacity (past_of a.core) (by, Finish)) (past_of a.core) r d
    → MakesUnchanged a ((by, Finish) ∷ []) r d
finish-added a b d by s (Ok x) p same fin q =
    let is = ap is_some (finished-slot b.core.cluster b.core.opening b.core.capacity (past_of a.core) by s fin.slot fin.may) in
    record {
      course =
          q.0
          ∙ finish-course a by b.core.cluster b.core.opening b.core.capacity (past_of a.core) (past_of b.core) b.rules refl fin.newest same is
          ∙ alike-course a.core b.core (course_on a) ((by, Finish) ∷ []) p.alike;
      alike = (q.1.0 ∙ p.alike.0, q.1.1 ∙ p.alike.1, q.1.2 ∙ p.alike.2);
    }
finish-added a b d by s (Err LogFull) p same fin q =
    let is = ap is_some (finished-slot b.core.cluster b.core.opening b.core.capacity (past_of a.core) by s fin.slot fin.may) in
    let course =
    finish-course a by b.core.cluster b.core.opening b.core.capacity (past_of a.core) (past_of b.core) b.rules refl fin.newest same is
    ∙ alike-course a.core b.core (course_on a) ((by, Finish) ∷ []) p.alike in
    let l = ap (λ (k : Course). length k.past) course in
    (omega (arith, l, q.0), grown-more a.core b.core d.core (grown-added a.core b.core ((by, Finish) ∷ []) p) q.1)
finish-added a b d by s (Err OutOfMemory) p same fin q = (tt, grown-more a.core b.core d.core (grown-added a.core b.core ((by, Finish) ∷ []) p) q.1)

-- ---- what is called for after the steps that a finish adds
called-alike : (a b : CoreData) (at : Course) → IsAlike a b → with_called b.cluster b.opening b.capacity at ≡ with_called a.cluster a.opening a.capacity at
called-alike a b at alike =
    ap (λ c. with_called c b.opening b.capacity at) alike.0 ∙ ap (λ o. with_called a.cluster o b.capacity at) alike.1
    ∙ ap (λ k. with_called a.cluster a.opening k at) alike.2

called-course : (a b : RuledData) (e : LogEntry) (past : List LogEntry) → AreAdded a.core (added_after a.core.cluster e past a.rules) b.core
    → b.rules ≡ rules_after a.core.cluster e past a.rules → called_on b ≡ after_finish a e past
called-course a b e past p same =
    called-alike a.core b.core (course_on b) p.alike ∙ ap (with_called a.core.cluster a.core.opening a.core.capacity) (course-is b _ _ p.past same)

pub called-after : {X : Type 0} (a b d : RuledData) (e : LogEntry) (past : List LogEntry) (r : Result X MakeFault)
    → AreAdded a.core (added_after a.core.cluster e past a.rules) b.core × (b.rules ≡ rules_after a.core.cluster e past a.rules) → MakesCalled b r d
    → AddsAfterFinish a e past r d
called-after a b d e past (Ok x) (p, same) (course, alike) =
    (course ∙ called-course a b e past p same, (alike.0 ∙ p.alike.0, alike.1 ∙ p.alike.1, alike.2 ∙ p.alike.2))
called-after a b d e past (Err LogFull) (p, same) (full, grown) =
    let l = ap (λ (k : Course). length k.past) (called-course a b e past p same) in
    (omega (arith, l, full), grown-more a.core b.core d.core (grown-added a.core b.core _ p) grown)
called-after a b d e past (Err OutOfMemory) (p, same) (none, grown) = (tt, grown-more a.core b.core d.core (grown-added a.core b.core _ p) grown)

pub first-fails : (fault : MakeFault) (a : RuledData) (e : LogEntry) (past : List LogEntry) → AddedFail fault a.core (added_after a.core.cluster e past a.rules)
    → CourseFails fault (after_finish a e past)
first-fails LogFull a e past full =
    let first = past_after a.core.cluster a.core.opening a.core.capacity (past_of a.core) (added_after a.core.cluster e past a.rules) in
    let more = past-longer a.core.cluster a.core.opening a.core.capacity first (reactions a.core.cluster first (rules_after a.core.cluster e past a.rules)) in
    omega (arith, more, full)
first-fails OutOfMemory a e past none = tt

pub has-finished : (a b : CoreData) (by : PortId) (s : Slot) → AreAdded a ((by, Finish) ∷ []) b → open_slot (past_of a) ≡ Some s → may by Finish ≡ true
    → HasFinished b by (past_of a) s
has-finished a b by s p e m = record { newest = rw (p.alike.0, p.alike.1, p.alike.2) p.past; slot = e; may = m }

-- ---- other steps
pub plain-made : (a b : RuledData) (by : PortId) (step : Step) → AreAdded a.core ((by, step) ∷ []) b.core → b.rules ≡ a.rules
    → is_some (finished_slot (entry_with_reply a.core by step) (past_of a.core)) ≡ false → IsMadeSo a ((by, step) ∷ []) b
plain-made a b by step p same none =
    record {
      course =
          (let past = p.past in rw (past, same) refl)
          ∙ sym (adds-nothing a.core.cluster a.core.opening a.core.capacity (past_of a.core) a.rules (entry_with_reply a.core by step) none);
      alike = p.alike;
    }

pub plain-fails : (fault : MakeFault) (a : RuledData) (by : PortId) (step : Step) → AddedFail fault a.core ((by, step) ∷ []) → UnchangedFail fault a ((by, step) ∷ [])
plain-fails LogFull a by step full =
    let more = made-longer a.core.cluster a.core.opening a.core.capacity (course_on a) ((by, step) ∷ []) in
    omega (arith, more, full)
plain-fails OutOfMemory a by step none = tt

-- ---- several steps, one after the other
pub added-last : (a b d : CoreData) (ss : List (PortId × Step)) (s : PortId × Step) → AreAdded a ss b → AreAdded b (s ∷ []) d → AreAdded a (ss ++ s ∷ []) d
added-last a b d ss s p q = added-more a b d ss (s ∷ []) p q
