-- Going back to a mark restores the bench at it.
use Rattle.std.proofs.Common.{◌≡◌, ◌∙◌, ◌<◌, ◌+◌, ℕ, Bool, true, false, List, [], ◌∷◌, ◌++◌, Option, Some, None, Result, Ok, Err, ap, arith, codes, length, refl, subst, suc, sym, take}
use Rattle.std.specs.Prelude.{IfSome, IsSome, cond, filter, if◌then◌else◌, nat_lt, not, option_and_then, option_map, position, slice_get}
use Rattle.std.specs.Str.{bytes_eq}
use Rattle.std.specs.List.{All, prefix_len}
use Rattle.std.proofs.lemmas.Bool.{false≢true}
use Rattle.std.proofs.lemmas.Bool.Decides.{nat_tests}
use Rattle.std.proofs.lemmas.List.Elements.{All-filter, All-nil, All-push, All-take, All-weaker, filter_passes}
use Rattle.std.proofs.lemmas.List.Quantifiers.{position-Some}
use Rattle.std.proofs.lemmas.Option.{slice_get-get_or}
use Rattle.std.proofs.lemmas.Slice.Eq.{bytes_eq-Decides}
use Rattle.lin_parts.specs.declared.parts.Parts.{Parts}
use Rattle.lin_values.specs.Coded.{CodedData}
use Rattle.lin_bench.specs.declared.rules.NodeLimits.{NodeLimits}
use Rattle.lin_bench.specs.Fields.{line_fields}
use Rattle.lin_bench.specs.Made.{BenchState}
use Rattle.lin_bench.specs.Played.{initial_bench}
use Rattle.lin_bench.specs.Resolved.{parameter_said, replaced_line}
use Rattle.lin_bench.specs.Words.{read_worded_line}
use Rattle.lin_bench.specs.declared.line.ScriptLine.{ScriptLine}
use Rattle.lin_bench.specs.declared.line.ScriptLine.TheVariants as line
use Rattle.lin_bench.specs.declared.parameters.Parameter.{Parameter}
use Rattle.lin_bench.specs.declared.reason.Reason.{Reason as ScriptReason}
use Rattle.lin_live.specs.Asked.{◌>>=◌, question, script_field}
use Rattle.lin_live.specs.GoingBack.{BackRestores, IsBack, IsMark, MarksStay, ParametersStay, after}
use Rattle.lin_live.specs.Heard.{Heard, back_heard, heard_in, mark_heard, of_line, of_script, question_heard, set_heard, text_heard}
use Rattle.lin_live.specs.Marking.{Marked, back_name, bench_at, bench_at_place, is_other, lone_name, mark_place, start_name, unless_start, with_mark}
use Rattle.lin_live.specs.Told.{AllHeard, HandData, gone_back, heard_answer, heard_as, heard_by, reply, without_byte_order_mark}
use Rattle.lin_live.specs.Transcript.{short, state_after}
use Rattle.lin_live.specs.Heard.Heard.{Ask, GoBack, Make, SetMark, SetParameter}
use Rattle.lin_live.specs.declared.question.Question.{Question}
use Rattle.lin_live.specs.declared.reason.Reason.{Reason}
use Rattle.lin_live.specs.declared.reason.Reason.TheVariants.{MarkForm, StartMark}

abbrev mark_said : List ℕ → Result (Option Heard) Reason
mark_said name = Ok (Some (SetMark name))

abbrev back_said : List ℕ → Result (Option Heard) Reason
back_said name = Ok (Some (GoBack name))

-- ---- no line sets the mark of the beginning
abbrev IsNamed : List ℕ → Result (Option Heard) Reason → Type 0
IsNamed name said = said ≡ Ok (Some (SetMark name)) → bytes_eq name start_name ≡ false

line-of-named : (name : List ℕ) (l : ScriptLine) → IsNamed name (of_line l)
line-of-named name (line.Test test) e = absurd (cc)
line-of-named name (line.Step by step) e = absurd (cc)
line-of-named name (line.Slot how) e = absurd (cc)
line-of-named name (line.Slots s) e = absurd (cc)
line-of-named name (line.Until s what) e = absurd (cc)
line-of-named name (line.While s what) e = absurd (cc)
line-of-named name (line.Expect what) e = absurd (cc)
line-of-named name line.Forget e = absurd (cc)
line-of-named name (line.Rule rule) e = absurd (cc)

script-named : (name : List ℕ) (r : Result (Option ScriptLine) ScriptReason) → IsNamed name (of_script r)
script-named name (Ok None) e = absurd (cc)
script-named name (Ok (Some l)) e = line-of-named name l e
script-named name (Err why) e = absurd (cc)

question-named : (name : List ℕ) (r : Result Question Reason) → IsNamed name (r >>= (λ asked. Ok (Some (Ask asked))))
question-named name (Ok asked) e = absurd (cc)
question-named name (Err why) e = absurd (cc)

back-named : (name : List ℕ) (r : Result (List ℕ) Reason) → IsNamed name (r >>= (λ other. Ok (Some (GoBack other))))
back-named name (Ok other) e = absurd (cc)
back-named name (Err why) e = absurd (cc)

other-named : (name other : List ℕ) (b : Bool) → bytes_eq other start_name ≡ b → IsNamed name ((if b then Err StartMark else Ok other) >>= (λ x. Ok (Some (SetMark x))))
other-named name other true is e = absurd (cc)
other-named name other false is e = let same : other ≡ name = cc in subst (λ (x : List ℕ). bytes_eq x start_name ≡ false) same is

mark-named : (name : List ℕ) (r : Result (List ℕ) Reason) → IsNamed name ((r >>= unless_start) >>= (λ x. Ok (Some (SetMark x))))
mark-named name (Ok other) e = other-named name other (bytes_eq other start_name) refl e
mark-named name (Err why) e = absurd (cc)

set-named : (name : List ℕ) (r : Result Parameter Reason) → IsNamed name (r >>= (λ p. Ok (Some (SetParameter p))))
set-named name (Ok p) e = absurd (cc)
set-named name (Err why) e = absurd (cc)

fields-named : (name : List ℕ) (c : Parts) (k : Option CodedData) (limits : List NodeLimits) (line : List ℕ) (fs : List (List ℕ)) → IsNamed name (heard_in c k limits line fs)
fields-named name c k limits line [] = script-named name (read_worded_line c k limits line)
fields-named name c k limits line (w ∷ fs) =
    let own : Result (Option Heard) Reason = of_script (read_worded_line c k limits line) in
    let set : Result (Option Heard) Reason = if bytes_eq w (codes "set") then set_heard fs else own in
    let back : Result (Option Heard) Reason = if bytes_eq w (codes "back") then back_heard fs else set in
    let mark : Result (Option Heard) Reason = if bytes_eq w (codes "mark") then mark_heard fs else back in
    elim (bytes_eq w (codes "?")) as (λ t. IsNamed name (if t then question_heard c fs else mark)) [
      | true ↦ question-named name (question c fs)
      | false ↦
          elim (bytes_eq w (codes "mark")) as (λ t. IsNamed name (if t then mark_heard fs else back)) [
            | true ↦ mark-named name (lone_name MarkForm fs)
            | false ↦
                elim (bytes_eq w (codes "back")) as (λ t. IsNamed name (if t then back_heard fs else set)) [
                  | true ↦ back-named name (back_name fs)
                  | false ↦
                      elim (bytes_eq w (codes "set")) as (λ t. IsNamed name (if t then set_heard fs else own)) [
                        | true ↦ set-named name (script_field (parameter_said fs))
                        | false ↦ script-named name (read_worded_line c k limits line)
                      ]
                ]
          ]
    ]

replaced-named : (name : List ℕ) (c : Parts) (k : Option CodedData) (limits : List NodeLimits) (r : Result (List ℕ) ScriptReason) → IsNamed name (script_field r >>= text_heard c k limits)
replaced-named name c k limits (Ok line) e = fields-named name c k limits line (line_fields line) e
replaced-named name c k limits (Err why) e = absurd (cc)

line-named : (name : List ℕ) (c : Parts) (k : Option CodedData) (limits : List NodeLimits) (sets : List Parameter) (line : Option (List ℕ)) → IsNamed name (heard_as c k limits sets line)
line-named name c k limits sets None e = absurd (cc)
line-named name c k limits sets (Some line) e = replaced-named name c k limits (replaced_line sets line) e

-- ---- each mark with the name is of this bench
abbrev IsOf : List ℕ → BenchState → Marked → Type 0
IsOf name b m = bytes_eq m.name name ≡ true → m.bench ≡ b

set-first : (name : List ℕ) (b : BenchState) (marks : List Marked) → All (IsOf name b) (with_mark marks name b)
set-first name b marks =
    let others = filter (is_other name) marks in
    All-push (IsOf name b) others (record { name = name; bench = b })
    (All-weaker (λ (m : Marked). is_other name m ≡ true) (IsOf name b) (λ m other e. absurd (false≢true (sym (ap not e) ∙ other))) others (filter_passes (is_other name) marks)) (λ e. refl)

set-other : (name other : List ℕ) (b x : BenchState) (marks : List Marked) → (bytes_eq other name ≡ true → x ≡ b) → All (IsOf name b) marks → All (IsOf name b) (with_mark marks other x)
set-other name other b x marks own k =
    All-push (IsOf name b) (filter (is_other other) marks) (record { name = other; bench = x }) (All-filter (is_other other) (IsOf name b) marks k) own

-- the bench at a mark, and the marks that were set up to its place
abbrev up_to : List Marked → ℕ → Marked → BenchState × List Marked
up_to marks i m = (m.bench, take (i + 1) marks)

cut-marks : (name : List ℕ) (b : BenchState) (marks : List Marked) (i : ℕ) (o : Option Marked) → All (IsOf name b) marks
    → IfSome (option_map (up_to marks i) o) (λ at. All (IsOf name b) at.1)
cut-marks name b marks i None k = tt
cut-marks name b marks i (Some m) k = All-take (IsOf name b) (i + 1) marks k

placed-marks : (name : List ℕ) (b : BenchState) (marks : List Marked) (o : Option ℕ) → All (IsOf name b) marks → IfSome (option_and_then (bench_at_place marks) o) (λ at. All (IsOf name b) at.1)
placed-marks name b marks None k = tt
placed-marks name b marks (Some i) k = cut-marks name b marks i (slice_get marks i) k

found-marks : (name other : List ℕ) (b : BenchState) (marks : List Marked) → All (IsOf name b) marks → IfSome (bench_at marks other) (λ at. All (IsOf name b) at.1)
found-marks name other b marks k =
    let first : Option (BenchState × List Marked) = Some (initial_bench, []) in
    let placed : Option (BenchState × List Marked) = option_and_then (bench_at_place marks) (mark_place marks other) in
    elim (bytes_eq other start_name) as (λ t. IfSome (if t then first else placed) (λ at. All (IsOf name b) at.1)) [
      | true ↦ All-nil (IsOf name b)
      | false ↦ placed-marks name b marks (mark_place marks other) k
    ]

gone-marks : (name other : List ℕ) (b : BenchState) (h : HandData) (at : Option (BenchState × List Marked)) → IfSome at (λ a. All (IsOf name b) a.1) → All (IsOf name b) h.marks
    → All (IsOf name b) (gone_back h other at).0.marks
gone-marks name other b h None a k = k
gone-marks name other b h (Some at) a k = a

heard-marks : (name : List ℕ) (b : BenchState) (h : HandData) (said : Result (Option Heard) Reason) → (said ≡ Ok (Some (SetMark name)) → ⊥) → All (IsOf name b) h.marks
    → All (IsOf name b) (heard_answer h said).0.marks
heard-marks name b h (Err why) never k = k
heard-marks name b h (Ok None) never k = k
heard-marks name b h (Ok (Some (Ask asked))) never k = k
heard-marks name b h (Ok (Some (SetMark other))) never k =
    set-other name other b h.bench h.marks (λ e. let same : other ≡ name = (bytes_eq-Decides other name).0 e in absurd (never (ap mark_said same))) k
heard-marks name b h (Ok (Some (GoBack other))) never k = gone-marks name other b h (bench_at h.marks other) (found-marks name other b h.marks k) k
heard-marks name b h (Ok (Some (SetParameter p))) never k = k
heard-marks name b h (Ok (Some (Make line))) never k = k

-- after something was heard
abbrev after_heard : HandData → Result (Option Heard) Reason → HandData
after_heard h said = (heard_answer (record h { begun = true }) said).0

lines-marks : (name : List ℕ) (b : BenchState) (h : HandData) (ls : List (List ℕ)) → AllHeard (λ said. IsMark name said → ⊥) h ls → All (IsOf name b) h.marks
    → All (IsOf name b) (state_after reply h ls).marks
lines-marks name b h [] never marks = marks
lines-marks name b h (line ∷ ls) (never, rest) marks =
    lines-marks name b (reply h (short line)).0 ls rest (heard-marks name b (record h { begun = true }) (heard_by h (short line)) never marks)

-- ---- back to the bench
back-to : (h : HandData) (marks : List Marked) (name : List ℕ) (b : BenchState) (o : Option ℕ) → mark_place marks name ≡ o → IsSome o → All (IsOf name b) marks
    → (gone_back h name (option_and_then (bench_at_place marks) o)).0.bench ≡ b
back-to h marks name b None at some k = absurd (false≢true some)
back-to h marks name b (Some i) at some k =
    let none : Marked = record { name = []; bench = b } in
    let p = position-Some (λ (m : Marked). bytes_eq m.name name) marks i none at in
    ap (λ (x : Option Marked). (gone_back h name (option_map (λ (m : Marked). (m.bench, take (i + 1) marks)) x)).0.bench) (slice_get-get_or marks i none p.0) ∙ k i none p.0 p.1

back-restores-by : (h : HandData) (name going : List ℕ) (b : BenchState) → bytes_eq name start_name ≡ false → IsBack name (heard_by h (short going)) → All (IsOf name b) h.marks
    → IsSome (mark_place h.marks name) → (after h going []).bench ≡ b
back-restores-by h name going b unlike goes marks there =
    ap (λ (said : Result (Option Heard) Reason). (after_heard h said).bench) goes
    ∙ ap (λ (e : Bool). (gone_back (record h { begun = true }) name (if e then Some (initial_bench, []) else option_and_then (bench_at_place h.marks) (mark_place h.marks name))).0.bench) unlike
    ∙ back-to (record h { begun = true }) h.marks name b (mark_place h.marks name) refl there marks

pub back-restores : BackRestores
back-restores h name marking going between sets goes never =
    let set = ap (λ (said : Result (Option Heard) Reason). (after_heard h said).marks) sets in
    let first = subst (All (IsOf name h.bench)) (sym set) (set-first name h.bench h.marks) in
    back-restores-by (after h marking between) name going h.bench (line-named name h.cluster h.coded h.limits h.sets (without_byte_order_mark h (short marking)) sets) goes
    (lines-marks name h.bench (after h marking []) between never first)

gone-sets : (h : HandData) (name : List ℕ) (at : Option (BenchState × List Marked)) → (gone_back h name at).0.sets ≡ h.sets
gone-sets h name None = refl
gone-sets h name (Some at) = refl

pub parameters-stay : ParametersStay
parameters-stay h name going goes =
    ap (λ (said : Result (Option Heard) Reason). (after_heard h said).sets) goes ∙ gone-sets (record h { begun = true }) name (bench_at h.marks name)

-- ---- the marks that stay
same-marks : (h : HandData) (said : Result (Option Heard) Reason) → ((other : List ℕ) → (said ≡ Ok (Some (SetMark other)) → ⊥) × (said ≡ Ok (Some (GoBack other)) → ⊥))
    → (heard_answer h said).0.marks ≡ h.marks
same-marks h (Err why) never = refl
same-marks h (Ok None) never = refl
same-marks h (Ok (Some (Ask asked))) never = refl
same-marks h (Ok (Some (SetMark other))) never = let is : mark_said other ≡ mark_said other = refl in absurd ((never other).0 is)
same-marks h (Ok (Some (GoBack other))) never = let is : back_said other ≡ back_said other = refl in absurd ((never other).1 is)
same-marks h (Ok (Some (SetParameter p))) never = refl
same-marks h (Ok (Some (Make line))) never = refl

lines-same : (h : HandData) (ls : List (List ℕ)) → AllHeard (λ said. (other : List ℕ) → (IsMark other said → ⊥) × (IsBack other said → ⊥)) h ls
    → (state_after reply h ls).marks ≡ h.marks
lines-same h [] never = refl
lines-same h (line ∷ ls) (never, rest) =
    lines-same (reply h (short line)).0 ls rest ∙ same-marks (record h { begun = true }) (heard_by h (short line)) never

-- something stands at the end for which a test fails
stops : {X : Type 0} (q : X → Bool) (xs : List X) (y : X) → q y ≡ false → prefix_len q (xs ++ y ∷ []) < length (xs ++ y ∷ [])
stops q [] y e = let none : prefix_len q (y ∷ []) ≡ 0 = ap (λ b. cond b (1 + 0) 0) e in omega (arith, none)
stops q (x ∷ xs) y e =
    let rest = stops q xs y e in
    elim (q x) as (λ t. cond t (1 + prefix_len q (xs ++ y ∷ [])) 0 < suc (length (xs ++ y ∷ []))) [
      | true ↦ omega (arith, rest)
      | false ↦ omega arith
    ]

some-at : (b : Bool) (n : ℕ) → b ≡ true → IsSome (cond b (Some n) None)
some-at true n e = refl
some-at false n e = absurd (false≢true e)

last-there : {X : Type 0} (p : X → Bool) (xs : List X) (y : X) → p y ≡ true → IsSome (position p (xs ++ y ∷ []))
last-there p xs y e =
    let n = prefix_len (λ x. not (p x)) (xs ++ y ∷ []) in
    let less : n < length (xs ++ y ∷ []) = stops (λ x. not (p x)) xs y (ap not e) in
    let test : nat_lt n (length (xs ++ y ∷ [])) ≡ true = grind (arith, nat_tests) in
    some-at (nat_lt n (length (xs ++ y ∷ []))) n test

pub marks-stay : MarksStay
marks-stay h name marking between sets never =
    let set = ap (λ (said : Result (Option Heard) Reason). (after_heard h said).marks) sets in
    subst (λ (l : List Marked). IsSome (mark_place l name)) (sym (lines-same (after h marking []) between never ∙ set))
    (last-there (λ (m : Marked). bytes_eq m.name name) (filter (is_other name) h.marks) (record { name = name; bench = h.bench }) ((bytes_eq-Decides name name).1 refl))
