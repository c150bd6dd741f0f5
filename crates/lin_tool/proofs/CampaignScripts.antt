-- What a campaign of a bench script answers.
use Rattle.std.proofs.Common.{◌≡◌, ◌∙◌, ◌≤◌, ℕ, Bool, true, false, List, [], Option, Some, None, Result, Ok, Err, refl, sym, ap, ap₂, inl, inr, reverse, subst}
use Rattle.std.specs.Prelude.{codes, IfErr, IfOk}
use Rattle.std.specs.Borrow.{Bor}
use Rattle.std.specs.Io.KnownBytes.{Keeps}
use Rattle.std.proofs.KnownBytes.{Keeps-refl}
use Rattle.lin_parts.specs.declared.parts.Parts.{Parts}
use Rattle.lin_text.specs.Written.{WritesText}
use Rattle.lin_values.specs.Coded.{CodedData}
use Rattle.lin_bench.specs.Played.{Run, played_under, some_unmet}
use Rattle.lin_bench.specs.Plays.{ComesUnder, OverfillsUnder, PlaysUnder, run_or_limit}
use Rattle.lin_bench.specs.Files.{SourceData}
use Rattle.lin_bench.specs.Scripts.{bad_lines, read}
use Rattle.lin_bench.specs.declared.reason.Reason.{Reason}
use Rattle.lin_bench.specs.declared.reason.Reason.TheVariants as reason
use Rattle.lin_text.specs.declared.fault.WriteFailed.{WriteFailed as Failed}
use Rattle.lin_bench.specs.declared.fault.PlayFault.{PlayFault}
use Rattle.lin_bench.specs.declared.fault.PlayFault.TheVariants as play
use Rattle.lin_bench.specs.declared.faults.SlotFault.{SlotFault}
use Rattle.lin_bench.specs.declared.files.ScriptFile.{ScriptFile}
use Rattle.lin_bench.specs.declared.got.Judgement.{Judgement}
use Rattle.lin_bench.specs.declared.line.ScriptLine.{ScriptLine}
use Rattle.lin_bench.specs.declared.place.LinePlace.{LinePlace}
use Rattle.lin_bench.specs.declared.playing.PlayedUnder.{PlayedUnder}
use Rattle.lin_bench.specs.declared.rules.NodeLimits.{NodeLimits}
use Rattle.lin_export.specs.WhereTold.{given_coding}
use Rattle.lin_tool.specs.Playing.{ChecksUsed, IsUnread, ReadsLines, ReportsJudgements, bad_fault, fault_of_bad, last_reason, limit_fault}
use Rattle.lin_tool.specs.Playing.{play_fails, judgements_with_meanings, play_fault, unmet_with_counts, unused_parameter}
use Rattle.lin_tool.specs.campaign.Played.{IsMemoryFault, IsPlayOf, IsUndisturbedPlay, IsUnfinished, PlaysRow, PlaysUndisturbed, ReachesLimit}
use Rattle.lin_tool.specs.campaign.Steps.{IsCampaignBegun, SaysLines, row_of_play, stage_of}
use Rattle.lin_tool.specs.campaign.Written.{Ends, IsRowOf, PlaySetup, WritesCampaign, WritesPlays, WritesPlaysOfScript, counts, denies, name_or, campaign_output}
use Rattle.lin_tool.specs.declared.campaign.Campaign.{Campaign}
use Rattle.lin_tool.specs.declared.campaign.plan.CampaignPlan.{CampaignPlan}
use Rattle.lin_tool.specs.declared.campaign.Play.{Play}
use Rattle.lin_tool.specs.declared.fault.Fault.{Fault}
use Rattle.lin_tool.specs.declared.fault.Fault.TheVariants.{Denied, LogFull, OutOfMemory, SlotLimit, Unmet, UnusedParameter, WriteFailed}
use Rattle.lin_tool.proofs.PlayedScripts.{writes-after}
use Rattle.lin_tool.proofs.CampaignEnds.{text-after}

-- a script whose lines weren't read
module _ (plan : CampaignPlan) (k : Option CodedData) (limits : List NodeLimits) (s : SourceData) (file named : Option (Bor (List ℕ))) (strict : Bool) (c : Parts) (opening capacity : ℕ) (old silent heard : Option (List ℕ)) where
  abbrev Answers : Fault → Type 0
  Answers fault = WritesCampaign plan k limits s file named strict c opening capacity (Err fault) old old silent heard

  told : (p : LinePlace) (why : Reason) (outcome : Result Unit Failed) → IsUnread named c k limits s (fault_of_bad p why outcome) silent heard → Answers (fault_of_bad p why outcome)
  told p (reason.Unread name) outcome h = (h, Keeps-refl old)
  told p (reason.LongFile name) outcome h = (h, Keeps-refl old)
  told p why outcome h = (h, Keeps-refl old)

  bad-by : (n : Option (Bor (List ℕ))) (first : LinePlace × Reason) (outcome : Result Unit Failed)
      → IsUnread named c k limits s (bad_fault n c k limits s first outcome) silent heard → Answers (bad_fault n c k limits s first outcome)
  bad-by None first outcome h = told first.0 first.1 outcome h
  bad-by (Some name) first outcome h = told first.0 (last_reason first.1 (bad_lines c k limits s)) outcome h

  unread-by : {X : Type 0} (view : X → List (LinePlace × ScriptLine)) (fault : Fault) → ReadsLines named c k limits s view (Err fault) silent heard → Answers fault
  unread-by view OutOfMemory h = inl (Keeps-refl old, h)
  unread-by view fault (first, outcome, is, same, text) =
      subst Answers (sym same) (bad-by named first outcome (first, outcome, is, refl, text))

pub campaign-unread : {X : Type 0} (view : X → List (LinePlace × ScriptLine)) (plan : CampaignPlan) (k : Option CodedData) (limits : List NodeLimits) (s : SourceData) (file named : Option (Bor (List ℕ))) (strict : Bool) (c : Parts) (opening capacity : ℕ) (fault : Fault)
    (old silent heard : Option (List ℕ)) → ReadsLines named c k limits s view (Err fault) silent heard → WritesCampaign plan k limits s file named strict c opening capacity (Err fault) old old silent heard
campaign-unread view plan k limits s file named strict c opening capacity fault old silent heard h =
    unread-by plan k limits s file named strict c opening capacity old silent heard view fault h

-- a parameter that no line uses
pub campaign-unused : (plan : CampaignPlan) (k : Option CodedData) (limits : List NodeLimits) (s : SourceData) (file named : Option (Bor (List ℕ))) (strict : Bool) (c : Parts) (opening capacity : ℕ) (fault : Fault)
    (old silent heard : Option (List ℕ)) (ls : List (LinePlace × ScriptLine)) → read c k limits s ≡ Ok ls → ChecksUsed (Err fault) (unused_parameter s) → Keeps silent heard
    → WritesCampaign plan k limits s file named strict c opening capacity (Err fault) old old silent heard
campaign-unused plan k limits s file named strict c opening capacity (UnusedParameter name) old silent heard ls says h kept = (ls, says, h, Keeps-refl old, kept)
campaign-unused plan k limits s file named strict c opening capacity OutOfMemory old silent heard ls says h kept = inl (Keeps-refl old, kept)
campaign-unused plan k limits s file named strict c opening capacity fault old silent heard ls says h kept = absurd h

-- a campaign of these options
pub record IsCampaign (on : Campaign) (k : Option CodedData) (limits : List NodeLimits) (s : SourceData) (path named : Option (Bor (List ℕ))) (strict : Bool) (opening capacity : ℕ) : Type 0 where
  pub coded : given_coding on.coded ≡ k
  pub script : on.script.now ≡ name_or named (codes "-")
  pub file : on.file.now ≡ name_or path []
  pub strictly : on.is_strict ≡ strict
  pub table : on.table ≡ opening
  pub room : on.capacity ≡ capacity
  pub files : on.source.files.now ≡ s.files
  pub text : on.source.text.now ≡ s.text

-- lines that can't be played undisturbed
pub campaign-unplayable : (plan : CampaignPlan) (k : Option CodedData) (limits : List NodeLimits) (s : SourceData) (file named : Option (Bor (List ℕ))) (on : Campaign) (strict : Bool) (c : Parts) (opening capacity : ℕ) (fault : Fault)
    (old silent heard : Option (List ℕ)) (ls : List (LinePlace × ScriptLine)) → IsCampaign on k limits s file named strict opening capacity → read c k limits s ≡ Ok ls
    → PlaysUndisturbed on c ls (Err fault) → Keeps silent heard → WritesCampaign plan k limits s file named strict c opening capacity (Err fault) old old silent heard
campaign-unplayable plan k limits s file named on strict c opening capacity (SlotLimit n at) old silent heard ls is says (h, same) kept =
    let came : played_under strict c opening capacity [] ls ≡ Err n =
    rw (is.strictly, is.table, is.room) at (h.comes.lines ∙ ap (run_or_limit (record { bench = h.comes.bench; judgements = h.it.judgements })) h.limit) in
    ((ls, says, came), same ∙ ap (λ fs. limit_fault fs n) is.files, Keeps-refl old, kept)
campaign-unplayable plan k limits s file named on strict c opening capacity OutOfMemory old silent heard ls is says h kept = inl (Keeps-refl old, kept)
campaign-unplayable plan k limits s file named on strict c opening capacity LogFull old silent heard ls is says h kept =
    let full : OverfillsUnder c opening capacity [] ls = subst (λ n. OverfillsUnder c opening n [] ls) is.room (subst (λ n. OverfillsUnder c n on.capacity [] ls) is.table h) in inl (ls, says, full, Keeps-refl old, kept)
campaign-unplayable plan k limits s file named on strict c opening capacity fault old silent heard ls is says h kept = absurd h

-- a play with a judgement that isn't met fails, whatever its faults changed
fails-unmet : (faults missed : ℕ) (js : List Judgement) → some_unmet js ≡ true → play_fails faults missed js ≡ true
fails-unmet faults missed js unmet = rw unmet refl

never-both : {X : Type 0} (b : Bool) → b ≡ true → b ≡ false → X
never-both true h k = absurd (cc)
never-both false h k = absurd (cc)

-- the undisturbed play has a judgement that isn't met
pub campaign-unmet : (plan : CampaignPlan) (k : Option CodedData) (limits : List NodeLimits) (s : SourceData) (file named : Option (Bor (List ℕ))) (on : Campaign) (strict : Bool) (c : Parts) (opening capacity : ℕ) (calm : Play)
    (result : Result Unit Fault) (old silent mid heard : Option (List ℕ)) (ls : List (LinePlace × ScriptLine)) → IsCampaign on k limits s file named strict opening capacity → read c k limits s ≡ Ok ls
    → IsUndisturbedPlay on c ls calm → Keeps silent mid → some_unmet calm.judgements ≡ true
    → ReportsJudgements result (play_fails 0 0 calm.judgements) (unmet_with_counts named s.files strict 0 0 calm.core.cluster calm.core.log calm.judgements) mid heard
    → WritesCampaign plan k limits s file named strict c opening capacity result old old silent heard
campaign-unmet plan k limits s file named on strict c opening capacity calm (Ok done) old silent mid heard ls is says h kept unmet (met, text) =
    never-both (play_fails 0 0 calm.judgements) (fails-unmet 0 0 calm.judgements unmet) met
campaign-unmet plan k limits s file named on strict c opening capacity calm (Err (Unmet outcome)) old silent mid heard ls is says h kept unmet (missed, text) =
    let run : Run = record { bench = h.comes.bench; judgements = h.it.judgements } in
    let came : played_under strict c opening capacity [] ls ≡ Ok run = rw (is.strictly, is.table, is.room) at (h.comes.lines ∙ ap (run_or_limit run) h.limit) in
    let judged : calm.judgements ≡ judgements_with_meanings k run.judgements = h.is.judgements ∙ ap (λ x. judgements_with_meanings x run.judgements) is.coded in
    let cluster : calm.core.cluster ≡ c = ap (λ x. x.cluster) h.is.core ∙ h.comes.cluster in
    let log : calm.core.log ≡ reverse run.bench.past = ap (λ x. x.log) h.is.core ∙ h.comes.log in
    let same : unmet_with_counts named s.files strict 0 0 calm.core.cluster calm.core.log calm.judgements ≡ unmet_with_counts named s.files strict 0 0 c (reverse run.bench.past) (judgements_with_meanings k run.judgements) =
    ap (λ x. unmet_with_counts named s.files strict 0 0 x calm.core.log calm.judgements) cluster ∙ ap₂ (λ x y. unmet_with_counts named s.files strict 0 0 c x y) log judged in (
      run,
      (ls, says, came),
      ap some_unmet (sym judged) ∙ unmet,
      Keeps-refl old,
      writes-after kept (subst (λ t. WritesText mid heard outcome t) same text),
    )
campaign-unmet plan k limits s file named on strict c opening capacity calm (Err fault) old silent mid heard ls is says h kept unmet text = absurd text

-- the undisturbed play is row 0
pub same-cluster : (on : Campaign) (c : Parts) (ls : List (LinePlace × ScriptLine)) (calm : Play) → IsUndisturbedPlay on c ls calm → calm.core.cluster ≡ c
same-cluster on c ls calm h = ap (λ x. x.cluster) h.is.core ∙ h.comes.cluster

pub begun : (on : Campaign) (plan : CampaignPlan) (c : Parts) (ls : List (LinePlace × ScriptLine)) (calm : Play) → on.format ≡ plan.format → SaysLines on c ls → some_unmet calm.judgements ≡ false → IsUndisturbedPlay on c ls calm
    → IsCampaignBegun on plan calm ls
begun on plan c ls calm format says met h =
    let same = sym (same-cluster on c ls calm h) in
    let row : IsRowOf (stage_of on c ls) [] 0 [] (row_of_play calm) = record {
      it = h.it;
      comes = h.comes;
      number = refl;
      faults = refl;
      single = refl;
      row = h.is.row;
      log = ap (λ x. x.log) h.is.core;
      judgements = h.is.judgements;
    } in record {
      says = subst (λ x. SaysLines on x ls) same says;
      undisturbed = subst (λ x. IsRowOf (stage_of on x ls) [] 0 [] (row_of_play calm)) same row;
      met = met;
      format = format;
    }

-- ---- rows that were written
ends-after : (watched denied : Bool) (result : Result Unit Fault) (text told : List ℕ) (old new silent mid heard : Option (List ℕ)) → Keeps silent mid
    → Ends watched result denied text told old new mid heard → Ends watched result denied text told old new silent heard
ends-after watched denied (Ok done) text told old new silent mid heard kept h = (h.0, h.1, λ quiet. text-after silent mid heard told kept (h.2 quiet))
ends-after watched denied (Err Denied) text told old new silent mid heard kept h = (h.0, h.1, λ quiet. text-after silent mid heard told kept (h.2 quiet))
ends-after watched denied (Err WriteFailed) text told old new silent mid heard kept h = h
ends-after watched denied (Err OutOfMemory) text told old new silent mid heard kept h = h
ends-after watched denied (Err LogFull) text told old new silent mid heard kept h = h
ends-after watched denied (Err fault) text told old new silent mid heard kept h = absurd h

-- equal plays are written alike
abbrev setup : Bool → Parts → Option CodedData → ℕ → ℕ → List (LinePlace × ScriptLine) → PlaySetup
setup strict c k opening capacity ls = record {
  strict = strict;
  cluster = c;
  coded = k;
  opening = opening;
  capacity = capacity;
  lines = ls;
}

same-setup : (b strict : Bool) (x c : Parts) (j k : Option CodedData) (o opening n capacity : ℕ) (ls : List (LinePlace × ScriptLine)) → b ≡ strict → x ≡ c → j ≡ k → o ≡ opening → n ≡ capacity
    → setup b x j o n ls ≡ setup strict c k opening capacity ls
same-setup b strict x c j k o opening n capacity ls strictly cluster coded table room =
    ap (λ y. setup y x j o n ls) strictly ∙ ap (λ y. setup strict y j o n ls) cluster ∙ ap (λ y. setup strict c y o n ls) coded
    ∙ ap (λ y. setup strict c k y n ls) table ∙ ap (λ y. setup strict c k opening y ls) room

module _ (plan : CampaignPlan) (watched : Bool) (result : Result Unit Fault) (old new silent heard : Option (List ℕ)) where
  abbrev Written : PlaySetup → List ℕ → List ScriptFile → List ℕ → List ℕ → Type 0
  Written on script fs file bytes = WritesPlays on plan watched script fs file bytes result old new silent heard

  written-alike : (x on : PlaySetup) (name script : List ℕ) (gs fs : List ScriptFile) (path file text bytes : List ℕ) → x ≡ on → name ≡ script → gs ≡ fs → path ≡ file → text ≡ bytes
      → Written x name gs path text → Written on script fs file bytes
  written-alike x on name script gs fs path file text bytes same script-is files-are file-is bytes-are h =
      subst (λ l. Written on script fs file l) bytes-are
      (subst (λ l. Written on script fs l text) file-is
      (subst (λ l. Written on script l path text) files-are
      (subst (λ l. Written on l gs path text) script-is (subst (λ y. Written y name gs path text) same h))))

-- rows of the lines of a script
rows-of-script : (plan : CampaignPlan) (k : Option CodedData) (limits : List NodeLimits) (s : SourceData) (file named : Option (Bor (List ℕ))) (on : Campaign) (strict : Bool) (c : Parts) (opening capacity : ℕ) (result : Result Unit Fault)
    (old new silent mid heard : Option (List ℕ)) (ls : List (LinePlace × ScriptLine)) → read c k limits s ≡ Ok ls → (calm : Parts) → calm ≡ c → IsCampaign on k limits s file named strict opening capacity
    → Keeps silent mid → WritesPlays (stage_of on calm ls) plan plan.is_watched on.script.now on.source.files.now on.file.now on.source.text.now result old new mid heard
    → WritesPlaysOfScript plan k limits s file named strict c opening capacity result old new silent heard
rows-of-script plan k limits s file named on strict c opening capacity result old new silent mid heard ls says calm same is kept h =
    let stage = same-setup on.is_strict strict calm c (given_coding on.coded) k on.table opening on.capacity capacity ls is.strictly same is.coded is.table is.room in
    let there =
    written-alike plan plan.is_watched result old new mid heard (stage_of on calm ls) (setup strict c k opening capacity ls) on.script.now (name_or named (codes "-")) on.source.files.now s.files
    on.file.now (name_or file []) on.source.text.now s.text stage is.script is.files is.file is.text h in
    (ls, says, (there.0, there.1, ends-after plan.is_watched (denies there.0) result (campaign_output (name_or named (codes "-")) s.files (name_or file []) s.text there.0) (counts (name_or named (codes "-")) there.0) old new silent mid heard kept there.2))

written-by : (plan : CampaignPlan) (k : Option CodedData) (limits : List NodeLimits) (s : SourceData) (file named : Option (Bor (List ℕ))) (strict : Bool) (c : Parts) (opening capacity : ℕ) (result : Result Unit Fault)
    (old new silent heard : Option (List ℕ)) → WritesPlaysOfScript plan k limits s file named strict c opening capacity result old new silent heard
    → WritesCampaign plan k limits s file named strict c opening capacity result old new silent heard
written-by plan k limits s file named strict c opening capacity (Ok done) old new silent heard h = h
written-by plan k limits s file named strict c opening capacity (Err Denied) old new silent heard h = h
written-by plan k limits s file named strict c opening capacity (Err WriteFailed) old new silent heard h = h
written-by plan k limits s file named strict c opening capacity (Err OutOfMemory) old new silent heard h = inr h
written-by plan k limits s file named strict c opening capacity (Err LogFull) old new silent heard h = inr h
written-by plan k limits s file named strict c opening capacity (Err fault) old new silent heard (ls, says, (plays, full, ends)) = absurd ends

pub campaign-written : (plan : CampaignPlan) (k : Option CodedData) (limits : List NodeLimits) (s : SourceData) (file named : Option (Bor (List ℕ))) (on : Campaign) (strict : Bool) (c : Parts) (opening capacity : ℕ) (result : Result Unit Fault)
    (old new silent mid heard : Option (List ℕ)) (ls : List (LinePlace × ScriptLine)) → read c k limits s ≡ Ok ls → (calm : Parts) → calm ≡ c → IsCampaign on k limits s file named strict opening capacity
    → Keeps silent mid → WritesPlays (stage_of on calm ls) plan plan.is_watched on.script.now on.source.files.now on.file.now on.source.text.now result old new mid heard
    → WritesCampaign plan k limits s file named strict c opening capacity result old new silent heard
campaign-written plan k limits s file named on strict c opening capacity result old new silent mid heard ls says calm same is kept h =
    written-by plan k limits s file named strict c opening capacity result old new silent heard
    (rows-of-script plan k limits s file named on strict c opening capacity result old new silent mid heard ls says calm same is kept h)

-- lines that can't be played under faults
pub unplayed-fault : (on : Campaign) (c : Parts) (fs : List SlotFault) (ls : List (LinePlace × ScriptLine)) (fault : PlayFault) → PlaysUnder on.is_strict c on.table on.capacity fs ls (Err fault)
    → IsUnfinished on c fs ls (play_fault fault)
unplayed-fault on c fs ls (play.SlotLimit n) h = absurd h
unplayed-fault on c fs ls play.LogFull h = h
unplayed-fault on c fs ls play.OutOfMemory h = tt

-- a play for which memory ran out
ran-out : (on : Campaign) (c : Parts) (fs : List SlotFault) (ls : List (LinePlace × ScriptLine)) (fault : Fault) → IsMemoryFault fault → IsUnfinished on c fs ls fault
ran-out on c fs ls OutOfMemory h = tt
ran-out on c fs ls fault h = absurd h

pub same-ok : {X E : Type 0} (r : Result X E) (x y : X) → r ≡ Ok x → r ≡ Ok y → x ≡ y
same-ok r x y e f = cc

-- a play and its row, or the fault of one
pub judged-row : (on : Campaign) (c : Parts) (fs : List SlotFault) (said ls : List (LinePlace × ScriptLine)) (it : PlayedUnder) (r : Result Play Fault) → said ≡ ls
    → ComesUnder on.is_strict c on.table on.capacity fs said it → IfOk r (λ p. IsPlayOf (given_coding on.coded) it p) → IfErr r IsMemoryFault → PlaysRow on c fs ls r
judged-row on c fs said ls it (Ok p) same comes is fails =
    record { it = it; comes = subst (λ l. ComesUnder on.is_strict c on.table on.capacity fs l it) same comes; is = is }
judged-row on c fs said ls it (Err fault) same comes is fails = ran-out on c fs ls fault fails

pub judged-cluster : (k : Option CodedData) (c : Parts) (it : PlayedUnder) (r : Result Play Fault) → it.core.cluster ≡ c → IfOk r (λ p. IsPlayOf k it p) → IfOk r (λ p. p.core.cluster ≡ c)
judged-cluster k c it (Ok p) same is = ap (λ x. x.cluster) is.core ∙ same
judged-cluster k c it (Err fault) same is = tt

pub undisturbed-fault : (on : Campaign) (c : Parts) (ls : List (LinePlace × ScriptLine)) (fault : Fault) → IsUnfinished on c [] ls fault → PlaysUndisturbed on c ls (Err fault)
undisturbed-fault on c ls (SlotLimit n at) h = absurd h
undisturbed-fault on c ls LogFull h = h
undisturbed-fault on c ls OutOfMemory h = tt
undisturbed-fault on c ls fault h = absurd h

-- without the limit
pub judged-undisturbed : (on : Campaign) (c : Parts) (ls : List (LinePlace × ScriptLine)) (it : PlayedUnder) (r : Result Play Fault) → ComesUnder on.is_strict c on.table on.capacity [] ls it → it.limit ≡ None
    → IfOk r (λ p. IsPlayOf (given_coding on.coded) it p) → IfErr r IsMemoryFault → PlaysUndisturbed on c ls r
judged-undisturbed on c ls it (Ok p) comes limit is fails = record { it = it; comes = comes; is = is; limit = limit }
judged-undisturbed on c ls it (Err fault) comes limit is fails = undisturbed-fault on c ls fault (ran-out on c [] ls fault fails)

-- with the limit
pub limited-undisturbed : (on : Campaign) (c : Parts) (ls : List (LinePlace × ScriptLine)) (it : PlayedUnder) (n : LinePlace) (fault : Fault) → ComesUnder on.is_strict c on.table on.capacity [] ls it → it.limit ≡ Some n
    → fault ≡ limit_fault on.source.files.now n → PlaysUndisturbed on c ls (Err fault)
limited-undisturbed on c ls it n fault comes limit same =
    subst (λ f. PlaysUndisturbed on c ls (Err f)) (sym same) (record { it = it; comes = comes; limit = limit }, refl)
