use Rattle.std.proofs.Common.{◌≡◌, ◌∙◌, ℕ, List, ap, refl, sym}
use Rattle.lin_text.specs.declared.lists.Text.{Text}
use Rattle.lin_text.proofs.Growing.{same-growth}
use Rattle.lin_bench.specs.declared.files.ScriptFile.{ScriptFile}
use Rattle.lin_bench.specs.declared.place.LinePlace.{LinePlace}
use Rattle.lin_bench.specs.declared.reason.Reason.{Reason}
use Rattle.lin_bench.specs.declared.reason.Reason.TheVariants.{LongFile, Unread}
use Rattle.lin_tool.specs.Placing.{bad_at, bad_line_at, unread_text}
use Rattle.lin_tool.proofs.placing.put_bad.Goals as goal

-- a line that isn't bad because of a file, and one that is
other-bad : (file : List ℕ) (fs : List ScriptFile) (p : LinePlace) (why : Reason) → ((name : Text) → why ≡ Unread name → ⊥) → ((name : Text) → why ≡ LongFile name → ⊥)
    → bad_line_at file fs p why ≡ bad_at file fs p why
other-bad file fs p (Unread name) read short = absurd (read name refl)
other-bad file fs p (LongFile name) read short = absurd (short name refl)
other-bad file fs p why read short = refl

unread-bad : (file : List ℕ) (fs : List ScriptFile) (p : LinePlace) (why : Reason) (name : Text) → why ≡ Unread name → unread_text name why ≡ bad_at file fs p why
unread-bad file fs p why name e = ap (unread_text name) e ∙ ap (bad_at file fs p) (sym e)

long-bad : (file : List ℕ) (fs : List ScriptFile) (p : LinePlace) (why : Reason) (name : Text) → why ≡ LongFile name → unread_text name why ≡ bad_at file fs p why
long-bad file fs p why name e = ap (unread_text name) e ∙ ap (bad_at file fs p) (sym e)

pub returns-in-Unread : goal.returns-in-Unread
returns-in-Unread g c =
    let bad = c.args.bad.now in
    same-growth (ap (λ n. unread_text n bad.1) c.as_slice.ensures ∙ unread-bad c.args.names.script.now c.args.names.files.now bad.0 bad.1 c.in-Unread.name c.in-Unread.is) c.put_unread.ensures

pub returns-in-LongFile : goal.returns-in-LongFile
returns-in-LongFile g c =
    let bad = c.args.bad.now in
    same-growth (ap (λ n. unread_text n bad.1) c.as_slice-in-LongFile.ensures ∙ long-bad c.args.names.script.now c.args.names.files.now bad.0 bad.1 c.in-LongFile.name c.in-LongFile.is) c.put_unread-in-LongFile.ensures

pub returns-in_default : goal.returns-in_default
returns-in_default g c =
    same-growth (other-bad c.args.names.script.now c.args.names.files.now c.args.bad.now.0 c.args.bad.now.1 c.in_default.not-Unread c.in_default.not-LongFile) c.put_bad_line.ensures
