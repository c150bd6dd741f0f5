-- Texts without LF, and texts without the lines that begin with `#`.
use Rattle.std.proofs.Common.{◌≡◌, ◌∙◌, ℕ, ◌==◌, Bool, true, false, List, [], ◌∷◌, ◌++◌, refl, sym, ap, append_assoc, filter, flat_map, map, Option, if◌then◌else◌}
use Rattle.std.proofs.lemmas.List.Elements.{All-cons}
use Rattle.std.proofs.lemmas.List.Splits.{slice_split_at}
use Rattle.lin_parts.specs.declared.parts.Parts.{Parts}
use Rattle.lin_log.specs.Language.{named_language}
use Rattle.lin_log.specs.Laws.{is_quiet}
use Rattle.lin_log.proofs.Quiet.{no-end}
use Rattle.lin_values.specs.Coded.{CodedData}
use Rattle.lin_bench.specs.LineWords.{spaced_words}
use Rattle.lin_bench.proofs.LineWords.{all-quiet}
use Rattle.lin_live.specs.Lines.{HasNoLf, but_last, last_one, pieces_at_lf}
use Rattle.lin_live.specs.Told.{Ending, ending_words, hash_ending}
use Rattle.lin_live.proofs.Cuts.{pieces-some}
use Rattle.lin_tool.specs.laws.Transcripts.{IsRemark, with_line_end, is_said, lines_with_ends, without_remarks}

-- what holds of both
pub each-way : {X : Type 0} (P : X → Type 0) (t : Bool) (a b : X) → P a → P b → P (if t then a else b)
each-way P true a b h k = h
each-way P false a b h k = k

-- ---- bytes without LF
abbrev pub Quiet : List ℕ → Type 0
Quiet w = is_quiet w ≡ true

-- ---- a line in front of a text
abbrev pub with_ends : List (List ℕ) → List (List ℕ)
with_ends ps = map with_line_end (but_last ps) ++ last_one ps ∷ []

ends-more : (l : List ℕ) (ps : List (List ℕ)) (q : List ℕ) (qs : List (List ℕ)) → ps ≡ q ∷ qs → with_ends (l ∷ ps) ≡ with_line_end l ∷ with_ends ps
ends-more l [] q qs e = absurd (cc)
ends-more l (p ∷ ps) q qs e = refl

line-cut : (body rest : List ℕ) → HasNoLf body → lines_with_ends (body ++ 10 ∷ rest) ≡ with_line_end body ∷ lines_with_ends rest
line-cut body rest h =
    let s = pieces-some rest in
    ap with_ends (slice_split_at (λ b. b == 10) body 10 rest h refl) ∙ ends-more body (pieces_at_lf rest) s.0 s.1 s.2

said-by : (line : List ℕ) (more : List (List ℕ)) (t : Bool) → is_said line ≡ t
    → flat_map (λ l. l) (filter is_said (line ∷ more)) ≡ (if t then line else []) ++ flat_map (λ l. l) (filter is_said more)
said-by line more true e = rw e refl
said-by line more false e = rw e refl

line-first : (body rest : List ℕ) (t : Bool) → HasNoLf body → is_said (with_line_end body) ≡ t
    → without_remarks (with_line_end body ++ rest) ≡ (if t then with_line_end body else []) ++ without_remarks rest
line-first body rest t h e =
    ap without_remarks (append_assoc body (10 ∷ []) rest)
    ∙ ap (λ ls. flat_map (λ l. l) (filter is_said ls)) (line-cut body rest h)
    ∙ said-by (with_line_end body) (lines_with_ends rest) t e

-- a text that stays, and one that goes
abbrev pub Stays : List ℕ → Type 0
Stays t = (rest : List ℕ) → without_remarks (t ++ rest) ≡ t ++ without_remarks rest

abbrev pub Goes : List ℕ → Type 0
Goes t = (rest : List ℕ) → without_remarks (t ++ rest) ≡ without_remarks rest

pub stays-line : (body : List ℕ) → Quiet body → is_said (with_line_end body) ≡ true → Stays (with_line_end body)
stays-line body h e rest = line-first body rest true (no-end body h) e

a-remark : (words : List ℕ) → Quiet words → IsRemark (35 ∷ (words ++ 10 ∷ []))
a-remark words h = record { words = words; has_no_lf = no-end words h; whole = refl }

-- each last line of an answer in a text, whatever its words are
pub ending-remark : (c : Parts) (k : Option CodedData) (e : Ending) → IsRemark (hash_ending c k e)
ending-remark c k e =
    let l = named_language c in
    let words = ending_words c k e in a-remark (spaced_words l words) (all-quiet l words)

pub remark-goes : (t : List ℕ) → IsRemark t → Goes t
remark-goes t r rest =
    ap (λ u. without_remarks (u ++ rest)) r.whole ∙ line-first (35 ∷ r.words) rest false (All-cons (λ b. (b == 10) ≡ false) 35 r.words refl r.has_no_lf) refl

pub stays-nothing : Stays []
stays-nothing rest = refl

pub stays-both : (s t : List ℕ) → Stays s → Stays t → Stays (s ++ t)
stays-both s t p q rest =
    ap without_remarks (append_assoc s t rest) ∙ p (t ++ rest) ∙ ap (λ l. s ++ l) (q rest) ∙ sym (append_assoc s t (without_remarks rest))
