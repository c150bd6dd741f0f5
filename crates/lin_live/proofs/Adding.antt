-- What is answered adds up.
use Rattle.std.proofs.Common.{◌≡◌, ℕ, ◌+◌, ◌==◌, false, cond, eqb, List, [], ◌∷◌, ◌++◌, length, take, drop, map, Option, Some, Result, Ok, Err, refl, sym, ap, subst, ◌∙◌, append_assoc, append-nil}
use Rattle.std.specs.Io.KnownBytes.{Appends, Consumes, IsAtEnd}
use Rattle.std.specs.Str.Lines.{strip_carriage_return}
use Rattle.std.proofs.KnownBytes.{Appends-nil, Appends-trans, Consumes-whole}
use Rattle.std.proofs.lemmas.List.{map-append}
use Rattle.std.proofs.lemmas.List.Elements.{All-append, All-nil}
use Rattle.memchr.specs.Find.{IsFirstByte, is_byte}
use Rattle.lin_live.specs.Lines.{HasNoLf, pieces_at_lf, ended_lines, last_line, lines, after_last_lf}
use Rattle.lin_live.specs.Transcript.{state_after, short, transcript}
use Rattle.lin_live.specs.Begun.{with_bytes, bytes_within_line}
use Rattle.lin_live.specs.Serving.{Answers, FailsToServe, ServesEnd, IsAnswered, IsLive}
use Rattle.lin_live.specs.declared.fault.Fault.{Fault}
use Rattle.lin_live.specs.declared.fault.Fault.TheVariants.{ReadFailed, WriteFailed, OutOfMemory, LogFull}
use Rattle.lin_live.proofs.Cuts.{closed-append, closed-at, closed-clean, line-cut, tail-append, tail-at, tail-same}
use Rattle.lin_live.proofs.Keeping.{held-added}
use Rattle.lin_live.proofs.Transcripts.{after-append, transcript-append}

-- lines without their CR
abbrev pub stripped : List (List ℕ) → List (List ℕ)
stripped ls = map strip_carriage_return ls

-- lines of a text were answered, and the beginning of the next one is kept
abbrev pub IsFed : {S : Type 0} → (S → Option (List ℕ) → S × List ℕ) → S → S → Option (List ℕ) → Option (List ℕ) → Option (List ℕ) → List ℕ → List ℕ → Type 0
IsFed reply s t old new begun text rest =
    (ls : List (List ℕ)) × (r : List ℕ) × (pieces_at_lf text ≡ ls ++ pieces_at_lf (r ++ rest)) × HasNoLf r × (begun ≡ bytes_within_line r) × Answers reply s t old new (stripped ls)

module _ {S : Type 0} (reply : S → Option (List ℕ) → S × List ℕ) (full : S → Option (List ℕ) → Type 0) where
  pub answers-none : (s : S) (a : Option (List ℕ)) → Answers reply s s a a []
  answers-none s a = (Appends-nil a, refl)

  appends-more : (s t : S) (a b c : Option (List ℕ)) (xs ys : List (List ℕ)) → Answers reply s t a b xs → Appends b c (transcript reply t ys) → Appends a c (transcript reply s (xs ++ ys))
  appends-more s t a b c xs ys h k =
      subst (Appends a c) (ap (λ u. transcript reply s xs ++ transcript reply u ys) h.1 ∙ sym (transcript-append reply s xs ys)) (Appends-trans a b c _ _ h.0 k)

  pub answers-more : (s t u : S) (a b c : Option (List ℕ)) (xs ys : List (List ℕ)) → Answers reply s t a b xs → Answers reply t u b c ys → Answers reply s u a c (xs ++ ys)
  answers-more s t u a b c xs ys h k =
      (appends-more s t a b c xs ys h k.0, k.1 ∙ ap (λ v. state_after reply v ys) h.1 ∙ sym (after-append reply s xs ys))

  -- lines were answered, and then others weren't
  pub fails-more : (fault : Fault) (s t : S) (a b c : Option (List ℕ)) (xs ys : List (List ℕ)) → Answers reply s t a b xs → FailsToServe reply full t b c ys fault → FailsToServe reply full s a c (xs ++ ys) fault
  fails-more ReadFailed s t a b c xs ys h k = absurd k
  fails-more WriteFailed s t a b c xs ys h (part, rest, w, d) = (
    transcript reply s xs ++ part,
    rest,
    Appends-trans a b c _ _ h.0 w,
    transcript-append reply s xs ys ∙ ap (λ l. transcript reply s xs ++ l) (subst (λ u. transcript reply u ys ≡ part ++ rest) h.1 d) ∙ sym (append_assoc (transcript reply s xs) part rest),
  )
  fails-more OutOfMemory s t a b c xs ys h (first, more, e, w) =
      (xs ++ first, more, ap (λ l. xs ++ l) e ∙ sym (append_assoc xs first more), appends-more s t a b c xs first h w)
  fails-more LogFull s t a b c xs ys h (first, line, more, e, w, f) = (
    xs ++ first,
    line,
    more,
    ap (λ l. xs ++ l) e ∙ sym (append_assoc xs first (line ∷ more)),
    appends-more s t a b c xs first h w,
    subst (λ u. full u (short line)) (ap (λ v. state_after reply v first) h.1 ∙ sym (after-append reply s xs first)) f,
  )

  -- more lines weren't answered
  pub fails-longer : (fault : Fault) (s : S) (a c : Option (List ℕ)) (xs ys : List (List ℕ)) → FailsToServe reply full s a c xs fault → FailsToServe reply full s a c (xs ++ ys) fault
  fails-longer ReadFailed s a c xs ys k = absurd k
  fails-longer WriteFailed s a c xs ys (part, rest, w, d) =
      let more = transcript reply (state_after reply s xs) ys in
      (part, rest ++ more, w, transcript-append reply s xs ys ∙ ap (λ l. l ++ more) d ∙ append_assoc part rest more)
  fails-longer OutOfMemory s a c xs ys (first, more, e, w) = (first, more ++ ys, ap (λ l. l ++ ys) e ∙ append_assoc first more ys, w)
  fails-longer LogFull s a c xs ys (first, line, more, e, w, f) = (first, line, more ++ ys, ap (λ l. l ++ ys) e ∙ append_assoc first (line ∷ more) ys, w, f)

  -- one line was answered, or wasn't
  one-answered : (s t : S) (a b : Option (List ℕ)) (bytes : List ℕ) (done : Unit {0}) → IsAnswered reply full s t a b bytes (Ok done) → Answers reply s t a b (strip_carriage_return bytes ∷ [])
  one-answered s t a b bytes done h = (subst (Appends a b) (sym (append-nil _)) h.0, h.1)

  one-failed : (fault : Fault) (s t : S) (a b : Option (List ℕ)) (bytes : List ℕ) → IsAnswered reply full s t a b bytes (Err fault) → FailsToServe reply full s a b (strip_carriage_return bytes ∷ []) fault
  one-failed ReadFailed s t a b bytes h = absurd h
  one-failed WriteFailed s t a b bytes (part, rest, w, d) = (part, rest, w, append-nil _ ∙ d)
  one-failed OutOfMemory s t a b bytes h = ([], strip_carriage_return bytes ∷ [], refl, h)
  one-failed LogFull s t a b bytes h = ([], strip_carriage_return bytes, [], refl, h.0, h.1)

  -- ---- a piece of the input

  -- the next line was answered
  pub fed-line : (s t u : S) (a b c begun next : Option (List ℕ)) (text rest : List ℕ) (n : ℕ) (done : Unit {0}) (h : IsFed reply s t a b begun text rest)
      → IsFirstByte (is_byte 10) rest (Some n) → IsAnswered reply full t u b c (h.1 ++ take n rest) (Ok done) → next ≡ Some []
      → IsFed reply s u a c next text (drop (n + 1) rest)
  fed-line s t u a b c begun next text rest n done (ls, r, e, clean, k, ans) found one new = (
    ls ++ (r ++ take n rest) ∷ [],
    [],
    line-cut text r rest ls n e clean found,
    All-nil (λ b. eqb b 10 ≡ false),
    new,
    subst (Answers reply s u a c) (sym (map-append strip_carriage_return ls ((r ++ take n rest) ∷ []))) (answers-more s t u a b c (stripped ls) _ ans (one-answered t u b c (r ++ take n rest) done one)),
  )

  -- it wasn't
  pub fed-failed : (fault : Fault) (s t u : S) (a b c begun : Option (List ℕ)) (text rest : List ℕ) (n : ℕ) (h : IsFed reply s t a b begun text rest)
      → IsFirstByte (is_byte 10) rest (Some n) → IsAnswered reply full t u b c (h.1 ++ take n rest) (Err fault) → FailsToServe reply full s a c (ended_lines text) fault
  fed-failed fault s t u a b c begun text rest n (ls, r, e, clean, k, ans) found one =
      let line = r ++ take n rest in
      subst (λ l. FailsToServe reply full s a c l fault) (sym (closed-at text (drop (n + 1) rest) (ls ++ line ∷ []) (line-cut text r rest ls n e clean found)))
      (fails-longer fault s a c (stripped (ls ++ line ∷ [])) _
      (subst (λ l. FailsToServe reply full s a c l fault) (sym (map-append strip_carriage_return ls (line ∷ []))) (fails-more fault s t a b c (stripped ls) _ ans (one-failed fault t u b c line one))))

  -- there was no memory for a part of a line
  pub fed-unkept : (s t : S) (a b begun : Option (List ℕ)) (text rest : List ℕ) → IsFed reply s t a b begun text rest → FailsToServe reply full s a b (ended_lines text) OutOfMemory
  fed-unkept s t a b begun text rest (ls, r, e, clean, k, ans) = (stripped ls, ended_lines (r ++ rest), closed-at text (r ++ rest) ls e, ans.0)

  -- no line ends in what is left of the piece
  pub fed-all : (s t : S) (a b begun next : Option (List ℕ)) (text rest : List ℕ) → IsFed reply s t a b begun text rest → HasNoLf rest → next ≡ with_bytes begun rest
      → Answers reply s t a b (ended_lines text) × (next ≡ bytes_within_line (after_last_lf text))
  fed-all s t a b begun next text rest (ls, r, e, clean, k, ans) none new =
      let more = r ++ rest in
      let whole : HasNoLf more = All-append (λ b. eqb b 10 ≡ false) r rest clean none in (
        subst (Answers reply s t a b) (sym (closed-at text more ls e ∙ ap (λ l. stripped ls ++ l) (closed-clean more whole) ∙ append-nil (stripped ls))) ans,
        new ∙ ap (λ o. with_bytes o rest) k ∙ held-added r rest ∙ ap bytes_within_line (sym (tail-at text more ls e ∙ tail-same more whole)),
      )

  -- ---- the end of the input
  finish-line : (s t : S) (a b : Option (List ℕ)) (bytes : List ℕ) (r : Result (Unit {0}) Fault) → last_line bytes ≡ strip_carriage_return bytes ∷ []
      → IsAnswered reply full s t a b bytes r → ServesEnd reply full s t a b bytes r
  finish-line s t a b bytes (Ok done) e h = subst (Answers reply s t a b) (sym e) (one-answered s t a b bytes done h)
  finish-line s t a b bytes (Err fault) e h = subst (λ l. FailsToServe reply full s a b l fault) (sym e) (one-failed fault s t a b bytes h)

  pub finished-line : (s t : S) (a b : Option (List ℕ)) (bytes : List ℕ) (r : Result (Unit {0}) Fault) → (length bytes == 0) ≡ false
      → IsAnswered reply full s t a b bytes r → ServesEnd reply full s t a b bytes r
  finished-line s t a b bytes r some h = finish-line s t a b bytes r (ap (λ c. cond c [] (strip_carriage_return bytes ∷ [])) some) h

  -- ---- the loop
  pub live-failed : (fault : Fault) (s t : S) (known left a b : Option (List ℕ)) (read : List ℕ) → Consumes known left read → FailsToServe reply full s a b (lines read) fault
      → IsLive reply full s t known left a b (Err fault)
  live-failed ReadFailed s t known left a b read h k = absurd k
  live-failed WriteFailed s t known left a b read h k = (read, h, k)
  live-failed OutOfMemory s t known left a b read h k = (read, h, k)
  live-failed LogFull s t known left a b read h k = (read, h, k)

  pub live-finished : (s t u : S) (known left a b c : Option (List ℕ)) (read : List ℕ) (r : Result (Unit {0}) Fault) → Consumes known left read → IsAtEnd left
      → Answers reply s t a b (ended_lines read) → ServesEnd reply full t u b c (after_last_lf read) r → IsLive reply full s u known left a c r
  live-finished s t u known left a b c read (Ok done) h e k f =
      (read, Consumes-whole known left read (λ bytes. read ≡ bytes) h e refl, answers-more s t u a b c (ended_lines read) (last_line (after_last_lf read)) k f)
  live-finished s t u known left a b c read (Err fault) h e k f =
      live-failed fault s u known left a c read h (fails-more fault s t a b c (ended_lines read) (last_line (after_last_lf read)) k f)

  -- a piece of the input after what was read
  pub piece-answered : (s t u : S) (a b c begun : Option (List ℕ)) (read xs : List ℕ) → Answers reply s t a b (ended_lines read)
      → Answers reply t u b c (ended_lines (after_last_lf read ++ xs)) × (begun ≡ bytes_within_line (after_last_lf (after_last_lf read ++ xs)))
      → Answers reply s u a c (ended_lines (read ++ xs)) × (begun ≡ bytes_within_line (after_last_lf (read ++ xs)))
  piece-answered s t u a b c begun read xs h d = (
    subst (Answers reply s u a c) (sym (closed-append read xs)) (answers-more s t u a b c (ended_lines read) (ended_lines (after_last_lf read ++ xs)) h d.0),
    d.1 ∙ ap bytes_within_line (sym (tail-append read xs)),
  )

  pub piece-failed : (fault : Fault) (s t : S) (a b c : Option (List ℕ)) (read xs : List ℕ) → Answers reply s t a b (ended_lines read)
      → FailsToServe reply full t b c (ended_lines (after_last_lf read ++ xs)) fault → FailsToServe reply full s a c (lines (read ++ xs)) fault
  piece-failed fault s t a b c read xs h d =
      fails-longer fault s a c (ended_lines (read ++ xs)) (last_line (after_last_lf (read ++ xs)))
      (subst (λ l. FailsToServe reply full s a c l fault) (sym (closed-append read xs)) (fails-more fault s t a b c (ended_lines read) (ended_lines (after_last_lf read ++ xs)) h d))
