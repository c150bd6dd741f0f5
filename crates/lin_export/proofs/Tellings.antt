-- What the entries of a log say, as far as they were read.
use Rattle.std.proofs.Common.{◌≡◌, ℕ, List, [], ◌∷◌, ◌++◌, refl, sym, ap, ◌∙◌, append_assoc, take, drop, reverse, length, get_or, ◌+◌, ◌<◌}
use Rattle.std.proofs.lemmas.List.{drop_more, reverse-append, take_more}
use Rattle.lin_core.specs.declared.log.LogEntry.{LogEntry}
use Rattle.lin_export.specs.Telling.{each_entry}

pub each-append : (says : LogEntry → List LogEntry → List ℕ) (past xs ys : List LogEntry)
    → each_entry says past (xs ++ ys) ≡ each_entry says past xs ++ each_entry says (reverse xs ++ past) ys
each-append says past [] ys = refl
each-append says past (x ∷ xs) ys =
    ap (λ t. says x past ++ t) (each-append says (x ∷ past) xs ys)
    ∙ sym (append_assoc (says x past) (each_entry says (x ∷ past) xs) (each_entry says (reverse xs ++ x ∷ past) ys))
    ∙ ap (λ (p : List LogEntry). says x past ++ each_entry says (x ∷ past) xs ++ each_entry says p ys) (sym (ap (λ (l : List LogEntry). l ++ past) (reverse-append (x ∷ []) xs) ∙ append_assoc (reverse xs) (x ∷ []) past))

-- the entries before a place, the newest first
abbrev pub before : List LogEntry → ℕ → List LogEntry
before es i = reverse (take i es)

pub before-next : (es : List LogEntry) (i : ℕ) (e : LogEntry) → e ≡ get_or es i e → i < length es → before es (i + 1) ≡ e ∷ before es i
before-next es i e is h =
    ap reverse (take_more es i e h) ∙ reverse-append (take i es) (get_or es i e ∷ []) ∙ ap (λ (x : LogEntry). x ∷ before es i) (sym is)

-- what was put, and what the entries say that are left, is all: so it is with an entry more
pub next-put : (says : LogEntry → List LogEntry → List ℕ) (es : List LogEntry) (i : ℕ) (e : LogEntry) (put whole : List ℕ) → e ≡ get_or es i e → i < length es
    → put ++ each_entry says (before es i) (drop i es) ≡ whole
    → (put ++ says e (before es i)) ++ each_entry says (e ∷ before es i) (drop (i + 1) es) ≡ whole
next-put says es i e put whole is h so =
    let past : List LogEntry = before es i in
    let next : drop i es ≡ e ∷ drop (i + 1) es = drop_more es i e h ∙ ap (λ (x : LogEntry). x ∷ drop (i + 1) es) (sym is) in
    append_assoc put (says e past) (each_entry says (e ∷ past) (drop (i + 1) es))
    ∙ ap (λ (l : List LogEntry). put ++ each_entry says past l) (sym next) ∙ so
