-- Items of lists by their places.
use Rattle.std.proofs.Common.{◌≡◌, ◌≢◌, ◌<◌, ℕ, zero, suc, List, [], ◌∷◌, length, refl, ap, sym, ◌∙◌, arith}
use Rattle.std.specs.Prelude.{Option, Some, is_some, slice_get, slice_set, true}
use Rattle.lin_core.specs.kept.Hosts.{message_at}
use Rattle.lin_core.specs.Links.{Link, Message}
use Rattle.lin_core.specs.declared.log.LogEntry.{LogEntry}

pub get-there : {X : Type 0} (xs : List X) (i : ℕ) → i < length xs → (x : X) × (slice_get xs i ≡ Some x)
get-there [] i h = absurd (omega arith)
get-there (x ∷ xs) zero h = (x, refl)
get-there (x ∷ xs) (suc i) h = get-there xs i (omega arith)

-- an item that is set, at its own place and at another
pub set-own : {X : Type 0} (xs : List X) (i : ℕ) (x y : X) → slice_get xs i ≡ Some x → slice_get (slice_set xs i y) i ≡ Some y
set-own [] i x y e = cc
set-own (a ∷ xs) zero x y e = refl
set-own (a ∷ xs) (suc i) x y e = set-own xs i x y e

pub set-other : {X : Type 0} (xs : List X) (i j : ℕ) (y : X) → i ≢ j → slice_get (slice_set xs i y) j ≡ slice_get xs j
set-other [] i j y differ = refl
set-other (a ∷ xs) zero zero y differ = absurd (differ refl)
set-other (a ∷ xs) zero (suc j) y differ = refl
set-other (a ∷ xs) (suc i) zero y differ = refl
set-other (a ∷ xs) (suc i) (suc j) y differ = set-other xs i j y (λ e. differ (ap suc e))

-- and the item that was there
pub set-same : {X : Type 0} (xs : List X) (i : ℕ) (x : X) → slice_get xs i ≡ Some x → slice_set xs i x ≡ xs
set-same [] i x e = cc
set-same (a ∷ xs) zero x e = let same : a ≡ x = cc in ap (λ (y : _). y ∷ xs) (sym same)
set-same (a ∷ xs) (suc i) x e = ap (λ (ys : List _). a ∷ ys) (set-same xs i x e)

-- a message's place is one of the log's, and its entry has the step that sends it
pub message-there : (log : List LogEntry) (i : ℕ) → is_some (message_at log i) ≡ true → i < length log
message-there [] i h = cc
message-there (e ∷ log) zero h = omega arith
message-there (e ∷ log) (suc i) h = let l = message-there log i h in omega arith

-- the message that is lent is the one that stands there
pub lent-is : (o : Option Message) (l : Link) (bytes : List ℕ) (m : Message) → o ≡ Some (record { link = l; bytes = bytes }) → o ≡ Some m → record { link = l; bytes = bytes } ≡ m
lent-is o l bytes m lent there = let both : Some (record { link = l; bytes = bytes }) ≡ Some m = sym lent ∙ there in cc
