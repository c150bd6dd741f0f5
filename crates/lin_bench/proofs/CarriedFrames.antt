-- Slots, and the frames that they carry.
use Rattle.std.proofs.Common.{◌≡◌, ◌∙◌, ℕ, ◌-◌, ◌==◌, ◌||◌, Bool, List, [], ◌∷◌, None, refl, ap, map}
use Rattle.std.specs.Prelude.{find}
use Rattle.std.specs.List.{list_any}
use Rattle.lin_parts.specs.Cluster.{frame_of}
use Rattle.lin_parts.specs.declared.parts.Parts.{Parts}
use Rattle.lin_core.specs.History.{Slot, header_is}
use Rattle.lin_bench.specs.Carried.{shape}

-- ---- frames by their publishers
find-same : (p q : ℕ → Bool) (xs : List ℕ) → ((x : ℕ) → p x ≡ q x) → find p xs ≡ find q xs
find-same p q [] same = refl
find-same p q (x ∷ xs) same = rw (same x, find-same p q xs same) refl

any-of : (n : ℕ) (puts : List (ℕ × List ℕ)) → list_any (λ m. m == n) (map (λ (p : ℕ × List ℕ). p.0) puts) ≡ list_any (λ (p : ℕ × List ℕ). p.0 == n) puts
any-of n [] = refl
any-of n (p ∷ puts) = ap (λ b. (p.0 == n) || b) (any-of n puts)

pub published : (c : Parts) (frames : List ℕ) (nodes : List ℕ) (s : Slot) → nodes ≡ (shape s).nodes
    → find (λ f. list_any (λ n. n == (frame_of c f).publisher) nodes) frames
    ≡ find (λ f. list_any (λ (p : ℕ × List ℕ). p.0 == (frame_of c f).publisher) s.puts) frames
published c frames nodes s is =
    find-same (λ f. list_any (λ n. n == (frame_of c f).publisher) nodes) (λ f. list_any (λ (p : ℕ × List ℕ). p.0 == (frame_of c f).publisher) s.puts) frames
    (λ f. ap (list_any (λ n. n == (frame_of c f).publisher)) is ∙ any-of (frame_of c f).publisher s.puts)

pub none-headless : (c : Parts) (frames : List ℕ) → find (λ f. header_is (frame_of c f).pid None) frames ≡ None
none-headless c [] = refl
none-headless c (f ∷ fs) = none-headless c fs
