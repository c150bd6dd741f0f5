-- The slot that is kept, against the slot that is open.
use Rattle.std.proofs.Common.{◌≡◌, ℕ, Bool, true, false, List, [], ◌∷◌, map, refl, ap, sym, ◌∙◌}
use Rattle.std.specs.Prelude.{◌||◌, ◌==◌}
use Rattle.std.specs.List.{list_any}
use Rattle.lin_core.specs.History.{is_in}
use Rattle.lin_core.specs.kept.Slots.{put_in}
use Rattle.lin_core.specs.declared.slot.Put.{Put}

pub or-false : (b : Bool) → (b || false) ≡ b
or-false true = refl
or-false false = refl

pub or-assoc : (a b d : Bool) → ((a || b) || d) ≡ (a || (b || d))
or-assoc true b d = refl
or-assoc false b d = refl

pub decided-map : (n : ℕ) (ps : List Put) → list_any (λ (p : Put). p.node == n) ps ≡ list_any (λ (p : ℕ × List ℕ). p.0 == n) (map put_in ps)
decided-map n [] = refl
decided-map n (p ∷ ps) = ap (λ (b : Bool). (p.node == n) || b) (decided-map n ps)

-- a node has decided where it put something, or left its response out
pub decided-put : (n : ℕ) (ps : List Put) (ls : List ℕ) (b : Bool) → b ≡ list_any (λ (p : Put). p.node == n) ps → b ≡ true → b ≡ (list_any (λ (p : ℕ × List ℕ). p.0 == n) (map put_in ps) || is_in ls n)
decided-put n ps ls b e f = let m : list_any (λ (p : ℕ × List ℕ). p.0 == n) (map put_in ps) ≡ true = sym (decided-map n ps) ∙ sym e ∙ f in rw (m, f) refl

pub decided-left : (n : ℕ) (ps : List Put) (ls : List ℕ) (b d : Bool) → b ≡ list_any (λ (p : Put). p.node == n) ps → b ≡ false → d ≡ is_in ls n → d ≡ (list_any (λ (p : ℕ × List ℕ). p.0 == n) (map put_in ps) || is_in ls n)
decided-left n ps ls b d e f g = let m : list_any (λ (p : ℕ × List ℕ). p.0 == n) (map put_in ps) ≡ false = sym (decided-map n ps) ∙ sym e ∙ f in rw m g
