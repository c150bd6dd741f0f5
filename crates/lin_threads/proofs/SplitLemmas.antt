-- The steps of a script, host by host, as the script grows.
use Rattle.std.proofs.Common.{◌≡◌, ◌≢◌, ◌<◌, ◌∙◌, ℕ, zero, suc, List, [], ◌∷◌, ◌++◌, length, map, Some, true, false, refl, sym, ap, subst, inl, inr, eq-eqb, append-nil}
use Rattle.std.specs.Global.{Vec}
use Rattle.std.specs.List.{All, slice_get}
use Rattle.std.proofs.lemmas.Bool.{ne_eqb}
use Rattle.std.proofs.lemmas.Bool.Decides.{eqb_tells}
use Rattle.std.proofs.lemmas.List.{map-append}
use Rattle.std.proofs.lemmas.List.Elements.{filter_map-append, All-push, All-nil}
use Rattle.std.proofs.Math.Seq.{take-append_seam}
use Rattle.lin_core.specs.declared.port.PortId.{PortId}
use Rattle.lin_core.specs.declared.port.PortId.TheVariants.{Host}
use Rattle.lin_core.specs.declared.step.Step.{Step}
use Rattle.lin_threads.specs.Steps.{host_step, same_port}
use Rattle.lin_threads.specs.declared.ports.steps.HostStep.{HostStep}
use Rattle.lin_threads.specs.Splitting.{IsOfHost, IsSplit, IsFirstOther, given_by, step_given, list_at}

-- what one step more adds to what a host gives: the step, where it is that host's
given-own : (said : List (PortId × Step)) (given : PortId × Step) (host : ℕ) → given.0 ≡ Host host → given_by (said ++ given ∷ []) (Host host) ≡ given_by said (Host host) ++ given.1 ∷ []
given-own said given host e =
    let same : same_port given.0 (Host host) ≡ true = rw e (eq-eqb host host refl) in
    filter_map-append (step_given (Host host)) said (given ∷ []) ∙ rw same refl

given-other : (said : List (PortId × Step)) (given : PortId × Step) (host other : ℕ) → given.0 ≡ Host host → host ≢ other → given_by (said ++ given ∷ []) (Host other) ≡ given_by said (Host other)
given-other said given host other e apart =
    let same : same_port given.0 (Host other) ≡ false = rw e (ne_eqb host other apart) in
    filter_map-append (step_given (Host other)) said (given ∷ []) ∙ rw same (append-nil _)

-- one step more is in its host's list
pub split-more : (hosts : ℕ) (said : List (PortId × Step)) (old new : List (Vec HostStep)) (given : PortId × Step) (host : ℕ) (own : HostStep) → IsSplit hosts said old → host < hosts → given.0 ≡ Host host → given.1 ≡ host_step host own → length new ≡ length old → list_at host new ≡ list_at host old ++ own ∷ [] → ((other : ℕ) → other ≢ host → list_at other new ≡ list_at other old) → IsSplit hosts (said ++ given ∷ []) new
split-more hosts said old new given host own h below port same count added others =
    record {
      all = All-push (IsOfHost hosts) said given h.all (record { host = host; below = below; port = port; step = own; same = same });
      count = count ∙ h.count;
      each = λ at within. elim (eqb_tells host at) [
        | inl e ↦ subst (λ x. map (host_step x) (list_at x new) ≡ given_by (said ++ given ∷ []) (Host x)) e.1
            (ap (map (host_step host)) added ∙ map-append (host_step host) (list_at host old) (own ∷ []) ∙ ap (λ l. l ++ host_step host own ∷ []) (h.each host below) ∙ ap (λ s. given_by said (Host host) ++ s ∷ []) (sym same) ∙ sym (given-own said given host port))
        | inr n ↦ ap (map (host_step at)) (others at (λ x. n.1 (sym x))) ∙ h.each at within ∙ sym (given-other said given host at port n.1)
      ];
    }

-- of no steps, empty lists are the parts
pub split-nothing : (hosts : ℕ) (lists : List (Vec HostStep)) → length lists ≡ hosts → ((host : ℕ) → list_at host lists ≡ []) → IsSplit hosts [] lists
split-nothing hosts lists count empty =
    record { all = All-nil (IsOfHost hosts); count = count; each = λ host within. ap (map (host_step host)) (empty host) }

-- one empty list more
pub empty-more : (lists : List (Vec HostStep)) (list : Vec HostStep) → ((host : ℕ) → list_at host lists ≡ []) → list.items ≡ [] → (host : ℕ) → list_at host (lists ++ list ∷ []) ≡ []
empty-more [] list h e zero = e
empty-more [] list h e (suc host) = refl
empty-more (first ∷ rest) list h e zero = h 0
empty-more (first ∷ rest) list h e (suc host) = empty-more rest list (λ n. h (suc n)) e host

-- what stands after a list
behind : {X : Type 0} (xs ys : List X) (x : X) → slice_get (xs ++ x ∷ ys) (length xs) ≡ Some x
behind [] ys x = refl
behind (y ∷ xs) ys x = behind xs ys x

-- the first step that is no host's stands after those that were split
pub first-other : (hosts : ℕ) (steps said rest : List (PortId × Step)) (other : PortId × Step) (index : ℕ) → said ++ other ∷ rest ≡ steps → index ≡ length said → All (IsOfHost hosts) said → (IsOfHost hosts other → ⊥) → IsFirstOther hosts steps index
first-other hosts steps said rest other index whole place all no_host =
    subst (λ s. IsFirstOther hosts s index) whole (subst (λ i. IsFirstOther hosts (said ++ other ∷ rest) i) (sym place) (record {
      before = subst (All (IsOfHost hosts)) (sym (take-append_seam said (other ∷ rest))) all;
      other = other;
      there = behind said rest other;
      no_host = no_host;
    }))
