-- What a range that was added leaves.
use Rattle.std.proofs.Common.{◌≡◌, ◌<◌, ◌≤◌, ◌+◌, ◌-◌, ℕ, true, false, cond, List, ◌∷◌, ◌++◌, length, take, drop, get_or, sym, subst, ap, ◌∙◌, inl, inr, arith, get_or-take, get_or-drop, length-take, length-drop, take-append-drop}
use Rattle.std.specs.Prelude.{Some, None, is_some, nat_lt, All, AllPairs}
use Rattle.std.specs.List.{list_any, AllWithin}
use Rattle.std.specs.List.Sorted.{IsPartitionPoint, IsPartitionedBy, IsNonDecreasingBy}
use Rattle.std.specs.Option.{option_or}
use Rattle.std.proofs.lemmas.Bool.{cases_lt, ltb-true, ltb-false, lt-ltb, le-ltb}
use Rattle.std.proofs.lemmas.List.Elements.{All-weaker}
use Rattle.std.proofs.lemmas.List.Sorted.{IsPartitionedBy-ltb}
use Rattle.lin_values.proofs.Layered.{IsBetween, layered-more, first-more, met-more}
use Rattle.lin_values.specs.Joined.{gaps, joined_span}
use Rattle.lin_values.specs.Layers.{in_span, item_in, numbers_of, IsBefore, IsLayered}
use Rattle.lin_values.specs.declared.layers.RangePart.{RangePart}
use Rattle.lin_values.specs.declared.layers.Span.{Span}

pub take-all : {X : Type 0} (P : X → Type 0) (xs : List X) (i : ℕ) → AllWithin P xs 0 i → All P (take i xs)
take-all P xs i all k d lt =
    let short : k < i = omega (arith, length-take i xs) in
    subst P (sym (get_or-take i xs k d short)) (all k d (omega arith) short)

pub drop-all : {X : Type 0} (P : X → Type 0) (xs : List X) (i : ℕ) → AllWithin P xs i (length xs) → All P (drop i xs)
drop-all P xs i all k d lt =
    subst P (sym (get_or-drop i xs k d)) (all (i + k) d (omega arith) (omega (arith, length-drop i xs)))

-- the ends of spans in order rise
pub ends-rise : (ss : List Span) → All (λ z. z.from ≤ z.to) ss → AllPairs IsBefore ss → IsNonDecreasingBy (λ z. z.to) ss
ends-rise ss some ordered i j d le lt =
    elim (cases_lt i j) as (λ _. (get_or ss i d).to ≤ (get_or ss j d).to) [
      | inl up ↦
          let before : (get_or ss i d).to < (get_or ss j d).from = ordered i j d up lt in
          let full : (get_or ss j d).from ≤ (get_or ss j d).to = some j d lt in
          omega arith
      | inr back ↦
          let e : i ≡ j = omega arith in
          subst (λ n. (get_or ss i d).to ≤ (get_or ss n d).to) e (omega arith)
    ]

pub spans-parted : (ss : List Span) (n : ℕ) → All (λ z. z.from ≤ z.to) ss → AllPairs IsBefore ss → IsPartitionedBy (λ z. nat_lt z.to n) ss
spans-parted ss n some ordered = IsPartitionedBy-ltb (λ (z : Span). z.to) ss n (ends-rise ss some ordered)

pub record IsAdded (cov : List Span) (ps : List RangePart) (s : Span) (item at end : ℕ) (w : Span) (cov' : List Span) (ps' : List RangePart) : Type 0 where
  pub between : IsBetween (take at cov) (drop at cov) ps s
  pub from : at ≤ end
  pub within : end ≤ length cov
  pub filled : ps' ≡ ps ++ gaps s.from s.to item (drop at cov)
  pub whole : w ≡ (joined_span s s.to (drop at cov)).0
  pub behind : drop end cov ≡ (joined_span s s.to (drop at cov)).1
  pub now : cov' ≡ take at cov ++ w ∷ drop end cov

pub added : (cov moved first second cov' : List Span) (ps old ps' : List RangePart) (s w : Span) (item at end : ℕ) → IsLayered cov ps → s.from ≤ s.to → moved ≡ cov → old ≡ ps → first ≡ moved → second ≡ moved → (IsPartitionedBy (λ z. nat_lt z.to s.from) first → IsPartitionPoint (λ z. nat_lt z.to s.from ≡ true) (λ z. nat_lt z.to s.from ≡ false) first at) → ps' ≡ old ++ gaps s.from s.to item (drop at second) → (at ≤ end) × (end ≤ length second) → w ≡ (joined_span s s.to (drop at second)).0 → drop end second ≡ (joined_span s s.to (drop at second)).1 → cov' ≡ take at moved ++ w ∷ drop end moved → IsAdded cov ps s item at end w cov' ps'
added cov moved first second cov' ps old ps' s w item at end layered full same were one two parted filled within whole behind now =
    let e : second ≡ cov = two ∙ same in
    let f : first ≡ cov = one ∙ same in
    let point = parted (subst (IsPartitionedBy (λ (z : Span). nat_lt z.to s.from)) (sym f) (spans-parted cov s.from layered.some layered.ordered)) in
    record {
      between = record {
        layered = subst (λ c. IsLayered c ps) (sym (take-append-drop at cov)) layered;
        full = full;
        below = subst (λ c. All (λ (z : Span). z.to < s.from) (take at c)) f (All-weaker (λ (z : Span). nat_lt z.to s.from ≡ true) (λ z. z.to < s.from) (λ z h. ltb-true z.to s.from h) (take at first) (take-all (λ (z : Span). nat_lt z.to s.from ≡ true) first at point.0));
        above = subst (λ c. All (λ (z : Span). s.from ≤ z.to) (drop at c)) f (All-weaker (λ (z : Span). nat_lt z.to s.from ≡ false) (λ z. s.from ≤ z.to) (λ z h. ltb-false z.to s.from h) (drop at first) (drop-all (λ (z : Span). nat_lt z.to s.from ≡ false) first at point.1));
      };
      from = within.0;
      within = subst (λ c. end ≤ length c) e within.1;
      filled = filled ∙ (λ i. were i ++ gaps s.from s.to item (drop at (e i)));
      whole = whole ∙ ap (λ c. (joined_span s s.to (drop at c)).0) e;
      behind = ap (drop end) (sym e) ∙ behind ∙ ap (λ c. (joined_span s s.to (drop at c)).1) e;
      now = now ∙ (λ i. take at (same i) ++ w ∷ drop end (same i));
    }

pub added-layered : (cov cov' : List Span) (ps ps' : List RangePart) (s w : Span) (item at end : ℕ) → IsAdded cov ps s item at end w cov' ps' → IsLayered cov' ps'
added-layered cov cov' ps ps' s w item at end is =
    let spans : cov' ≡ take at cov ++ (joined_span s s.to (drop at cov)).0 ∷ (joined_span s s.to (drop at cov)).1 = is.now ∙ (λ i. take at cov ++ is.whole i ∷ is.behind i) in
    let have = layered-more item (take at cov) (drop at cov) ps s is.between in
    subst (λ c. IsLayered c ps') (sym spans) (subst (λ q. IsLayered (take at cov ++ (joined_span s s.to (drop at cov)).0 ∷ (joined_span s s.to (drop at cov)).1) q) (sym is.filled) have)

pub added-first : (cov cov' : List Span) (ps ps' : List RangePart) (s w : Span) (item at end : ℕ) → IsAdded cov ps s item at end w cov' ps' → (n : ℕ) → item_in ps' n ≡ option_or (item_in ps n) (cond (in_span s n) (Some item) None)
added-first cov cov' ps ps' s w item at end is n = ap (λ q. item_in q n) is.filled ∙ first-more n item (take at cov) (drop at cov) ps s is.between

short-drop : (at end l : ℕ) → at ≤ end → end ≤ l → nat_lt (l - end) (l - at) ≡ nat_lt at end
short-drop at end l up in' = elim (cases_lt at end) as (λ _. nat_lt (l - end) (l - at) ≡ nat_lt at end) [
  | inl lt ↦ lt-ltb (l - end) (l - at) (omega arith) ∙ sym (lt-ltb at end lt)
  | inr le ↦ le-ltb (l - end) (l - at) (omega arith) ∙ sym (le-ltb at end le)
]

pub added-met : (cov cov' : List Span) (ps ps' : List RangePart) (s w : Span) (item at end : ℕ) → IsAdded cov ps s item at end w cov' ps' → nat_lt at end ≡ list_any (λ n. is_some (item_in ps n)) (numbers_of s)
added-met cov cov' ps ps' s w item at end is =
    sym (short-drop at end (length cov) is.from is.within)
    ∙ (λ i. nat_lt (sym (length-drop end cov) i) (sym (length-drop at cov) i))
    ∙ ap (λ l. nat_lt (length l) (length (drop at cov))) is.behind
    ∙ sym (met-more (take at cov) (drop at cov) ps s is.between)
