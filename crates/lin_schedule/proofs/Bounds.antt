-- The least of the bounds of a wait, as they are found one after another.
use Rattle.std.proofs.Common.{◌≡◌, ℕ, ◌+◌, ◌<◌, ◌≤◌, min, List, length, Option, Some, None, refl, ap, sym, ◌∙◌, subst, arith, inl, inr}
use Rattle.std.proofs.lemmas.Bool.{cases_lt}
use Rattle.std.proofs.lemmas.Option.{none-some}
use Rattle.lin_parts.specs.declared.parts.Parts.{Parts}
use Rattle.lin_schedule.specs.Carriers.{Carriers, carriers_of_frames, carriers_of_sporadic, rank}
use Rattle.lin_schedule.specs.Once.{IsBound, sure, ranked, IsWithin, IsLeastBound, IsLeastOf, lesser}
use Rattle.lin_schedule.specs.Walk.{IsLongestWait, IsWorst}

-- there is one longest wait
pub worst-is : (c : Parts) (t : ℕ) (k : Carriers) (n : ℕ) (worst : Option ℕ) → IsWorst c t k n worst → (time : ℕ) → IsLongestWait c t k n time
    → worst ≡ Some time
worst-is c t k n (Some found) is time longest =
    let below = longest.longest found is.met in
    let above = is.longest time longest.met in
    let same : found ≡ time = omega arith in
    ap Some same
worst-is c t k n None endless time longest =
    let going = endless time in
    let late = going.1.0 in
    let over = longest.over going.0 going.1.1 in
    absurd (omega arith)

lesser-left : (a b : Option ℕ) (time : ℕ) → IsWithin a time → IsWithin (lesser a b) time
lesser-left (Some a) (Some b) time within =
    let is : a ≡ within.found = cc in
    let le = within.le in
    record { found = min a b; is = refl; le = omega arith }
lesser-left (Some a) None time within = within
lesser-left None b time within = absurd (none-some within.found within.is)

lesser-right : (a b : Option ℕ) (time : ℕ) → b ≡ Some time → IsWithin (lesser a b) time
lesser-right (Some a) (Some b) time is =
    let same : b ≡ time = cc in
    record { found = min a b; is = refl; le = omega arith }
lesser-right (Some a) None time is = absurd (none-some time is)
lesser-right None b time is = record { found = time; is = is; le = omega arith }

met-some : (c : Parts) (t : ℕ) (frames : List ℕ) (worst : Option ℕ) → IsWorst c t (carriers_of_frames c frames) 1 worst
    → (time : ℕ) → worst ≡ Some time → IsBound c t frames time
met-some c t frames (Some found) is time e = let same : found ≡ time = cc in subst (IsBound c t frames) same (sure is)
met-some c t frames None is time e = absurd (none-some time e)

pub least-first : (c : Parts) (t : ℕ) (frames : List ℕ) (worst : Option ℕ) → IsWorst c t (carriers_of_frames c frames) 1 worst
    → IsLeastOf c t frames 0 worst
least-first c t frames worst is = record {
  met = met-some c t frames worst is;
  sure_in = λ time longest. record {
    found = time;
    is = worst-is c t (carriers_of_frames c frames) 1 worst is time longest;
    le = omega arith;
  };
  ranked_in = λ s r time lt. absurd (omega arith);
}

met-lesser : (c : Parts) (t : ℕ) (frames : List ℕ) (s r : ℕ) (least worst : Option ℕ) → ((time : ℕ) → least ≡ Some time → IsBound c t frames time)
    → s < length c.sporadic → rank c frames s ≡ Some r → IsWorst c t (carriers_of_sporadic s) r worst
    → (time : ℕ) → lesser least worst ≡ Some time → IsBound c t frames time
met-lesser c t frames s r (Some a) (Some b) met lt rank_is is time e =
    let same : min a b ≡ time = cc in
    elim (cases_lt a b) [
      | inl less ↦ met time (ap Some (let is : a ≡ time = omega arith in is))
      | inr more ↦ subst (IsBound c t frames) (let is : b ≡ time = omega arith in is) (ranked s r lt rank_is is)
    ]
met-lesser c t frames s r (Some a) None met lt rank_is is time e = met time e
met-lesser c t frames s r None (Some b) met lt rank_is is time e =
    let same : b ≡ time = cc in subst (IsBound c t frames) same (ranked s r lt rank_is is)
met-lesser c t frames s r None None met lt rank_is is time e = absurd (none-some time e)

-- one more sporadic frame, in which one of the frames has a rank, or none has
pub least-ranked : (c : Parts) (t : ℕ) (frames : List ℕ) (s r : ℕ) (least worst : Option ℕ) → IsLeastOf c t frames s least
    → s < length c.sporadic → rank c frames s ≡ Some r → IsWorst c t (carriers_of_sporadic s) r worst
    → IsLeastOf c t frames (s + 1) (lesser least worst)
least-ranked c t frames s r least worst former lt rank_is is = record {
  met = met-lesser c t frames s r least worst former.met lt rank_is is;
  sure_in = λ time longest. lesser-left least worst time (former.sure_in time longest);
  ranked_in = λ i x time i_lt x_is longest. elim (cases_lt i s) [
    | inl earlier ↦ lesser-left least worst time (former.ranked_in i x time earlier x_is longest)
    | inr last ↦
        let here : i ≡ s = omega arith in
        let rank_here : rank c frames s ≡ Some x = subst (λ (y : ℕ). rank c frames y ≡ Some x) here x_is in
        let both : Some r ≡ Some x = sym rank_is ∙ rank_here in
        let x_same : x ≡ r = cc in
        let moved : IsLongestWait c t (carriers_of_sporadic s) r time =
        subst (λ (y : ℕ). IsLongestWait c t (carriers_of_sporadic s) y time) x_same
        (subst (λ (y : ℕ). IsLongestWait c t (carriers_of_sporadic y) x time) here longest) in
        lesser-right least worst time (worst-is c t (carriers_of_sporadic s) r worst is time moved)
  ];
}

pub least-unranked : (c : Parts) (t : ℕ) (frames : List ℕ) (s : ℕ) (least : Option ℕ) → IsLeastOf c t frames s least
    → rank c frames s ≡ None → IsLeastOf c t frames (s + 1) least
least-unranked c t frames s least former none = record {
  met = former.met;
  sure_in = former.sure_in;
  ranked_in = λ i x time i_lt x_is longest. elim (cases_lt i s) [
    | inl earlier ↦ former.ranked_in i x time earlier x_is longest
    | inr last ↦
        let here : i ≡ s = omega arith in
        absurd (none-some x (sym none ∙ subst (λ (y : ℕ). rank c frames y ≡ Some x) here x_is))
  ];
}

bound-within : (c : Parts) (t : ℕ) (frames : List ℕ) (many : ℕ) (least : Option ℕ) → IsLeastOf c t frames many least → length c.sporadic ≤ many
    → (time : ℕ) → IsBound c t frames time → IsWithin least time
bound-within c t frames many least is all time (sure longest) = is.sure_in time longest
bound-within c t frames many least is all time (ranked s r lt rank_is longest) = is.ranked_in s r time (omega arith) rank_is longest

pub least-whole : (c : Parts) (t : ℕ) (frames : List ℕ) (many : ℕ) (least : Option ℕ) → IsLeastOf c t frames many least → length c.sporadic ≤ many
    → IsLeastBound c t frames least
least-whole c t frames many (Some found) is all = (
  is.met found refl,
  λ other bound.
      let within = bound-within c t frames many (Some found) is all other bound in
      let same : found ≡ within.found = (let e = within.is in cc) in
      let le = within.le in
      omega arith,
)
least-whole c t frames many None is all = λ other bound.
    let within = bound-within c t frames many None is all other bound in
    none-some within.found within.is
