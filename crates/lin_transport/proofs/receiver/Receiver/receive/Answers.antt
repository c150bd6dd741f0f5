use Rattle.std.proofs.Common.{◌≡◌, ℕ, List, None, false, slice_index, option_map, sym, ◌∙◌, subst, arith}
use Rattle.std.specs.Prelude.{Option, ◌/◌, ◌&&◌, eqb, vec_capacity}
use Rattle.std.proofs.lemmas.Bool.{false≢true}
use Rattle.lin_transport.specs.Transport.{functional, Ear, Heard}
use Rattle.lin_transport.specs.Receiver.{Part, Reception, current, Holds, HasHeard, Reads}
use Rattle.lin_transport.proofs.Ears.{To, is-all, own-if}
use Rattle.lin_transport.proofs.Hears.{reception, hears-single, hears-begun, hears-continued, hears-to-all}
use Rattle.lin_transport.proofs.Ears.To.{all, own}
use Rattle.lin_transport.proofs.receiver.Receiver.receive.Goals as goal
use Rattle.lin_transport.proofs.receiver.Receiver.receive.Goals.{else-not-to_all-via-then-not-to_all+else-frame-self, else-not-to_all-via-else-not-to_all}

pub returns-then-frame-lt-FIRST_FRAME-clause-reads :
    goal.returns-then-frame-lt-FIRST_FRAME-clause-reads
returns-then-frame-lt-FIRST_FRAME-clause-reads c =
    let f : List ℕ = c.args.frame.now
    in let e : Ear = record { nad = c.self.inside.nad; all = c.self.inside.functional }
    in let given : Option (List ℕ) = option_map (λ v. v.items) c.in_ok-message.message
    in let s : ℕ = vec_capacity c.self.inside.room / 6
    in let t : ℕ = vec_capacity c.single.new.room / 6
    in let P : Reception → Type 0 = λ r. c.hears_as_to_all-to_all.result ≡ (r.all && eqb (slice_index f 0) functional) → (heard : List Heard) → HasHeard r heard → Reads r f heard given (reception e None t)
    in subst P c.self.view_is (λ test heard h.
    let to : To e (slice_index f 0)
    = elim c.else-not-to_all.branch [
      | else-not-to_all-via-then-not-to_all+else-frame-self w ↦ own w.if-frame-self.false (sym test ∙ w.if-not-to_all.true)
      | else-not-to_all-via-else-not-to_all w ↦ all (is-all e (slice_index f 0) (sym test ∙ w.if-not-to_all.false))
    ]
    in hears-single e c.self.inside.partial s t f heard given to (omega arith) c.in_ok-message.ensures.reads) c.hears_as_to_all-to_all.ensures

pub returns-then-to_all-clause-reads : goal.returns-then-to_all-clause-reads
returns-then-to_all-clause-reads c =
    let f : List ℕ = c.args.frame.now
    in let e : Ear = record { nad = c.self.inside.nad; all = c.self.inside.functional }
    in let s : ℕ = vec_capacity c.self.inside.room / 6
    in let P : Reception → Type 0 = λ r. c.hears_as_to_all-to_all.result ≡ (r.all && eqb (slice_index f 0) functional) → (heard : List Heard) → HasHeard r heard → Reads r f heard None (reception e None s)
    in subst P c.self.view_is (λ test heard h.
    hears-to-all e c.self.inside.partial s s f heard (omega arith) (is-all e (slice_index f 0) (sym test ∙ c.if-to_all.true)) c.if-frame-lt-FIRST_FRAME.false h) c.hears_as_to_all-to_all.ensures

pub returns-then-frame-lt-CONSECUTIVE_FRAME-clause-reads :
    goal.returns-then-frame-lt-CONSECUTIVE_FRAME-clause-reads
returns-then-frame-lt-CONSECUTIVE_FRAME-clause-reads c =
    let f : List ℕ = c.args.frame.now
    in let e : Ear = record { nad = c.self.inside.nad; all = c.self.inside.functional }
    in let new : Option Part = c.in_ok-self-inside.field-0
    in let s : ℕ = vec_capacity c.self.inside.room / 6
    in let P : Reception → Type 0 = λ r. c.hears_as_to_all-to_all.result ≡ (r.all && eqb (slice_index f 0) functional) → (heard : List Heard) → HasHeard r heard → Reads r f heard None (reception e new s)
    in subst P c.self.view_is (λ test heard h.
    let is : slice_index f 0 ≡ e.nad = elim c.else-not-to_all.branch [
      | else-not-to_all-via-then-not-to_all+else-frame-self w ↦ w.if-frame-self.false
      | else-not-to_all-via-else-not-to_all w ↦ absurd (false≢true (sym c.if-to_all.false ∙ w.if-not-to_all.false))
    ]
    in hears-begun e c.self.inside.partial new s s f heard (own-if e (slice_index f 0) is (sym test ∙ c.if-to_all.false)) is (omega arith) c.in_ok-self-inside.ensures) c.hears_as_to_all-to_all.ensures

pub returns-clause-reads : goal.returns-clause-reads
returns-clause-reads c =
    let f : List ℕ = c.args.frame.now
    in let e : Ear = record { nad = c.self.inside.nad; all = c.self.inside.functional }
    in let given : Option (List ℕ) = option_map (λ v. v.items) c.continued-partial.result.1
    in let new : Option Part = c.continued-partial.result.0
    in let s : ℕ = vec_capacity c.self.inside.room / 6
    in let P : Reception → Type 0 = λ r. c.hears_as_to_all-to_all.result ≡ (r.all && eqb (slice_index f 0) functional) → (heard : List Heard) → HasHeard r heard → Reads r f heard given (reception e new s)
    in subst P c.self.view_is (λ test heard h.
    let is : slice_index f 0 ≡ e.nad = elim c.else-not-to_all.branch [
      | else-not-to_all-via-then-not-to_all+else-frame-self w ↦ w.if-frame-self.false
      | else-not-to_all-via-else-not-to_all w ↦ absurd (false≢true (sym c.if-to_all.false ∙ w.if-not-to_all.false))
    ]
    in let H : Option Part → Type 0 = λ p. Holds e p (current heard)
    in let no : (e.all && eqb (slice_index f 0) functional) ≡ false = sym test ∙ c.if-to_all.false
    in hears-continued e c.self.inside.partial new s s f heard given (own is no) (omega arith)
    (c.continued-partial.ensures e (current heard) (own-if e (slice_index f 0) is no) is (subst H (sym c.take.ensures.value) h))) c.hears_as_to_all-to_all.ensures
