-- What a node's port took and put since.
use Rattle.std.proofs.Common.{◌≡◌, ◌≤◌, ◌+◌, inl, inr, ℕ, List, [], ◌∷◌, ◌++◌, map, length, length-append, MatchBool, Bool, true, false, cond, Option, Some, None, refl, sym, ap, ◌∙◌, append_assoc, append-nil, arith}
use Rattle.std.proofs.lemmas.List.{map-append}
use Rattle.std.proofs.lemmas.List.Sums.{sum_by-append}
use Rattle.lin_threads.specs.Ports.{by_node_port, node_put, node_ring, node_took, node_wiring, ring_size}
use Rattle.std.specs.Global.{Vec}
use Rattle.std.specs.declared.thread.PromisedHandle.{PromisedHandle}
use Rattle.lin_threads.specs.Settled.{SameReceipt}
use Rattle.lin_threads.specs.declared.ports.node_port.NodePort.{NodePort}
use Rattle.lin_threads.specs.declared.ports.Receipt.{Receipt}
use Rattle.lin_threads.specs.declared.ports.steps.NodeStep.{NodeStep}
use Rattle.lin_threads.specs.declared.ports.steps.Note.{Note}
use Rattle.lin_threads.specs.Nodes.{AreStepsIn, FollowsList, IsByList, PutsUnlessFull, dues, is_due_note, node_lists, step_in}
use Rattle.lin_threads.specs.Started.{all_lists, list_lent}
use Rattle.lin_threads.specs.declared.starting.Finished.{Finished}
use Rattle.lin_threads.specs.declared.starting.Keeps.{Keeps}
use Rattle.lin_threads.specs.States.{IsFurther, PortState, node_state, receipt_state}
use Rattle.lin_threads.proofs.RoundLemmas.{prefix_same}
use Rattle.lin_threads.proofs.StateLemmas.{further_same, further_trans}

-- the same port fills in the same number
same_number : (p q : NodePort) → node_wiring q ≡ node_wiring p → q.number ≡ p.number
same_number p q h = (let port = ap (λ w. w.port) h in cc)

same_ring : (p q : NodePort) → node_wiring q ≡ node_wiring p → node_ring q ≡ node_ring p
same_ring p q h = ap (λ w. ring_size w.steps) h

-- a port that was tried before, and nothing put into it
pub put_once : (p q r : NodePort) (step : NodeStep) → node_wiring q ≡ node_wiring p → node_put q ≡ node_put p → node_put r ≡ node_put q ++ by_node_port q step ∷ [] → PutsUnlessFull step p r
put_once p q r step same put more = inl (more ∙ rw (put, same_number p q same) refl)

pub put_none : (p q r : NodePort) (step : NodeStep) → node_wiring q ≡ node_wiring p → node_put q ≡ node_put p → node_put r ≡ node_put q → node_ring q ≤ length (node_put q)
    → PutsUnlessFull step p r
put_none p q r step same put none full = inr (none ∙ put, rw (← put, ← (same_ring p q same)) full)

more_steps : (leave : List ℕ) (steps : List NodeStep) (from count : ℕ) → AreStepsIn leave from count steps → AreStepsIn leave from (count + 1) (steps ++ step_in leave count ∷ [])
more_steps leave [] from count h = (count, h, refl, omega arith)
more_steps leave (s ∷ steps) from count h = (h.0, h.1, h.2, more_steps leave steps (h.0 + 1) count h.3)

later_steps : (leave : List ℕ) (steps : List NodeStep) (from count later : ℕ) → count ≤ later → AreStepsIn leave from count steps → AreStepsIn leave from later steps
later_steps leave [] from count later le h = omega (arith, h, le)
later_steps leave (s ∷ steps) from count later le h = (h.0, h.1, h.2, later_steps leave steps (h.0 + 1) count later le h.3)

pub follows_refl : (leave : List ℕ) (port : NodePort) → FollowsList leave 0 port (node_state port)
follows_refl leave port = record {
  notes = [];
  took = sym (append-nil (node_took port));
  due = refl;
  steps = [];
  put = sym (append-nil (node_put port));
  listed = omega arith;
  each = inl refl;
}

dues-more : (notes : List Note) (n : Note) → dues (notes ++ n ∷ []) ≡ dues notes + dues (n ∷ [])
dues-more notes n = sum_by-append (λ m. cond (is_due_note m) 1 0) notes (n ∷ [])

pub due_at_most : (n : Note) → dues (n ∷ []) ≤ 1
due_at_most n = due_or_not (is_due_note n)
  where
    due_or_not : (b : Bool) → 0 + cond b 1 0 ≤ 1
    due_or_not true = omega arith
    due_or_not false = omega arith

-- the same lists
pub follows_same : (leave : List ℕ) (count : ℕ) (port : NodePort) (a b : PortState) → b.put ≡ a.put → b.took ≡ a.took → FollowsList leave count port a → FollowsList leave count port b
follows_same leave count port a b put took h = record {
  notes = h.notes;
  took = took ∙ h.took;
  due = h.due;
  steps = h.steps;
  put = put ∙ h.put;
  listed = h.listed;
  each = rw put h.each;
}

-- what was put for a note
abbrev pub PutsFor : Bool → NodeStep → NodePort → NodePort → Type 0
PutsFor due step p q = MatchBool due (PutsUnlessFull step p q) (node_put q ≡ node_put p)

-- one more note was taken, and for a due its step was put, or nothing
pub follows_note : (leave : List ℕ) (count : ℕ) (port p q r : NodePort) (n : Note) (due : Bool) → is_due_note n ≡ due → node_wiring q ≡ node_wiring port → node_put q ≡ node_put p
    → node_took q ≡ node_took p ++ n ∷ [] → PutsFor due (step_in leave count) q r → node_took r ≡ node_took q → FollowsList leave count port (node_state p)
    → FollowsList leave (count + dues (n ∷ [])) port (node_state r)
follows_note leave count port p q r n false is same kept took put after h =
    let none : dues (n ∷ []) ≡ 0 = rw is refl in record {
      notes = h.notes ++ n ∷ [];
      took = after ∙ took ∙ rw h.took (append_assoc (node_took port) h.notes (n ∷ []));
      due = dues-more h.notes n ∙ rw h.due refl;
      steps = h.steps;
      put = put ∙ kept ∙ h.put;
      listed = later_steps leave h.steps 0 count (count + dues (n ∷ [])) (omega arith) h.listed;
      each = elim h.each [
        | inl e ↦ inl (omega arith)
        | inr full ↦ inr (rw (put, kept) full)
      ];
    }
follows_note leave count port p q r n true is same kept took (inl put) after h =
    let one : dues (n ∷ []) ≡ 1 = rw is refl in
    let longer = length-append (node_put q) (by_node_port q (step_in leave count) ∷ []) in
    let more = length-append h.steps (step_in leave count ∷ []) in record {
      notes = h.notes ++ n ∷ [];
      took = after ∙ took ∙ rw h.took (append_assoc (node_took port) h.notes (n ∷ []));
      due = dues-more h.notes n ∙ rw h.due refl;
      steps = h.steps ++ step_in leave count ∷ [];
      put = put ∙ rw (kept, h.put, same_number port q same, map-append (by_node_port port) h.steps (step_in leave count ∷ []))
          (append_assoc (node_put port) (map (by_node_port port) h.steps) (by_node_port port (step_in leave count) ∷ []));
      listed = rw one (more_steps leave h.steps 0 count h.listed);
      each = elim h.each [
        | inl e ↦ inl (omega arith)
        | inr full ↦ inr (rw put (let before = ap length kept in omega arith))
      ];
    }
follows_note leave count port p q r n true is same kept took (inr put) after h = record {
  notes = h.notes ++ n ∷ [];
  took = after ∙ took ∙ rw h.took (append_assoc (node_took port) h.notes (n ∷ []));
  due = dues-more h.notes n ∙ rw h.due refl;
  steps = h.steps;
  put = put.0 ∙ kept ∙ h.put;
  listed = later_steps leave h.steps 0 count (count + dues (n ∷ [])) (omega arith) h.listed;
  each = inr (rw (put.0, ← (same_ring port q same)) put.1);
}

-- a port into which a step was put, or nothing
pub further_put : (a : PortState) (due : Bool) (step : NodeStep) (p q : NodePort) → IsFurther a (node_state p) → node_wiring q ≡ node_wiring p → PutsFor due step p q → node_took q ≡ node_took p
    → IsFurther a (node_state q)
further_put a false step p q h wiring put took = further_trans a (node_state p) (node_state q) h (further_same (node_state p) (node_state q) wiring put took)
further_put a true step p q h wiring (inl put) took =
    further_trans a (node_state p) (node_state q) h
    (record { wiring = wiring; put = (by_node_port p step ∷ [], sym put); took = prefix_same (node_took p) (node_took q) took })
further_put a true step p q h wiring (inr put) took = further_trans a (node_state p) (node_state q) h (further_same (node_state p) (node_state q) wiring put.0 took)

-- a receipt that was settled
pub by_list_kept : (own : Option (NodePort × List ℕ)) (r s : Receipt) → IsByList own r → SameReceipt r s → IsByList own s
by_list_kept None r s h same = tt
by_list_kept (Some own) r s h same = (h.0, follows_same own.1 h.0 own.0 (receipt_state r) (receipt_state s) same.put same.took h.1)

-- one more node
pub node_lists-more : (nodes : List NodePort) (leave : List (Vec ℕ)) (port : NodePort) (list : Vec ℕ) → length leave ≡ length nodes
    → node_lists (nodes ++ port ∷ []) (leave ++ list ∷ []) ≡ node_lists nodes leave ++ Some (port, list.items) ∷ []
node_lists-more [] [] port list e = refl
node_lists-more [] (l ∷ leave) port list e = absurd (omega (arith, e))
node_lists-more (p ∷ nodes) [] port list e = absurd (omega (arith, e))
node_lists-more (p ∷ nodes) (l ∷ leave) port list e = ap (λ xs. Some (p, l.items) ∷ xs) (node_lists-more nodes leave port list (omega (arith, e)))

pub all_lists-more : (handles : List (PromisedHandle Finished Keeps)) (handle : PromisedHandle Finished Keeps) (before : List (Option (NodePort × List ℕ))) (nodes : List NodePort) (leave : List (Vec ℕ))
    (port : NodePort) (list : Vec ℕ) → length leave ≡ length nodes → all_lists handles ≡ before ++ node_lists nodes leave → list_lent handle.promise ≡ Some (port, list.items)
    → all_lists (handles ++ handle ∷ []) ≡ before ++ node_lists (nodes ++ port ∷ []) (leave ++ list ∷ [])
all_lists-more handles handle before nodes leave port list e h is =
    map-append (λ (x : PromisedHandle Finished Keeps). list_lent x.promise) handles (handle ∷ [])
    ∙ rw (h, is, node_lists-more nodes leave port list e) (append_assoc before (node_lists nodes leave) (Some (port, list.items) ∷ []))
