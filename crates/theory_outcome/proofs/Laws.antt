-- A contract that is an equation with the definitions' outcome settles the call: a state has one set of columns, an answer's number and values have one
-- case, and the definitions' outcome is refused exactly where a condition holds. Assumes nothing.
use Prim.Native.Nat.{ℕ}
use mathlib.Core.Path.{◌≡◌, refl, sym, ap, ◌∙◌}
use mathlib.Core.List.{List}
use Rattle.model.specs.State.{State}
use Rattle.model.specs.Refusals.{Condition}
use Rattle.model.specs.Calls.{Outcome, Answer, refused, done}
use Rattle.theory_refuse.specs.Refused.{KeptWhenRefused}
use Rattle.shape_answer.specs.declared.Plain.{Plain}
use Rattle.shape_answer.specs.declared.Plain.TheVariants as PlainIs
use Rattle.shape_answer.specs.declared.Count.{Count}
use Rattle.shape_answer.specs.declared.Count.TheVariants as CountIs
use Rattle.shape_answer.specs.declared.Resolved.{Resolved}
use Rattle.shape_answer.specs.declared.Resolved.TheVariants as ResolvedIs
use Rattle.shape_answer.specs.declared.Inserted.{Inserted}
use Rattle.shape_answer.specs.declared.Inserted.TheVariants as InsertedIs
use Rattle.shape_answer.specs.declared.StoreInserted.{StoreInserted}
use Rattle.shape_answer.specs.declared.StoreInserted.TheVariants as StoreInsertedIs
use Rattle.shape_answer.specs.declared.StoreUsed.{StoreUsed}
use Rattle.shape_answer.specs.declared.StoreUsed.TheVariants as StoreUsedIs
use Rattle.shape_answer.specs.declared.StoreRemoved.{StoreRemoved}
use Rattle.shape_answer.specs.declared.StoreRemoved.TheVariants as StoreRemovedIs
use Rattle.shape_answer.specs.declared.StoreExpired.{StoreExpired}
use Rattle.shape_answer.specs.declared.StoreExpired.TheVariants as StoreExpiredIs
use Rattle.shape_answer.specs.declared.Looked.{Looked}
use Rattle.shape_answer.specs.declared.Looked.TheVariants as LookedIs
use Rattle.shape_answer.specs.Answers.{outcome, plain_of, count_of, resolved_of, inserted_of, store_inserted_of, store_used_of, store_removed_of, store_expired_of, looked_of}
use Rattle.theory_outcome.specs.Settled.{Pools, World, Left, state_in, Settled}

-- ---- a state's columns

pools_of : State → Pools
pools_of s =
    record {
      parent = s.tree.parent;
      depth = s.tree.depth;
      len = s.tree.len;
      run = s.tree.run;
      words = s.tree.words;
      node = s.ranges.node;
      start = s.ranges.start;
      end = s.ranges.end;
      id = s.ranges.id;
      stamp = s.ranges.stamp;
      touched = s.ranges.touched;
      write = s.ranges.write;
      pin_node = s.pins.node;
      pin_start = s.pins.start;
      pin_end = s.pins.end;
      pin_count = s.pins.count;
      marks = s.marks;
      bytes = s.bytes;
      books = s.books;
    }

world_of : {L : Type 0} → State → L → World L
world_of s l = record { pools = pools_of s; lists = l }

-- ---- the answers: one case for a number and values

abbrev Apart : {A B : Type 0} → (B → Answer A) → Type 0
Apart {A} {B} f = (a b : B) → f a ≡ f b → a ≡ b

-- an answer that is read back from its number and values
abbrev back : {A B : Type 0} → (ℕ → B) → (A → B) → Answer A → B
back refuse give (refused n) = refuse n
back refuse give (done v) = give v

apart : {A B : Type 0} (f : B → Answer A) (refuse : ℕ → B) (give : A → B) → ((b : B) → back refuse give (f b) ≡ b) → Apart f
apart f refuse give same a b e = sym (same a) ∙ ap (back refuse give) e ∙ same b

pub plain-one : Apart plain_of
plain-one = apart plain_of PlainIs.Refused (λ v. PlainIs.Done) same
  where
    same : (r : Plain) → back PlainIs.Refused (λ v. PlainIs.Done) (plain_of r) ≡ r
    same (PlainIs.Refused n) = refl
    same PlainIs.Done = refl

pub count-one : Apart count_of
count-one = apart count_of CountIs.Refused CountIs.Done same
  where
    same : (r : Count) → back CountIs.Refused CountIs.Done (count_of r) ≡ r
    same (CountIs.Refused n) = refl
    same (CountIs.Done v) = refl

pub resolved_one : Apart resolved_of
resolved_one = apart resolved_of ResolvedIs.Refused ResolvedIs.Done same
  where
    same : (r : Resolved) → back ResolvedIs.Refused ResolvedIs.Done (resolved_of r) ≡ r
    same (ResolvedIs.Refused n) = refl
    same (ResolvedIs.Done v) = refl

pub inserted_one : Apart inserted_of
inserted_one = apart inserted_of InsertedIs.Refused InsertedIs.Done same
  where
    same : (r : Inserted) → back InsertedIs.Refused InsertedIs.Done (inserted_of r) ≡ r
    same (InsertedIs.Refused n) = refl
    same (InsertedIs.Done v) = refl

pub store_inserted_one : Apart store_inserted_of
store_inserted_one = apart store_inserted_of StoreInsertedIs.Refused StoreInsertedIs.Done same
  where
    same : (r : StoreInserted) → back StoreInsertedIs.Refused StoreInsertedIs.Done (store_inserted_of r) ≡ r
    same (StoreInsertedIs.Refused n) = refl
    same (StoreInsertedIs.Done v) = refl

pub store_used-one : Apart store_used_of
store_used-one = apart store_used_of StoreUsedIs.Refused StoreUsedIs.Done same
  where
    same : (r : StoreUsed) → back StoreUsedIs.Refused StoreUsedIs.Done (store_used_of r) ≡ r
    same (StoreUsedIs.Refused n) = refl
    same (StoreUsedIs.Done v) = refl

pub store_removed_one : Apart store_removed_of
store_removed_one = apart store_removed_of StoreRemovedIs.Refused StoreRemovedIs.Done same
  where
    same : (r : StoreRemoved) → back StoreRemovedIs.Refused StoreRemovedIs.Done (store_removed_of r) ≡ r
    same (StoreRemovedIs.Refused n) = refl
    same (StoreRemovedIs.Done v) = refl

pub store_expired_one : Apart store_expired_of
store_expired_one = apart store_expired_of StoreExpiredIs.Refused StoreExpiredIs.Done same
  where
    same : (r : StoreExpired) → back StoreExpiredIs.Refused StoreExpiredIs.Done (store_expired_of r) ≡ r
    same (StoreExpiredIs.Refused n) = refl
    same (StoreExpiredIs.Done v) = refl

pub looked-one : Apart looked_of
looked-one = apart looked_of LookedIs.Refused LookedIs.Done same
  where
    same : (r : Looked) → back LookedIs.Refused LookedIs.Done (looked_of r) ≡ r
    same (LookedIs.Refused n) = refl
    same (LookedIs.Done a) = refl

-- ---- the contract

module _ {L A B : Type 0} (f : B → Answer A) (one : Apart f) where
  left_one : (a b : Left L B)
      → outcome (state_in a.world) a.world.lists (f a.answer) ≡ outcome (state_in b.world) b.world.lists (f b.answer)
      → a ≡ b
  unfolding world_of pools_of
  left_one a b e =
      let w : a.world ≡ b.world = ap (λ o. world_of o.state o.lists) e in
      let r : a.answer ≡ b.answer = one a.answer b.answer (ap (λ o. o.answer) e) in
      ap (λ z. left z a.answer) w ∙ ap (λ z. left b.world z) r
    where
      left : World L → B → Left L B
      left w r = record { world = w; answer = r }

  pub settled : (cs : List Condition) (lent : World L) (o : Outcome L A) → KeptWhenRefused cs (state_in lent) lent.lists o → Settled f cs lent o
  unfolding world_of pools_of
  settled cs lent o k =
      record {
        one = λ {a} {b} p q. left_one a b (p ∙ sym q);
        exactly =
            λ {a} p.
            record {
              when = λ h. ((k.refuses h).0, ap (λ z. z.answer) p ∙ (k.refuses h).1);
              only = λ n e. let g = k.keeps n (sym (ap (λ z. z.answer) p) ∙ e) in (g.holds, g.first);
              kept =
                  λ n e.
                  let g = k.keeps n (sym (ap (λ z. z.answer) p) ∙ e) in
                  let s : state_in a.world ≡ state_in lent = ap (λ z. z.state) p ∙ g.state in
                  let l : a.world.lists ≡ lent.lists = ap (λ z. z.lists) p ∙ g.lists in
                  same a.world lent s l;
            };
      }
    where
      same : (v w : World L) → state_in v ≡ state_in w → v.lists ≡ w.lists → v ≡ w
      same v w s l = ap (λ z. world_of z v.lists) s ∙ ap (λ z. world_of (state_in w) z) l
