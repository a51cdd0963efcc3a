-- A node has ranges exactly if some block of it is held; so marks stay sound where the same nodes hold something. And what a call that moves no pin has
-- to keep of a store. Assumes nothing.
use Prim.Native.Nat.{ℕ, zero, suc, ◌≤◌, ◌<◌, max}
use mathlib.Core.Bool.{Bool, true, false, ◌||◌, true≢false, false≢true}
use mathlib.Core.Path.{◌≡◌, refl, sym, ap, ◌∙◌}
use mathlib.Core.Logic.{◌⊎◌, inl, inr}
use mathlib.Core.List.{List, [], ◌∷◌}
use native.Mathlib.Omega.{arith}
use native.Mathlib.Nat.{le_refl}
use native.Mathlib.Decide.{ℕ_discrete}
use lib.ListN.{length, set, length-set}
use lib.Seq.{get_or-set_other}
use lib.Dec.{eqb}
use borrow.Author.Tests.{eqb-true, eq-eqb}
use Rattle.model.specs.declared.Span.{Span}
use Rattle.model.specs.Sizes.{store_records, max_stamp}
use Rattle.model.specs.State.{Tree, Range, at}
use Rattle.model.specs.Store.{Store, total, on_node}
use Rattle.model.specs.Pins.{pinned_in}
use Rattle.model.specs.Touch.{mark_read}
use Rattle.model.specs.Refusals.{SpanIn}
use Rattle.theory_sound.specs.Facts.{All}
use Rattle.theory_sound.specs.StoreSound.{RangesSound, MarksSound, StoreSound}
use Rattle.theory_bring.proofs.Facts.{Steady, steady-capacity, steady-policy, steady-entries, steady-pinned}
use Rattle.theory_touch.proofs.Bools.{or_right}
use Rattle.model.specs.Blocks.{Filled, In, Holds}

holds-node : (rs : List Range) (v o : ℕ) → Holds rs v o → on_node v rs ≡ true
unfolding Holds on_node
holds-node [] v o h = absurd h
holds-node (r ∷ rs) v o (inl i) = rw (eq-eqb r.node v i.node)
holds-node (r ∷ rs) v o (inr h) = or_right (eqb r.node v) (on_node v rs) (holds-node rs v o h)

node-holds : (rs : List Range) (v : ℕ) → All Filled rs → on_node v rs ≡ true → (o : ℕ) × Holds rs v o
unfolding All Holds on_node
node-holds [] v k e = absurd (false≢true e)
node-holds (r ∷ rs) v k e = go (eqb r.node v) refl e (node-holds rs v k.1)
  where
    go : (b : Bool) → eqb r.node v ≡ b → (b || on_node v rs) ≡ true → (on_node v rs ≡ true → (o : ℕ) × Holds rs v o)
        → (o : ℕ) × (In v o r ⊎ Holds rs v o)
    go true p q ih = (r.start, inl (record { node = eqb-true r.node v p; low = le_refl r.start; high = k.0 }))
    go false p q ih = let h = ih q in (h.0, inr h.1)

-- a node without ranges among qs has none among rs, where qs holds what rs holds of it
pub no_node : (rs qs : List Range) (v : ℕ) → All Filled rs → ((o : ℕ) → Holds rs v o → Holds qs v o) → on_node v qs ≡ false → on_node v rs ≡ false
no_node rs qs v k f e = go (on_node v rs) refl
  where
    go : (b : Bool) → on_node v rs ≡ b → b ≡ false
    go true p = let h = node-holds rs v k p in absurd (true≢false (sym (holds-node qs v h.0 (f h.0 h.1)) ∙ e))
    go false p = refl

set-most : (ms : List ℕ) (n m : ℕ) → at (set ms n m) n ≤ m
set-most [] n m = omega arith
set-most (k ∷ ms) zero m = le_refl m
set-most (k ∷ ms) (suc n) m = set-most ms n m

module _ {t : Tree} where
  pub marks_carry : {rs qs : List Range} {ms : List ℕ} → ((v : ℕ) → on_node v qs ≡ false → on_node v rs ≡ false) → MarksSound t rs ms → MarksSound t qs ms
  marks_carry f h = record { long = h.long; none = λ v l o. h.none v l (f v o); within = h.within }

  pub read-marks : {rs : List Range} {sp : Span} {ms : List ℕ} (counted : Bool) → SpanIn t sp → on_node sp.node rs ≡ true → MarksSound t rs ms
      → MarksSound t rs (mark_read counted sp ms)
  read-marks false s e h = h
  read-marks {rs} {sp} {ms} true s e h =
      record {
        long = length-set ms n m ∙ h.long;
        none = λ v l o. get_or-set_other ms n v m 0 (λ q. true≢false (sym e ∙ ap (λ (w : ℕ). on_node w rs) (sym q) ∙ o)) ∙ h.none v l o;
        within = λ v l. go v l (ℕ_discrete v n);
      }
    where
      n : ℕ
      n = sp.node

      m : ℕ
      m = max (at ms sp.node) sp.end

      go : (v : ℕ) → v < t.nodes → Dec (v ≡ n) → at (set ms n m) v ≤ at t.len v
      go v l (yes q) = rw q (omega (arith, set-most ms n m, h.within n s.node, s.ends))
      go v l (no d) = rw (get_or-set_other ms n v m 0 d) (h.within v l)

-- ---- a call that moves no pin

pub steady-sound : {t : Tree} {next later : ℕ} {x y : Store} → StoreSound t next x → Steady x y → y.book.records ≡ length y.ranges → length y.ranges ≤ store_records → y.book.stamp ≤ max_stamp
    → RangesSound t later y.book.stamp y.ranges → y.book.held ≡ total y.ranges → y.book.held ≤ x.book.held → MarksSound t y.ranges y.marks
    → StoreSound t later y
steady-sound h s counted few stamp ranges held less marks =
    record {
      capacity = rw (steady-capacity s) h.capacity;
      policy = rw (steady-policy s) h.policy;
      records = counted;
      few = few;
      stamp = stamp;
      ranges = ranges;
      held = held;
      held_none = λ e. omega (arith, h.held_none (sym (steady-capacity s) ∙ e));
      entries = steady-entries s ∙ h.entries ∙ ap length (sym s.pins);
      few_pins = rw s.pins h.few_pins;
      pins = rw s.pins h.pins;
      pinned = steady-pinned s ∙ h.pinned ∙ ap pinned_in (sym s.pins);
      pinned_most = rw (steady-pinned s) h.pinned_most;
      marks = marks;
    }
