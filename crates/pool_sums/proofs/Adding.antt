-- Adding place after place: where what is to be added passes nowhere, there is room at the first place, and what is left passes nowhere once that is
-- added, since the places differ. Assumes nothing.
use Prim.Native.Nat.{ℕ, zero, suc, ◌+◌, ◌≤◌, ◌<◌}
use mathlib.Core.Path.{◌≡◌, refl, sym, ap, ◌∙◌}
use mathlib.Core.Bool.{Bool, true, false, ◌||◌, true≢false, false≢true}
use mathlib.Core.Logic.{◌≢◌}
use mathlib.Core.List.{List, [], ◌∷◌}
use native.Mathlib.Omega.{arith}
use lib.ListN.{set}
use lib.Seq.{get_or-set_other}
use lib.Dec.{ltb}
use borrow.Author.Tests.{ltb-false}
use Rattle.model.specs.State.{at}
use Rattle.model_sums.specs.Sums.{More, more, add, passes, max_sum, brought_at, gave_at}
use Rattle.theory_sums.proofs.Places.{NotAt}
use Rattle.pool_sums.specs.declared.OutSums.{OutSums}
use Rattle.pool_sums.specs.Amounts.{out_more, bring_more}

-- ---- a test, place after place

or_here : (a b : Bool) → a ≡ true → true ≡ (a || b)
or_here true b e = refl
or_here false b e = absurd (false≢true e)

or_next : (a b : Bool) → a ≡ false → b ≡ (a || b)
or_next true b e = absurd (true≢false e)
or_next false b e = refl

or_none : (a : Bool) → a ≡ (a || false)
or_none true = refl
or_none false = refl

or_first : (a b : Bool) → (a || b) ≡ false → a ≡ false
or_first true b e = e
or_first false b e = refl

or_second : (a b : Bool) → (a || b) ≡ false → b ≡ false
or_second true b e = absurd (true≢false e)
or_second false b e = e

module _ (p n : ℕ) (ms : List More) (v : List ℕ) where
  -- it passes here, or it is left to the rest
  pub pass_here : {r : Bool} → r ≡ ltb max_sum (at v p + n) → r ≡ true → true ≡ passes (more p n ∷ ms) v
  unfolding passes
  pass_here e t = or_here _ (passes ms v) (sym e ∙ t)

  pub pass_next : {r : Bool} → r ≡ ltb max_sum (at v p + n) → r ≡ false → passes ms v ≡ passes (more p n ∷ ms) v
  unfolding passes
  pass_next e t = or_next _ (passes ms v) (sym e ∙ t)

  pub room-first : passes (more p n ∷ ms) v ≡ false → at v p + n ≤ max_sum
  unfolding passes
  room-first e = ltb-false max_sum (at v p + n) (or_first _ (passes ms v) e)

  room-rest : passes (more p n ∷ ms) v ≡ false → passes ms v ≡ false
  unfolding passes
  room-rest e = or_second (ltb max_sum (at v p + n)) (passes ms v) e

-- it is the last
pub pass_last : (p n : ℕ) (v : List ℕ) {r : Bool} → r ≡ ltb max_sum (at v p + n) → r ≡ passes (more p n ∷ []) v
unfolding passes
pass_last p n v e = e ∙ or_none (ltb max_sum (at v p + n))

-- ---- adding, place after place

pass_other : (p x : ℕ) (ms : List More) (v : List ℕ) → NotAt p ms → passes ms (set v p x) ≡ passes ms v
unfolding passes
pass_other p x [] v h = refl
pass_other p x (m ∷ ms) v h =
    ap (λ (k : ℕ). ltb max_sum (k + m.amount) || passes ms (set v p x)) (get_or-set_other v p m.place x 0 (λ e. h.0 (sym e)))
    ∙ ap (λ (b : Bool). ltb max_sum (at v m.place + m.amount) || b) (pass_other p x ms v h.1)

pub add-one : (p n : ℕ) (v : List ℕ) → set v p (at v p + n) ≡ add (more p n ∷ []) v
unfolding add
add-one p n v = refl

pub room_next : (p n : ℕ) (ms : List More) (v : List ℕ) {w : List ℕ} → passes (more p n ∷ ms) v ≡ false → w ≡ add (more p n ∷ []) v → NotAt p ms
    → passes ms w ≡ false
room_next p n ms v e a h = ap (passes ms) (a ∙ sym (add-one p n v)) ∙ pass_other p (at v p + n) ms v h ∙ room-rest p n ms v e

pub added_next : (p n : ℕ) (ms : List More) (v : List ℕ) {w x : List ℕ} → w ≡ add (more p n ∷ []) v → x ≡ add ms w → x ≡ add (more p n ∷ ms) v
unfolding add
added_next p n ms v a b = b ∙ ap (add ms) a

-- ---- places

pub gave_low : (c s : ℕ) → s < 8 → gave_at c s < 40
gave_low zero s l = omega arith
gave_low (suc c) s l = omega arith

pub gave_high : (c s : ℕ) → 8 + s ≤ gave_at c s
gave_high zero s = omega arith
gave_high (suc c) s = omega arith

-- ---- three places

module _ (p q r a b d : ℕ) (v : List ℕ) where
  pub pass_first : {x : Bool} → x ≡ ltb max_sum (at v p + a) → x ≡ true → true ≡ passes (more p a ∷ more q b ∷ more r d ∷ []) v
  pass_first e t = pass_here p a (more q b ∷ more r d ∷ []) v e t

  module _ {x y : Bool} (e : x ≡ ltb max_sum (at v p + a)) (n : x ≡ false) (f : y ≡ ltb max_sum (at v q + b)) where
    pub pass_second : y ≡ true → true ≡ passes (more p a ∷ more q b ∷ more r d ∷ []) v
    pass_second t = pass_here q b (more r d ∷ []) v f t ∙ pass_next p a (more q b ∷ more r d ∷ []) v e n

    pub pass_third : {z : Bool} → y ≡ false → z ≡ ltb max_sum (at v r + d) → z ≡ passes (more p a ∷ more q b ∷ more r d ∷ []) v
    pass_third m g = pass_last r d v g ∙ pass_next q b (more r d ∷ []) v f m ∙ pass_next p a (more q b ∷ more r d ∷ []) v e n

module _ (p q r a b d : ℕ) (v w : List ℕ) where
  pub second-room : passes (more p a ∷ more q b ∷ more r d ∷ []) v ≡ false → w ≡ add (more p a ∷ []) v → p ≢ q → p ≢ r → at w q + b ≤ max_sum
  second-room e f n m = room-first q b (more r d ∷ []) w (room_next p a (more q b ∷ more r d ∷ []) v e f (n, (m, tt)))

  module _ (x : List ℕ) where
    pub third_room : passes (more p a ∷ more q b ∷ more r d ∷ []) v ≡ false → w ≡ add (more p a ∷ []) v → x ≡ add (more q b ∷ []) w → p ≢ q → p ≢ r → q ≢ r
        → at x r + d ≤ max_sum
    third_room e f g n m k =
        room-first r d [] x (room_next q b (more r d ∷ []) w (room_next p a (more q b ∷ more r d ∷ []) v e f (n, (m, tt))) g (k, tt))

    pub three_added : (y : List ℕ) → w ≡ add (more p a ∷ []) v → x ≡ add (more q b ∷ []) w → y ≡ add (more r d ∷ []) x
        → y ≡ add (more p a ∷ more q b ∷ more r d ∷ []) v
    three_added y f g h =
        added_next p a (more q b ∷ more r d ∷ []) v f (added_next q b (more r d ∷ []) w g h)

-- ---- a bring-in: its gaps' blocks at the store's first place, then the given-out spans

module _ (capacity s blocks : ℕ) (o : OutSums) (v : List ℕ) where
  first-is : ◌≡◌ {A = ℕ} s (brought_at s)
  first-is = omega arith

  bring-from : (ms : List More) → passes (more s blocks ∷ ms) v ≡ passes (more (brought_at s) blocks ∷ ms) v
  bring-from ms = ap (λ (k : ℕ). passes (more k blocks ∷ ms) v) first-is

  pub bring-here : {r : Bool} → r ≡ ltb max_sum (at v s + blocks) → r ≡ true → true ≡ passes (bring_more capacity s blocks o) v
  bring-here e t = pass_here s blocks (out_more (gave_at capacity s) s o) v e t ∙ bring-from (out_more (gave_at capacity s) s o)

  pub bring-next : {r : Bool} (place : ℕ) {t : Bool} → r ≡ ltb max_sum (at v s + blocks) → r ≡ false → place ≡ gave_at capacity s → t ≡ passes
      (out_more place s o) v
      → t ≡ passes (bring_more capacity s blocks o) v
  bring-next place e f g h =
      h
      ∙ ap (λ (k : ℕ). passes (out_more k s o) v) g
      ∙ pass_next s blocks (out_more (gave_at capacity s) s o) v e f
      ∙ bring-from (out_more (gave_at capacity s) s o)

  pub bring-first : passes (bring_more capacity s blocks o) v ≡ false → at v s + blocks ≤ max_sum
  bring-first e = room-first s blocks (out_more (gave_at capacity s) s o) v (bring-from (out_more (gave_at capacity s) s o) ∙ e)

  pub bring-rest : (place : ℕ) {w : List ℕ} → s < 8 → place ≡ gave_at capacity s → passes (bring_more capacity s blocks o) v ≡ false → w ≡ add
      (more s blocks ∷ []) v
      → passes (out_more place s o) w ≡ false
  bring-rest place {w} l g e f =
      ap (λ (k : ℕ). passes (out_more k s o) w) g
      ∙ room_next s blocks (out_more (gave_at capacity s) s o) v (bring-from (out_more (gave_at capacity s) s o) ∙ e) f
      (λ z. omega (arith, gave_high capacity s), (λ z. omega arith, (λ z. omega arith, tt)))

  pub bring-added : (place : ℕ) {w y : List ℕ} → place ≡ gave_at capacity s → w ≡ add (more s blocks ∷ []) v → y ≡ add (out_more place s o) w
      → y ≡ add (bring_more capacity s blocks o) v
  bring-added place {w} {y} g f h =
      added_next s blocks (out_more (gave_at capacity s) s o) v f (h ∙ ap (λ (k : ℕ). add (out_more k s o) w) g)
      ∙ ap (λ (k : ℕ). add (more k blocks ∷ out_more (gave_at capacity s) s o) v) first-is
