-- The pins are looked at from the first on: what is to come says what all say. The records are looked at from the last on: the best so far is the first
-- of those from there.
use Rattle.std.specs.Option.{IfSome}
use Rattle.std.proofs.Common.{◌≡◌, refl, sym, ap, ◌∙◌, Bool, true, false, ◌||◌, not, List, Option, None, Some, ℕ, suc, ◌+◌, ◌-◌, ◌≤◌, ◌<◌, arith}
use native.Mathlib.Numerals.{add-one}
use Rattle.model.specs.declared.Span.{Span}
use Rattle.shape_state.specs.declared.PinsRef.{PinsRef}
use Rattle.model.specs.State.{Ranges, Pins, Range, at, range_at, pin_at}
use Rattle.model.specs.Store.{ranges, pins}
use Rattle.model.specs.Trim.{overlaps, is_pinned, no_range, nth, sooner, better, first}
use Rattle.theory_lay.proofs.Rows.{ranges-at}
use Rattle.rule_choose.specs.Choose.{overlapping, leads, counted, PinnedIs}

-- ---- the pins

pinned_suc : (p : Pins) (q : Range) (k m : ℕ) → is_pinned (pins p k (suc m)) q ≡ (overlaps q (pin_at p k) || is_pinned (pins p (k + 1) m) q)
unfolding is_pinned pins
pinned_suc p q k m = rw add-one

pinned-step : (p : Pins) (q : Range) (k m : ℕ) → k < m → is_pinned (pins p k (m - k)) q ≡ (overlaps q (pin_at p k) || is_pinned (pins p (k + 1) (m - (k + 1))) q)
pinned-step p q k m h = let e : m - k ≡ suc (m - (k + 1)) = omega arith in rw e (pinned_suc p q k (m - (k + 1)))

pinned-none : (p : Pins) (q : Range) (k m : ℕ) → m ≤ k → is_pinned (pins p k (m - k)) q ≡ false
unfolding is_pinned pins
pinned-none p q k m h = let z : m - k ≡ 0 = omega arith in rw z

-- pin k, by value
abbrev pub pin_of : PinsRef → ℕ → Span
pin_of p k = record { node = at p.node.now k; start = at p.start.now k; end = at p.end.now k }

-- k pins are passed
pub record Passed (r : Span) (p : PinsRef) (m k : ℕ) : Type 0 where
  pub todo :
      (count : List ℕ) (q : Range) → q.node ≡ r.node → q.start ≡ r.start → q.end ≡ r.end
      → is_pinned (pins (counted p count) k (m - k)) q ≡ is_pinned (pins (counted p count) 0 m) q

same : (r : Span) (p : PinsRef) (k : ℕ) (b : Bool) → b ≡ overlapping r (pin_of p k)
    → (count : List ℕ) (q : Range) → q.node ≡ r.node → q.start ≡ r.start → q.end ≡ r.end → overlaps q (pin_at (counted p count) k) ≡ b
same r p k b o count q e f g = rw (e, f, g) (sym o)

module _ {r : Span} {p : PinsRef} {m : ℕ} where
  pub passed_start : Passed r p m 0
  passed_start = record { todo = λ count q e f g. let z : m - 0 ≡ m = omega arith in rw z }

  module _ {k : ℕ} {b : Bool} (h : Passed r p m k) (l : k < m) (o : b ≡ overlapping r (pin_of p k)) where
    pub passed-hit : b ≡ true → PinnedIs r p m true
    passed-hit t count q e f g = sym (sym (h.todo count q e f g) ∙ pinned-step (counted p count) q k m l ∙ rw (same r p k b o count q e f g, t))

    pub passed-more : b ≡ false → Passed r p m (k + 1)
    passed-more t =
        record {
          todo = λ count q e f g. sym (pinned-step (counted p count) q k m l ∙ rw (same r p k b o count q e f g, t)) ∙ h.todo count q e f g;
        }

  pub passed-end : {k : ℕ} → Passed r p m k → m ≤ k → PinnedIs r p m false
  passed-end {k} h l count q e f g = sym (sym (h.todo count q e f g) ∙ pinned-none (counted p count) q k m l)

-- ---- the records

-- a place among all, as one among those from i on
abbrev pub from_there : ℕ → Option ℕ → Option ℕ
from_there i None = None
from_there i (Some b) = Some (b - i)

-- of the columns only the ids and the stamps tell whether a record leads
pub leads-same : (c d : Ranges) (i : ℕ) (best : Option ℕ) → c.id ≡ d.id → c.stamp ≡ d.stamp → leads c i best ≡ leads d i best
leads-same c d i None e f = refl
leads-same c d i (Some b) e f = rw (e, f)

module _ (may : Range → Bool) (c : Ranges) (n : ℕ) where
  -- of the records from i on, the first that may go is the best
  pub record Best (i : ℕ) (best : Option ℕ) : Type 0 where
    among : IfSome best (λ b. (i ≤ b) × (b < n))
    is : first may (ranges c i (n - i)) ≡ from_there i best

  first-none : (i : ℕ) → first may (ranges c i 0) ≡ None
  unfolding first ranges
  first-none i = refl

  first_suc : (i m : ℕ) → first may (ranges c i (suc m)) ≡ better (may (range_at c i)) (range_at c i) (ranges c (suc i) m) (first may (ranges c (suc i) m))
  unfolding first ranges
  first_suc i m = refl

  first_step : (i j : ℕ) → i ≡ suc j → i ≤ n
      → first may (ranges c j (n - j)) ≡ better (may (range_at c j)) (range_at c j) (ranges c i (n - i)) (first may (ranges c i (n - i)))
  first_step i j e h = let z : n - j ≡ suc (n - i) = omega arith in rw (z, e) (first_suc j (n - suc j))

  -- behind record j stands one that is sooner, or not
  better_later : (r q : Range) (rs : List Range) (k : ℕ) → nth rs k ≡ q → sooner q r ≡ true → better true r rs (Some k) ≡ Some (suc k)
  better_later r q rs k e s = ap (λ (b : Bool). elim b [ true ↦ Some (suc k) | false ↦ Some 0 ]) (ap (λ (x : Range). sooner x r) e ∙ s)

  better-now : (r q : Range) (rs : List Range) (k : ℕ) → nth rs k ≡ q → sooner q r ≡ false → better true r rs (Some k) ≡ Some 0
  better-now r q rs k e s = ap (λ (b : Bool). elim b [ true ↦ Some (suc k) | false ↦ Some 0 ]) (ap (λ (x : Range). sooner x r) e ∙ s)

  behind : (i b : ℕ) → i ≤ b → b < n → nth (ranges c i (n - i)) (b - i) ≡ range_at c b
  behind i b l h = let z : i + (b - i) ≡ b = omega arith in rw (ranges-at c i (n - i) (b - i) no_range (omega arith), z)

  back : (i j b : ℕ) → i ≡ suc j → i ≤ b → suc (b - i) ≡ b - j
  back i j b e l = omega arith

  not_false : (b : Bool) → not b ≡ true → b ≡ false
  not_false false h = refl
  not_false true h = absurd cc

  not_true : (b : Bool) → not b ≡ false → b ≡ true
  not_true true h = refl
  not_true false h = absurd cc

  pub best_start : Best n None
  best_start = record { among = tt; is = let z : n - n ≡ 0 = omega arith in rw z (first-none n) }

  module _ (i j : ℕ) (e : i ≡ suc j) (h : i ≤ n) where
    -- the record at j may not go
    pub best_skip : (best : Option ℕ) → may (range_at c j) ≡ false → Best i best → Best j best
    best_skip None f p = record { among = tt; is = first_step i j e h ∙ rw (f, p.is) }
    best_skip (Some b) f p = record { among = (omega (arith, p.among.0), p.among.1); is = first_step i j e h ∙ rw (f, p.is) (ap Some (back i j b e p.among.0)) }

    -- it may, and is the best
    pub best_take : (best : Option ℕ) → may (range_at c j) ≡ true → true ≡ leads c j best → Best i best → Best j (Some j)
    best_take None f t p =
        let d : 0 ≡ j - j = omega arith in record { among = (omega arith, omega arith); is = first_step i j e h ∙ rw (f, p.is) (ap Some d) }
    best_take (Some b) f t p =
        let d : 0 ≡ j - j = omega arith in
        let s = not_false (sooner (range_at c b) (range_at c j)) (sym t) in
        record {
          among = (omega arith, omega arith);
          is = first_step i j e h ∙ rw (f, p.is) (better-now (range_at c j) (range_at c b) (ranges c i (n - i)) (b - i) (behind i b p.among.0 p.among.1) s ∙ ap Some d);
        }

    -- the record behind is the better one, whether the record at j may go or not
    pub best_stay : (best : Option ℕ) → false ≡ leads c j best → Best i best → Best j best
    best_stay None t p = absurd cc
    best_stay (Some b) t p = go (may (range_at c j)) refl
      where
        go : (m : Bool) → may (range_at c j) ≡ m → Best j (Some b)
        go true f =
            let s = not_true (sooner (range_at c b) (range_at c j)) (sym t) in
            record {
              among = (omega (arith, p.among.0), p.among.1);
              is =
                  first_step i j e h
                  ∙ rw (f, p.is)
                  (better_later (range_at c j) (range_at c b) (ranges c i (n - i)) (b - i) (behind i b p.among.0 p.among.1) s ∙ ap Some (back i j b e p.among.0));
            }
        go false f = best_skip (Some b) f p

  -- what `leads` asks of the best so far
  pub best_within : (i : ℕ) (best : Option ℕ) → Best i best → IfSome best (λ b. b < n)
  best_within i None p = tt
  best_within i (Some b) p = p.among.1

  pub best_end : (i : ℕ) (best : Option ℕ) → i ≤ 0 → Best i best → best ≡ first may (ranges c 0 n)
  best_end i None h p =
      let y : i ≡ 0 = omega arith in
      let w : n - 0 ≡ n = omega arith in
      sym (rw (y, w) at p.is)
  best_end i (Some b) h p =
      let y : i ≡ 0 = omega arith in
      let w : n - 0 ≡ n = omega arith in
      let v : b - 0 ≡ b = omega arith in
      sym (rw (y, w, v) at p.is)
