-- The loop over the ranges: the columns hold the heads so far, the ranges to come and the tails so far, and what is done and what is to be done
-- come to all heads and all tails. Assumes nothing.
use Prim.Native.Nat.{ℕ, suc, ◌+◌, ◌-◌, ◌^◌, ◌≤◌, ◌<◌}
use mathlib.Core.Path.{◌≡◌, refl, sym, ap, ◌∙◌}
use mathlib.Core.Bool.{Bool, true, false, not, ◌&&◌, ◌||◌}
use mathlib.Core.List.{List, [], ◌∷◌, ◌++◌, append_assoc, append-nil}
use native.Mathlib.Numerals.{add-one}
use native.Mathlib.Nat.{sub-zero, add-zero}
use native.Mathlib.Omega.{arith}
use lib.ListN.{length, length-append}
use lib.Dec.{ltb, eqb}
use Rattle.model.specs.Sizes.{max_stamp}
use Rattle.model.specs.State.{Ranges, Range, at, range_at}
use Rattle.model.specs.Store.{ranges, plus, put}
use Rattle.model.specs.Insert.{across, beyond, head, heads, tail, tails, ranges_across}
use Rattle.theory_lay.proofs.Rows.{ranges_length}
use Rattle.pool_range.specs.Part.{Sized}
use Rattle.rule_cut.specs.declared.Progress.{Progress}
use Rattle.rule_cut.specs.Cut.{is_across, is_beyond, split_range, move_range, step_ranges, step_progress}
use Rattle.rule_cut.proofs.Step.{across-both}
use Rattle.rule_cut.specs.Cutting.{across_in, cut_ranges}
use Rattle.rule_cut.proofs.Over.{over, read-over, split-over, move_over, sized-over, back-over, laid-over}

-- ---- one range

-- what becomes of it: its head, or none; its tail, or none
abbrev head_if : Bool → Bool → ℕ → Range → List Range
head_if false below k r = r ∷ []
head_if true true k r = head true k r ∷ []
head_if true false k r = []

abbrev tail_if : Bool → Bool → ℕ → ℕ → ℕ → Range → List Range
tail_if false below k m id r = []
tail_if true below k m id r = tail below k m id r ∷ []

module _ (j k : ℕ) (r : Range) (rs : List Range) (b s : Bool) (eb : beyond j k r ≡ b) (es : ltb r.start k ≡ s) where
  across-is : across j k r ≡ (b && s)
  across-is = across-both (eqb r.node j) (ltb r.start k) (ltb k r.end) ∙ rw (eb, es)

  heads-are : heads j k (r ∷ rs) ≡ head_if b s k r ++ heads j k rs
  unfolding heads
  heads-are = rw (across-is, eb) (go b s)
    where
      go : (b s : Bool) → put ((b && s) || not b) (head (b && s) k r) (heads j k rs) ≡ head_if b s k r ++ heads j k rs
      go false s = refl
      go true true = refl
      go true false = refl

  tails-are : (m id : ℕ) → tails j k m id (r ∷ rs) ≡ tail_if b s k m id r ++ tails j k m (plus (b && s) id) rs
  unfolding tails
  tails-are m id = rw (across-is, eb) (go b s)
    where
      go : (b s : Bool) → put b (tail (b && s) k m id r) (tails j k m (plus (b && s) id) rs) ≡ tail_if b s k m id r ++ tails j k m (plus (b && s) id) rs
      go false s = refl
      go true s = refl

  count-is : ranges_across j k (r ∷ rs) ≡ plus (b && s) (ranges_across j k rs)
  unfolding ranges_across
  count-is = rw across-is

-- ---- the loop

pub record Cutting (j k m next n : ℕ) (c₀ c : Ranges) (s : Progress) : Type 0 where
  pub done : List Range
  pub moved : List Range
  pub seen : ℕ
  pub high : seen ≤ n
  pub here : length done ≡ s.at
  pub end : s.at + (n - seen) ≡ s.top
  pub all : s.top + length moved ≡ s.n
  pub columns : c ≡ over s.n (done ++ (ranges c₀ seen (n - seen) ++ moved)) c₀
  pub todo :
      (done ++ heads j k (ranges c₀ seen (n - seen))) ++ (moved ++ tails j k m s.next (ranges c₀ seen (n - seen)))
      ≡ heads j k (ranges c₀ 0 n) ++ tails j k m next (ranges c₀ 0 n)
  pub count : s.n + ranges_across j k (ranges c₀ seen (n - seen)) ≡ n + across_in j k n c₀
  pub ids : s.next + ranges_across j k (ranges c₀ seen (n - seen)) ≡ next + across_in j k n c₀

module _ (j k m next n : ℕ) (c : Ranges) where
  pub cut-start : n + across_in j k n c ≤ 128 → Sized 128 c → Cutting j k m next n c c (record { at = 0; top = n; n = n; next = next })
  cut-start few s =
      let low : n ≤ 128 = omega arith in
      record {
        done = [];
        moved = [];
        seen = 0;
        high = omega arith;
        here = refl;
        end = omega arith;
        all = omega arith;
        columns = sym (rw (sub-zero, append-nil) (back-over n c low s));
        todo = rw sub-zero;
        count = rw sub-zero;
        ids = rw sub-zero;
      }

-- the next range to come
first-is : (c : Ranges) (i n : ℕ) → i < n → ranges c i (n - i) ≡ range_at c i ∷ ranges c (suc i) (n - suc i)
unfolding ranges
first-is c i n h =
    let e : n - i ≡ suc (n - suc i) = omega arith in
    rw e

none_left : (c : Ranges) (i n : ℕ) → n ≤ i → ranges c i (n - i) ≡ []
unfolding ranges
none_left c i n h =
    let e : n - i ≡ 0 = omega arith in
    rw e

-- lists in another bracketing
one_on : {A : Type 0} (xs : List A) (x : A) (ys : List A) → xs ++ (x ∷ ys) ≡ (xs ++ (x ∷ [])) ++ ys
one_on xs x ys = sym (append_assoc xs (x ∷ []) ys)

one_last : {A : Type 0} (xs ys zs : List A) (t : A) → (xs ++ (ys ++ zs)) ++ (t ∷ []) ≡ xs ++ (ys ++ (zs ++ (t ∷ [])))
one_last xs ys zs t = append_assoc xs (ys ++ zs) (t ∷ []) ∙ ap (λ (l : List _). xs ++ l) (append_assoc ys zs (t ∷ []))

module _ (j k m next n : ℕ) (c₀ c : Ranges) (s : Progress) (few : n + across_in j k n c₀ ≤ 128) (sized : Sized 128 c₀) (o : Cutting j k m next n c₀ c s) where
  long : length (o.done ++ (ranges c₀ o.seen (n - o.seen) ++ o.moved)) ≡ s.n
  long =
      omega (
        arith,
        length-append o.done (ranges c₀ o.seen (n - o.seen) ++ o.moved),
        length-append (ranges c₀ o.seen (n - o.seen)) o.moved,
        ranges_length c₀ o.seen (n - o.seen),
        o.here,
        o.end,
        o.all,
      )

  pub cut-few : s.n ≤ 128
  cut-few = omega (arith, o.count)

  pub cut-sized : Sized 128 c
  cut-sized = rw o.columns (sized-over s.n c₀ cut-few sized (o.done ++ (ranges c₀ o.seen (n - o.seen) ++ o.moved)) long)

  -- nothing is left
  pub cut-end : s.top ≤ s.at → (c ≡ cut_ranges j k m next n c₀) × (s.n ≡ n + across_in j k n c₀) × (s.next ≡ next + across_in j k n c₀)
  unfolding heads tails ranges_across
  cut-end h =
      let none : ranges c₀ o.seen (n - o.seen) ≡ [] = none_left c₀ o.seen n (omega (arith, o.end, o.high)) in
      let size : s.n ≡ n + across_in j k n c₀ = rw (none, add-zero) at o.count in
      let list : o.done ++ o.moved ≡ heads j k (ranges c₀ 0 n) ++ tails j k m next (ranges c₀ 0 n) = rw (none, append-nil, append-nil) at o.todo in
      let short : length (o.done ++ o.moved) ≡ s.n = rw none at long in (
        rw none at o.columns ∙ laid-over s.n c₀ (o.done ++ o.moved) short ∙ rw (list, size),
        size,
        rw (none, add-zero) at o.ids,
      )

  module _ (more : s.at < s.top) where
    inside : o.seen < n
    inside = omega (arith, o.end)

    abbrev r : Range
    r = range_at c₀ o.seen

    abbrev rest : List Range
    rest = ranges c₀ (suc o.seen) (n - suc o.seen)

    first : ranges c₀ o.seen (n - o.seen) ≡ r ∷ rest
    first = first-is c₀ o.seen n inside

    size : length (o.done ++ (r ∷ (rest ++ o.moved))) ≡ s.n
    size = rw first at long

    at_hand : c ≡ over s.n (o.done ++ (r ∷ (rest ++ o.moved))) c₀
    at_hand = rw first at o.columns

    there : range_at c s.at ≡ r
    there = ap (λ (d : Ranges). range_at d s.at) at_hand ∙ read-over s.n s.at c₀ o.done r (rest ++ o.moved) o.here size

    -- what is tested at the place is tested of the range
    abbrev is_b : Bool
    is_b = is_beyond j k (at c.node s.at) (at c.end s.at)

    abbrev is_s : Bool
    is_s = ltb (at c.start s.at) k

    beyond-there : beyond j k r ≡ is_b
    beyond-there = ap (λ (q : Range). beyond j k q) (sym there)

    below-there : ltb r.start k ≡ is_s
    below-there = ap (λ (q : Range). ltb q.start k) (sym there)

    counted : s.n + plus (is_b && is_s) (ranges_across j k rest) ≡ n + across_in j k n c₀
    counted = rw (first, count-is j k r rest is_b is_s beyond-there below-there) at o.count

    numbered : s.next + plus (is_b && is_s) (ranges_across j k rest) ≡ next + across_in j k n c₀
    numbered = rw (first, count-is j k r rest is_b is_s beyond-there below-there) at o.ids

    -- what the step asks
    pub cut-room : is_across j k (at c.node s.at) (at c.start s.at) (at c.end s.at) ≡ true → s.n < 128
    cut-room e =
        let both : (is_b && is_s) ≡ true = sym (across-both (eqb (at c.node s.at) j) is_s (ltb k (at c.end s.at))) ∙ e in
        let one : s.n + suc (ranges_across j k rest) ≡ n + across_in j k n c₀ = rw both at counted in
        omega arith

    pub cut-top : s.top ≤ s.n
    cut-top = omega (arith, o.all)

    pub cut-id : next ≤ max_stamp → s.next < 2 ^ 63
    cut-id h = omega (arith, o.ids)

    columns-are : (b a : Bool) → s.n + plus (b && a) (ranges_across j k rest) ≡ n + across_in j k n c₀
        → step_ranges b a s k m c ≡ over (step_progress b a s).n ((o.done ++ head_if b a k r) ++ (rest ++ (o.moved ++ tail_if b a k m s.next r))) c₀
    columns-are false a e =
        at_hand
        ∙ ap (λ (l : List Range). over s.n l c₀)
        (one_on o.done r (rest ++ o.moved) ∙ ap (λ (l : List Range). (o.done ++ (r ∷ [])) ++ (rest ++ l)) (sym (append-nil o.moved)))
    columns-are true true e =
        let h = head true k r in
        let t = tail true k m s.next r in
        ap (λ (d : Ranges). split_range s.n s.at k m s.next d) at_hand
        ∙ split-over s.n s.at c₀ o.done r (rest ++ o.moved) o.here size k m s.next (omega arith) sized
        ∙ ap (λ (l : List Range). over (s.n + 1) l c₀)
        (ap (λ (l : List Range). l ++ (t ∷ [])) (one_on o.done h (rest ++ o.moved)) ∙ one_last (o.done ++ (h ∷ [])) rest o.moved t)
    columns-are true false e =
        let t = tail false k m s.next r in
        ap (λ (d : Ranges). move_range s.n s.at k m d) at_hand
        ∙ move_over s.n s.at c₀ o.done r (rest ++ o.moved) o.here size k m s.next
        ∙ ap (λ (l : List Range). over s.n l c₀)
        (one_last o.done rest o.moved t ∙ ap (λ (l : List Range). l ++ (rest ++ (o.moved ++ (t ∷ [])))) (sym (append-nil o.done)))

    todo-is : (b a : Bool) → beyond j k r ≡ b → ltb r.start k ≡ a
        → ((o.done ++ head_if b a k r) ++ heads j k rest) ++ ((o.moved ++ tail_if b a k m s.next r) ++ tails j k m (plus (b && a) s.next) rest)
        ≡ heads j k (ranges c₀ 0 n) ++ tails j k m next (ranges c₀ 0 n)
    todo-is b a eb ea =
        rw (
          append_assoc o.done (head_if b a k r) (heads j k rest),
          append_assoc o.moved (tail_if b a k m s.next r) (tails j k m (plus (b && a) s.next) rest),
          ← heads-are j k r rest b a eb ea,
          ← tails-are j k r rest b a eb ea m s.next,
          ← first,
        )
        o.todo

    go : (b a : Bool) → beyond j k r ≡ b → ltb r.start k ≡ a → s.n + plus (b && a) (ranges_across j k rest) ≡ n + across_in j k n c₀
        → s.next + plus (b && a) (ranges_across j k rest) ≡ next + across_in j k n c₀ → Cutting j k m next n c₀ (step_ranges b a s k m c) (step_progress b a s)
    go false a eb ea cnt idn =
        record {
          done = o.done ++ (r ∷ []);
          moved = o.moved ++ [];
          seen = suc o.seen;
          high = inside;
          here = omega (arith, length-append o.done (r ∷ []), o.here);
          end = omega (arith, o.end);
          all = omega (arith, length-append o.moved [], o.all);
          columns = columns-are false a cnt;
          todo = todo-is false a eb ea;
          count = cnt;
          ids = idn;
        }
    go true true eb ea cnt idn =
        let t = tail true k m s.next r in
        record {
          done = o.done ++ (head true k r ∷ []);
          moved = o.moved ++ (t ∷ []);
          seen = suc o.seen;
          high = inside;
          here = omega (arith, length-append o.done (head true k r ∷ []), o.here);
          end = omega (arith, o.end);
          all = omega (arith, length-append o.moved (t ∷ []), o.all);
          columns = columns-are true true cnt;
          todo = rw add-one (todo-is true true eb ea);
          count = omega arith;
          ids = omega arith;
        }
    go true false eb ea cnt idn =
        let t = tail false k m s.next r in
        record {
          done = o.done ++ [];
          moved = o.moved ++ (t ∷ []);
          seen = suc o.seen;
          high = inside;
          here = omega (arith, length-append o.done [], o.here);
          end = omega (arith, o.end);
          all = omega (arith, length-append o.moved (t ∷ []), o.all);
          columns = columns-are true false cnt;
          todo = todo-is true false eb ea;
          count = cnt;
          ids = idn;
        }

    pub cut-turn : (c' : Ranges) (s' : Progress) → (c' ≡ step_ranges is_b is_s s k m c) × (s' ≡ step_progress is_b is_s s) → Cutting j k m next n c₀ c' s'
    cut-turn c' s' e = rw (e.0, e.1) (go is_b is_s beyond-there below-there counted numbered)
