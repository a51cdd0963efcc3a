-- Laws of a scan over the bytes of a line, and of a value read digit by digit. Assumes nothing.
use mathlib.Core.Path.{◌≡◌, refl, sym, ap, subst, ◌∙◌}
use mathlib.Core.Bool.{Bool, true, false, not, cond}
use mathlib.Core.List.{List, [], ◌∷◌, ◌++◌}
use Prim.Native.Nat.{ℕ, zero, suc, ◌+◌, ◌-◌, ◌*◌, ◌^◌, ◌≤◌, ◌<◌}
use native.Mathlib.Nat.{mul_comm, mul-le-mul_right, le-mul_of_pos_right, pow-zero, pow-succ', mul-add, mul-one, one-mul, mul_assoc, lt_of_lt_of_le}
use native.Mathlib.Numerals.{add-one}
use native.Mathlib.Omega.{arith}
use borrow.Author.Tests.{ltb-true, ltb-false, eqb-true, not-true, not-false, lt-ltb, le-ltb, le-leb, lt-leb, eq-eqb}
use lib.Dec.{T, ltb, eqb}
use lib.ListN.{length, get_or, take, drop, drop_of_length-le}
use lib.Seq.{drop-cons, get_or-take, get_or-drop}
use Rattle.std.specs.Prelude.{Result, Ok, Err, MatchOption, IsNone, ok_or, Some, None, Option}
use Rattle.std.specs.List.{position, position_or_len}
use Rattle.std.proofs.lemmas.List.Sums.{prefix_len-le-length, fails_before_first, passes_at_first}
use Rattle.std.proofs.Common.{length-drop, length-take-le}
use Rattle.text_words.specs.declared.NumberError.{NumberError}
use Rattle.text_words.specs.declared.NumberError.TheVariants.{TooLarge, NotANumber}
use Rattle.text_words.specs.Words.{other, First, passed_over, digit_of, step, reading, value_in, number_of}

-- ---- a scan: from what `position` finds in `&s[i..z]`
module _ (test : ℕ → Bool) (s : List ℕ) (i z : ℕ) (h : i ≤ z) (l : z ≤ length s) where
  at : (k : ℕ) → i ≤ k → k < z → get_or (take (z - i) (drop i s)) (k - i) 0 ≡ get_or s k 0
  at k p q =
      let e : i + (k - i) ≡ k = omega arith in
      get_or-take (z - i) (drop i s) (k - i) 0 (omega arith) ∙ get_or-drop i s (k - i) 0 ∙ ap (λ (j : ℕ). get_or s j 0) e

  long : length (take (z - i) (drop i s)) ≡ z - i
  long = length-take-le (z - i) (drop i s) (simp length-drop (omega arith))

  first_at : (r j : ℕ) → j ≡ position_or_len test (take (z - i) (drop i s)) → r ≡ i + j → First test s i z r
  first_at r j p e =
      let m : j ≤ z - i = omega (arith, p, long, prefix_len-le-length (λ x. not (test x)) (take (z - i) (drop i s))) in
      record {
        low = omega arith;
        high = omega arith;
        before = λ k a b. let q : k - i < position_or_len test (take (z - i) (drop i s)) = rw (← p) (omega arith) in
            sym (ap test (at k a (omega arith))) ∙ fails_before_first test (take (z - i) (drop i s)) (k - i) 0 q;
        here = λ b. let q : r - i ≡ position_or_len test (take (z - i) (drop i s)) = rw (← p) (omega arith) in
            let g : position_or_len test (take (z - i) (drop i s)) < length (take (z - i) (drop i s)) = rw (long, ← p) (omega arith) in
            sym (ap test (at r (omega arith) b)) ∙ ap (λ (k : ℕ). test (get_or (take (z - i) (drop i s)) k 0)) q ∙ passes_at_first test (take (z - i) (drop i s)) 0 g;
      }

  pub first_found : (r : ℕ) (o : Option ℕ) → o ≡ position test (take (z - i) (drop i s)) → MatchOption o (r ≡ z) (λ k. r ≡ i + k) → First test s i z r
  first_found r o e m = go (ltb (position_or_len test (take (z - i) (drop i s))) (length (take (z - i) (drop i s)))) refl
    where
      go : (t : Bool) → ltb (position_or_len test (take (z - i) (drop i s))) (length (take (z - i) (drop i s))) ≡ t → First test s i z r
      go true q = first_at r _ refl (subst (λ (o : Option ℕ). MatchOption o (r ≡ z) (λ k. r ≡ i + k)) (rw q at e) m)
      go false q =
          let f : r ≡ z = subst (λ (o : Option ℕ). MatchOption o (r ≡ z) (λ k. r ≡ i + k)) (rw q at e) m in
          let n : position_or_len test (take (z - i) (drop i s)) ≤ length (take (z - i) (drop i s)) = prefix_len-le-length (λ x. not (test x)) (take (z - i) (drop i s)) in
          let g : length (take (z - i) (drop i s)) ≤ position_or_len test (take (z - i) (drop i s)) = ltb-false _ _ q in
          first_at r _ refl (omega (arith, long))

-- there is only one such place
pub first_one : (test : ℕ → Bool) (s : List ℕ) (i z r q : ℕ) → First test s i z r → First test s i z q → r ≡ q
first_one test s i z r q f g = let a : r < q → ⊥ = no r q f g in let b : q < r → ⊥ = no q r g f in omega (arith, a, b)
  where
    no : (r q : ℕ) → First test s i z r → First test s i z q → r < q → ⊥
    no r q f g h = subst T (sym (f.here (omega (arith, g.high))) ∙ g.before r f.low h) tt

-- ---- a line that is passed over, from its first place that holds no space
pub passed_skip : (s : List ℕ) (r : ℕ) → r ≤ length s → ((k : ℕ) → k < r → get_or s k 0 ≡ 32) → passed_over s ≡ passed_over (drop r s)
unfolding passed_over
passed_skip s zero h e = refl
passed_skip [] (suc r) h e = refl
passed_skip (b ∷ s) (suc r) h e =
    ap (λ (t : Bool). cond t (passed_over s) (eqb b 35)) (eq-eqb b 32 (e 0 (omega arith)))
    ∙ passed_skip s r (omega arith) (λ k l. e (suc k) (omega arith))

module _ (s : List ℕ) (r : ℕ) (f : First (other 32) s 0 (length s) r) where
  spaces : (k : ℕ) → k < r → get_or s k 0 ≡ 32
  spaces k h = eqb-true (get_or s k 0) 32 (not-false (eqb (get_or s k 0) 32) (f.before k (omega arith) h))

  pub passed-at : r < length s → eqb (get_or s r 0) 35 ≡ passed_over s
  unfolding passed_over
  passed-at h =
      let n : eqb (get_or s r 0) 32 ≡ false = not-true (eqb (get_or s r 0) 32) (f.here h) in
      sym (passed_skip s r f.high spaces ∙ ap passed_over (drop-cons s r 0 h) ∙ ap (λ (t : Bool). cond t (passed_over (drop (suc r) s)) (eqb (get_or s r 0) 35)) n)

  pub passed_none : length s ≤ r → true ≡ passed_over s
  unfolding passed_over
  passed_none h = sym (passed_skip s r f.high spaces ∙ ap passed_over (drop_of_length-le s {i = r} h))

-- ---- two rows of a digit's value
module _ (b : ℕ) where
  pub digit_decimal : 48 ≤ b → b < 58 → b - 48 ≡ digit_of b
  unfolding digit_of
  digit_decimal l h = simp (le-leb 48 b l, le-leb b 57 (omega arith))

  pub digit_lower : 97 ≤ b → b < 103 → b - 87 ≡ digit_of b
  unfolding digit_of
  digit_lower l h =
      simp (
        le-leb 48 b (omega arith),
        lt-leb b 57 (omega arith),
        le-leb 65 b (omega arith),
        lt-leb b 70 (omega arith),
        le-leb 97 b l,
        le-leb b 102 (omega arith),
      )

-- ---- a value with one byte more
module _ (v : ℕ) where
  pub of-value : (o : Option ℕ) → Ok v ≡ number_of o → o ≡ Some v
  unfolding number_of
  of-value None e = let z : ◌≡◌ {A = ℕ} 0 1 = cc in absurd (omega arith)
  of-value (Some u) e = go (ltb u (2 ^ 64)) refl
    where
      go : (t : Bool) → ltb u (2 ^ 64) ≡ t → Some u ≡ Some v
      go true h = let q : Ok v ≡ Ok u = rw h at e in cc
      go false h = let q : Ok v ≡ Err TooLarge = rw h at e in let z : ◌≡◌ {A = ℕ} 0 1 = cc in absurd (omega arith)

  pub of-large : Err TooLarge ≡ number_of (Some v) → 2 ^ 64 ≤ v
  unfolding number_of
  of-large e = go (ltb v (2 ^ 64)) refl
    where
      go : (t : Bool) → ltb v (2 ^ 64) ≡ t → 2 ^ 64 ≤ v
      go true h = let q : Err TooLarge ≡ Ok v = rw h at e in let z : ◌≡◌ {A = ℕ} 0 1 = cc in absurd (omega arith)
      go false h = ltb-false v (2 ^ 64) h

  pub some_not : Err NotANumber ≡ number_of (Some v) → ⊥
  unfolding number_of
  some_not e = go (ltb v (2 ^ 64)) refl
    where
      go : (t : Bool) → ltb v (2 ^ 64) ≡ t → ⊥
      go true h = let q : Err NotANumber ≡ Ok v = rw h at e in let z : ◌≡◌ {A = ℕ} 0 1 = cc in omega arith
      go false h = let q : Err NotANumber ≡ Err TooLarge = rw h at e in let z : ◌≡◌ {A = ℕ} 0 1 = cc in omega arith

  pub is-value : v < 2 ^ 64 → number_of (Some v) ≡ Ok v
  unfolding number_of
  is-value h = rw (lt-ltb v (2 ^ 64) h)

  pub is-large : 2 ^ 64 ≤ v → number_of (Some v) ≡ Err TooLarge
  unfolding number_of
  is-large h = rw (le-ltb v (2 ^ 64) h)

none_not : Err TooLarge ≡ number_of None → ⊥
unfolding number_of
none_not e = let z : ◌≡◌ {A = ℕ} 0 1 = cc in omega arith

pub of_none : (o : Option ℕ) → Err NotANumber ≡ number_of o → o ≡ None
of_none None e = refl
of_none (Some v) e = absurd (some_not v e)

pub not_large : (o : Option ℕ) → ((v : ℕ) → o ≡ Some v → v < 2 ^ 64) → Err TooLarge ≡ number_of o → ⊥
not_large None h e = none_not e
not_large (Some v) h e = let l : v < 2 ^ 64 = h v refl in let g : 2 ^ 64 ≤ v = of-large v e in omega arith

grows : (base v d m : ℕ) → 0 < base → m ≤ v → m ≤ base * v + d
grows base v d m above h = omega (arith, le-mul_of_pos_right v above, mul_comm base v)

module _ (base b d : ℕ) (e : d ≡ digit_of b) where
  pub step_digit : (v : ℕ) → d < base → step base (Some v) b ≡ Some (base * v + d)
  unfolding step
  step_digit v h = rw (← e, lt-ltb d base h)

  pub push_not : (o : Option ℕ) → base ≤ d → Err NotANumber ≡ number_of (step base o b)
  unfolding step number_of
  push_not None h = refl
  push_not (Some v) h = rw (← e, le-ltb d base h)

  pub push_none : (o : Option ℕ) → Err NotANumber ≡ number_of o → Err NotANumber ≡ number_of (step base o b)
  unfolding step
  push_none None h = h
  push_none (Some v) h = absurd (some_not v h)

  pub push_value : (o : Option ℕ) (v : ℕ) → Ok v ≡ number_of o → d < base → base * v + d < 2 ^ 64 → Ok (base * v + d) ≡ number_of (step base o b)
  push_value o v h l k = rw (of-value v o h, step_digit v l) (sym (is-value (base * v + d) k))

  pub push_large : (o : Option ℕ) (v : ℕ) → Ok v ≡ number_of o → d < base → 2 ^ 64 ≤ base * v + d → Err TooLarge ≡ number_of (step base o b)
  push_large o v h l k = rw (of-value v o h, step_digit v l) (sym (is-large (base * v + d) k))

  pub push_more : (o : Option ℕ) → Err TooLarge ≡ number_of o → 0 < base → d < base → Err TooLarge ≡ number_of (step base o b)
  push_more None h p l = absurd (none_not h)
  push_more (Some v) h p l = rw (step_digit v l) (sym (is-large (base * v + d) (grows base v d (2 ^ 64) p (of-large v h))))

  -- p is v times the base and q that with d more, where these are below 2 ^ 64
  pub push_ok : (v : ℕ) (p q : Option ℕ) (n r : Result ℕ NumberError) → n ≡ Ok v → 0 < base → d < base
      → MatchOption p (2 ^ 64 ≤ v * base) (λ x. x ≡ v * base)
      → MatchOption p (IsNone q) (λ x. MatchOption q (2 ^ 64 ≤ x + d) (λ y. (y ≡ x + d) × (x + d < 2 ^ 64)))
      → r ≡ ok_or q TooLarge → (o : Option ℕ) → n ≡ number_of o → r ≡ number_of (step base o b)
  push_ok v None None n r i z l f g k o h = k ∙ push_large o v (sym i ∙ h) l (omega (arith, mul_comm base v))
  push_ok v None (Some y) n r i z l f g k o h = let e : ◌≡◌ {A = Bool} true false = g in cc
  push_ok v (Some x) None n r i z l f g k o h = k ∙ push_large o v (sym i ∙ h) l (omega (arith, mul_comm base v))
  push_ok v (Some x) (Some y) n r i z l f g k o h =
      let e : y ≡ base * v + d = omega (arith, mul_comm base v) in
      k ∙ ap Ok e ∙ push_value o v (sym i ∙ h) l (omega (arith, mul_comm base v))

  pub push_err : (e : NumberError) (n r : Result ℕ NumberError) → n ≡ Err e → r ≡ Err e → 0 < base → d < base → (o : Option ℕ) → n ≡ number_of o → r ≡ number_of (step base o b)
  push_err TooLarge n r p q z l o h = q ∙ push_more o (sym p ∙ h) z l
  push_err NotANumber n r p q z l o h = q ∙ push_none o (sym p ∙ h)

-- ---- bytes, read one after the other
pub record Reads (m : Result ℕ NumberError) (base : ℕ) (s : List ℕ) (i : ℕ) (o : Option ℕ) : Type 0 where
  pub now : Option ℕ
  pub is : m ≡ number_of now
  pub left : reading base now (drop i s) ≡ reading base o s

module _ (base : ℕ) (s : List ℕ) where
  pub reads-start : (n : Result ℕ NumberError) (o : Option ℕ) → n ≡ number_of o → Reads n base s 0 o
  reads-start n o e = record { now = o; is = e; left = refl }

  pub reads-turn : (m k : Result ℕ NumberError) (i : ℕ) (o : Option ℕ) → i < length s → ((p : Option ℕ) → m ≡ number_of p → k ≡ number_of (step base p (get_or s i 0)))
      → Reads m base s i o → Reads k base s (i + 1) o
  unfolding reading
  reads-turn m k i o h f r =
      record {
        now = step base r.now (get_or s i 0);
        is = f r.now r.is;
        left = rw add-one (sym (ap (λ (w : List ℕ). reading base r.now w) (drop-cons s i 0 h)) ∙ r.left);
      }

  pub reads_end : (m : Result ℕ NumberError) (i : ℕ) (o : Option ℕ) → length s ≤ i → Reads m base s i o → m ≡ number_of (reading base o s)
  unfolding reading
  reads_end m i o h r = r.is ∙ ap number_of (sym (ap (λ (w : List ℕ). reading base r.now w) (drop_of_length-le s {i = i} h)) ∙ r.left)

-- ---- one or more digits
pub reading_append : (base : ℕ) (o : Option ℕ) (v w : List ℕ) → reading base o (v ++ w) ≡ reading base (reading base o v) w
unfolding reading
reading_append base o [] w = refl
reading_append base o (b ∷ v) w = reading_append base (step base o b) v w

pub reading-one : (base : ℕ) (o : Option ℕ) (b : ℕ) → reading base o (b ∷ []) ≡ step base o b
unfolding reading
reading-one base o b = refl

reading-none : (base : ℕ) (w : List ℕ) → reading base None w ≡ None
unfolding reading step
reading-none base [] = refl
reading-none base (b ∷ w) = reading-none base w

-- how large a value can be: below the power of the base
pub reading_bound : (base v m : ℕ) (w : List ℕ) → reading base (Some v) w ≡ Some m → m < (v + 1) * base ^ length w
unfolding reading step
reading_bound base v m [] e =
    let q : v ≡ m = cc in
    rw pow-zero (omega arith)
reading_bound base v m (b ∷ w) e = go (λ u. reading_bound base u m w) (ltb (digit_of b) base) refl
  where
    go : ((u : ℕ) → reading base (Some u) w ≡ Some m → m < (u + 1) * base ^ length w) → (t : Bool) → ltb (digit_of b) base ≡ t → m < (v + 1) * base ^ suc (length w)
    go rest true h =
        let q : m < (base * v + digit_of b + 1) * base ^ length w = rest (base * v + digit_of b) (rw h at e) in
        let l : digit_of b < base = ltb-true (digit_of b) base h in
        let k : base * v + digit_of b + 1 ≤ base * (v + 1) = rw mul-add (omega (arith, mul-one base)) in
        let r : (v + 1) * base ^ suc (length w) ≡ base * (v + 1) * base ^ length w =
        rw (pow-succ', ← mul_assoc (v + 1) base (base ^ length w), mul_comm (v + 1) base) in
        rw r (lt_of_lt_of_le q (mul-le-mul_right (base ^ length w) k))
    go rest false h =
        let q : reading base None w ≡ Some m = rw h at e in
        let o : None ≡ Some m = sym (reading-none base w) ∙ q in
        let z : ◌≡◌ {A = ℕ} 0 1 = cc in absurd (omega arith)

pub value_bound : (base m : ℕ) (w : List ℕ) → value_in base w ≡ Some m → m < base ^ length w
unfolding value_in
value_bound base m [] e = let z : ◌≡◌ {A = ℕ} 0 1 = cc in absurd (omega arith)
value_bound base m (b ∷ w) e = omega (arith, reading_bound base 0 m (b ∷ w) e, one-mul (base ^ length (b ∷ w)))

-- a list that has a byte at its end has one or more
pub value_snoc : (base : ℕ) (w : List ℕ) (b : ℕ) → value_in base (w ++ (b ∷ [])) ≡ reading base (Some 0) (w ++ (b ∷ []))
unfolding value_in
value_snoc base [] b = refl
value_snoc base (c ∷ w) b = refl

module _ (base : ℕ) where
  pub value_none : (w : List ℕ) → eqb (length w) 0 ≡ true → Err NotANumber ≡ number_of (value_in base w)
  unfolding value_in number_of
  value_none [] h = refl
  value_none (b ∷ w) h = absurd (omega (arith, eqb-true (length (b ∷ w)) 0 h))

  pub value-some : (w : List ℕ) → eqb (length w) 0 ≡ false → reading base (Some 0) w ≡ value_in base w
  unfolding value_in
  value-some [] h = let z : ◌≡◌ {A = Bool} true false = h in cc
  value-some (b ∷ w) h = refl
