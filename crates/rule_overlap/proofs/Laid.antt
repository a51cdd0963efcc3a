-- A store's part with a list laid into it keeps its sizes and reads back as that list; and a list laid over it is laid into the part below.
use mathlib.Core.Path.{◌≡◌, refl, sym, ap, ◌∙◌}
use mathlib.Core.List.{List, ◌∷◌, ◌++◌, map, append_assoc}
use Prim.Native.Nat.{ℕ, ◌+◌, ◌-◌, ◌≤◌, ◌<◌}
use native.Mathlib.Nat.{zero-add}
use native.Mathlib.Omega.{arith}
use lib.ListN.{length, get_or, drop, set, replicate, length-map, length-append, replicate-append-replicate}
use lib.Seq.{drop_at, get_or-append_seam, map-set_same}
use lib.Ieee.{Float, nan}
use Rattle.model.specs.State.{Ranges, Range, range_at}
use Rattle.model.specs.Store.{ranges, lay, lay_ranges, no_time, part}
use Rattle.shape_state.specs.Lent.{ranges_of}
use Rattle.theory_lay.proofs.Lay.{lay_length, lay-lay, lay-same, column_in}
use Rattle.theory_lay.proofs.Rows.{rows, rows_length, rows-list, rows_column, ranges-rows}
use Rattle.pool_range.proofs.Laid.{lay-front, set-lay}
use Rattle.pool_range.specs.Part.{Sized}
use Rattle.pool_range.proofs.Records.{ranges_eq, map_set}

-- what is read past a column's end
abbrev no_range : Range
no_range = record { node = 0; start = 0; end = 0; id = 0; stamp = 0; touched = nan; write = 0 }

-- ---- one column

module _ {A : Type 0} (f : Range → A) (blank : A) (pool : List A) (long : length pool ≡ 128) where
  col_long : (k : ℕ) (rs : List Range) → length rs ≤ k → k ≤ 128 → length (lay blank 0 k (map f rs) pool) ≡ 128
  col_long k rs h g = lay_length blank 0 k (map f rs) pool (rw length-map h) (omega arith) ∙ long

  col_in : (k : ℕ) (rs : List Range) → length rs ≤ k → k ≤ 128 → (i : ℕ) → i < length rs
      → get_or (lay blank 0 k (map f rs) pool) i (f no_range) ≡ f (get_or rs i no_range)
  col_in k rs h g i l = rw zero-add at (column_in 0 k 128 rs h (omega arith) f blank pool (omega arith) i no_range l)

  col_wide : (n k : ℕ) (rs qs : List Range) → length rs ≤ n → n ≤ k → k ≤ 128
      → lay blank 0 k (map f qs) (lay blank 0 n (map f rs) pool) ≡ lay blank 0 k (map f qs) pool
  col_wide n k rs qs h g l = lay-lay blank 0 n k (map f rs) (map f qs) pool g (rw length-map h) (omega arith)

  col_narrow : (n k : ℕ) (rs qs : List Range) → length rs ≡ n → n ≤ k → k ≤ 128 → length qs ≤ n
      → lay blank 0 n (map f qs) (lay blank 0 k (map f rs) pool) ≡ lay blank 0 k (map f qs) pool
  col_narrow n k rs qs e g l q =
      let m : length (map f rs) ≡ n = length-map rs f ∙ e in
      let w : length (map f qs) ≤ n = rw length-map q in
      rw (lay-front blank n (map f qs) (lay blank 0 k (map f rs) pool), lay-front blank k (map f qs) pool, lay-front blank k (map f rs) pool)
      (rw (drop_at (map f rs) (replicate (k - length (map f rs)) blank ++ drop k pool) n m, m)
      (blanks (map f qs) (n - length (map f qs)) (k - n) (k - length (map f qs)) (drop k pool) (omega arith)))
    where
      blanks : (xs : List A) (a b m : ℕ) (rest : List A) → a + b ≡ m → xs ++ (replicate a blank ++ (replicate b blank ++ rest)) ≡ xs ++ (replicate m blank ++ rest)
      blanks xs a b m rest e = ap (λ t. xs ++ t) (sym (append_assoc (replicate a blank) (replicate b blank) rest) ∙ ap (λ t. t ++ rest) (replicate-append-replicate a b blank ∙ ap (λ t. replicate t blank) e))

  col_back : (g : ℕ → Range) (d : A) (n : ℕ) → n ≤ 128 → ((i : ℕ) → f (g i) ≡ get_or pool i d) → lay blank 0 n (map f (rows g 0 n)) pool ≡ pool
  col_back g d n h same =
      lay-same blank 0 n (map f (rows g 0 n)) pool (length-map (rows g 0 n) f ∙ rows_length g 0 n) (rows_column f g pool d 0 n same (omega arith))

-- a column whose element at i is set, and one that isn't
col_set : {A : Type 0} (f : Range → A) (blank : A) (pool : List A) (k : ℕ) (rs : List Range) (i : ℕ) (r : Range) (v : A) → f r ≡ v → i < length rs
    → set (lay blank 0 k (map f rs) pool) i v ≡ lay blank 0 k (map f (set rs i r)) pool
col_set f blank pool k rs i r v e h =
    set-lay blank i k v (map f rs) pool (rw length-map h) ∙ ap (λ t. lay blank 0 k t pool) (sym (map_set f rs i r ∙ ap (λ t. set (map f rs) i t) e))

col_keep : {A : Type 0} (f : Range → A) (blank : A) (pool : List A) (k : ℕ) (rs : List Range) (i : ℕ) (r d : Range) → f r ≡ f (get_or rs i d)
    → lay blank 0 k (map f rs) pool ≡ lay blank 0 k (map f (set rs i r)) pool
col_keep f blank pool k rs i r d e = ap (λ t. lay blank 0 k t pool) (sym (map-set_same f rs i r d e))

-- ---- seven

pub back : (n : ℕ) (c : Ranges) → Sized 128 c → n ≤ 128 → lay_ranges 0 n (ranges c 0 n) c ≡ c
unfolding lay_ranges
back n c s h =
    rw (ranges-rows c 0 n)
    (ranges_eq (col_back (λ r. r.node) 0 c.node s.node (range_at c) 0 n h (λ i. refl))
    (col_back (λ r. r.start) 0 c.start s.start (range_at c) 0 n h (λ i. refl))
    (col_back (λ r. r.end) 0 c.end s.end (range_at c) 0 n h (λ i. refl))
    (col_back (λ r. r.id) 0 c.id s.id (range_at c) 0 n h (λ i. refl))
    (col_back (λ r. r.stamp) 0 c.stamp s.stamp (range_at c) 0 n h (λ i. refl))
    (col_back (λ r. r.touched) no_time c.touched s.touched (range_at c) nan n h (λ i. refl))
    (col_back (λ r. r.write) 0 c.write s.write (range_at c) 0 n h (λ i. refl)))

module _ (c : Ranges) (s : Sized 128 c) where
  pub sized-laid : (k : ℕ) (rs : List Range) → length rs ≤ k → k ≤ 128 → Sized 128 (lay_ranges 0 k rs c)
  unfolding lay_ranges
  sized-laid k rs h g =
      record {
        node = col_long (λ r. r.node) 0 c.node s.node k rs h g;
        start = col_long (λ r. r.start) 0 c.start s.start k rs h g;
        end = col_long (λ r. r.end) 0 c.end s.end k rs h g;
        id = col_long (λ r. r.id) 0 c.id s.id k rs h g;
        stamp = col_long (λ r. r.stamp) 0 c.stamp s.stamp k rs h g;
        touched = col_long (λ r. r.touched) no_time c.touched s.touched k rs h g;
        write = col_long (λ r. r.write) 0 c.write s.write k rs h g;
      }

  range_in : (k : ℕ) (rs : List Range) → length rs ≤ k → k ≤ 128 → (i : ℕ) → i < length rs → range_at (lay_ranges 0 k rs c) i ≡ get_or rs i no_range
  unfolding lay_ranges
  range_in k rs h g i l =
      λ j. record {
        node = col_in (λ r. r.node) 0 c.node s.node k rs h g i l j;
        start = col_in (λ r. r.start) 0 c.start s.start k rs h g i l j;
        end = col_in (λ r. r.end) 0 c.end s.end k rs h g i l j;
        id = col_in (λ r. r.id) 0 c.id s.id k rs h g i l j;
        stamp = col_in (λ r. r.stamp) 0 c.stamp s.stamp k rs h g i l j;
        touched = col_in (λ r. r.touched) no_time c.touched s.touched k rs h g i l j;
        write = col_in (λ r. r.write) 0 c.write s.write k rs h g i l j;
      }

  pub laid-at : (k i : ℕ) (xs : List Range) (r : Range) (ys : List Range) → length xs ≡ i → length (xs ++ (r ∷ ys)) ≤ k → k ≤ 128
      → range_at (lay_ranges 0 k (xs ++ (r ∷ ys)) c) i ≡ r
  laid-at k i xs r ys e h g =
      rw (← e)
      (range_in k (xs ++ (r ∷ ys)) h g (length xs) (omega (arith, length-append xs (r ∷ ys))) ∙ get_or-append_seam xs r ys no_range)

  pub laid-read : (k n : ℕ) (rs : List Range) → length rs ≡ n → n ≤ k → k ≤ 128 → ranges (lay_ranges 0 k rs c) 0 n ≡ rs
  laid-read k n rs e h g =
      rw (← e)
      (ranges-rows (lay_ranges 0 k rs c) 0 (length rs)
      ∙ rows-list (range_at (lay_ranges 0 k rs c)) 0 rs no_range (λ i l. rw zero-add (range_in k rs (omega arith) g i l)))

  -- laid over with more places, with fewer
  pub wide : (n k : ℕ) (rs qs : List Range) → length rs ≤ n → n ≤ k → k ≤ 128 → lay_ranges 0 k qs (lay_ranges 0 n rs c) ≡ lay_ranges 0 k qs c
  unfolding lay_ranges
  wide n k rs qs h g l =
      ranges_eq (col_wide (λ r. r.node) 0 c.node s.node n k rs qs h g l) (col_wide (λ r. r.start) 0 c.start s.start n k rs qs h g l)
      (col_wide (λ r. r.end) 0 c.end s.end n k rs qs h g l) (col_wide (λ r. r.id) 0 c.id s.id n k rs qs h g l)
      (col_wide (λ r. r.stamp) 0 c.stamp s.stamp n k rs qs h g l) (col_wide (λ r. r.touched) no_time c.touched s.touched n k rs qs h g l)
      (col_wide (λ r. r.write) 0 c.write s.write n k rs qs h g l)

  pub narrow : (n k : ℕ) (rs qs : List Range) → length rs ≡ n → n ≤ k → k ≤ 128 → length qs ≤ n
      → lay_ranges 0 n qs (lay_ranges 0 k rs c) ≡ lay_ranges 0 k qs c
  unfolding lay_ranges
  narrow n k rs qs e h g l =
      ranges_eq (col_narrow (λ r. r.node) 0 c.node s.node n k rs qs e h g l) (col_narrow (λ r. r.start) 0 c.start s.start n k rs qs e h g l)
      (col_narrow (λ r. r.end) 0 c.end s.end n k rs qs e h g l) (col_narrow (λ r. r.id) 0 c.id s.id n k rs qs e h g l)
      (col_narrow (λ r. r.stamp) 0 c.stamp s.stamp n k rs qs e h g l)
      (col_narrow (λ r. r.touched) no_time c.touched s.touched n k rs qs e h g l)
      (col_narrow (λ r. r.write) 0 c.write s.write n k rs qs e h g l)

-- a step that is told of the columns it begins with, told of those below
module _ (c₀ : Ranges) (s : Sized 128 c₀) (F : List Range → List Range) (n k : ℕ) (rs : List Range) (c c' : Ranges) where
  pub then_wide : c ≡ lay_ranges 0 n rs c₀ → length rs ≡ n → n ≤ k → k ≤ 128 → c' ≡ lay_ranges 0 k (F (ranges c 0 n)) c → c' ≡ lay_ranges 0 k (F rs) c₀
  then_wide e m h g w =
      w
      ∙ ap (λ t. lay_ranges 0 k (F (ranges t 0 n)) t) e
      ∙ ap (λ t. lay_ranges 0 k (F t) (lay_ranges 0 n rs c₀)) (laid-read c₀ s n n rs m (omega arith) (omega arith))
      ∙ wide c₀ s n k rs (F rs) (omega arith) h g

  pub then_narrow : c ≡ lay_ranges 0 k rs c₀ → length rs ≡ n → n ≤ k → k ≤ 128 → length (F rs) ≤ n → c' ≡ lay_ranges 0 n (F (ranges c 0 n)) c
      → c' ≡ lay_ranges 0 k (F rs) c₀
  then_narrow e m h g l w =
      w
      ∙ ap (λ t. lay_ranges 0 n (F (ranges t 0 n)) t) e
      ∙ ap (λ t. lay_ranges 0 n (F t) (lay_ranges 0 k rs c₀)) (laid-read c₀ s k n rs m h g)
      ∙ narrow c₀ s n k rs (F rs) m h g l

-- ---- stores to columns that a list was laid into: the range at place i with another end, another start, or renewed

-- the columns with these starts, ends, stamps and times
abbrev pub edited : Ranges → List ℕ → List ℕ → List ℕ → List Float → Ranges
edited c start end stamp touched = ranges_of c.node start end c.id stamp touched c.write

module _ (k : ℕ) (c : Ranges) (i : ℕ) (xs : List Range) (r : Range) (ys : List Range) (e : length xs ≡ i) where
  abbrev rs : List Range
  rs = xs ++ (r ∷ ys)

  abbrev d : Ranges
  d = lay_ranges 0 k rs c

  there : i < length rs
  there = omega (arith, length-append xs (r ∷ ys))

  was : get_or rs i r ≡ r
  was = rw (← e) (get_or-append_seam xs r ys r)

  is : (q : Range) → set rs i q ≡ xs ++ (q ∷ ys)
  is q = lib.Seq.set_at xs r ys q i e

  pub end-laid : (v : ℕ) → edited d d.start (set d.end i v) d.stamp d.touched ≡ lay_ranges 0 k (xs ++ (part r r.node r.start v r.id ∷ ys)) c
  unfolding lay_ranges
  end-laid v =
      let q = part r r.node r.start v r.id in
      ranges_eq (col_keep (λ x. x.node) 0 c.node k rs i q r (sym (ap (λ x. x.node) was))) (col_keep (λ x. x.start) 0 c.start k rs i q r (sym (ap (λ x. x.start) was)))
      (col_set (λ x. x.end) 0 c.end k rs i q v refl there) (col_keep (λ x. x.id) 0 c.id k rs i q r (sym (ap (λ x. x.id) was)))
      (col_keep (λ x. x.stamp) 0 c.stamp k rs i q r (sym (ap (λ x. x.stamp) was)))
      (col_keep (λ x. x.touched) no_time c.touched k rs i q r (sym (ap (λ x. x.touched) was)))
      (col_keep (λ x. x.write) 0 c.write k rs i q r (sym (ap (λ x. x.write) was)))
      ∙ ap (λ t. lay_ranges 0 k t c) (is q)

  pub start-laid : (v : ℕ) → edited d (set d.start i v) d.end d.stamp d.touched ≡ lay_ranges 0 k (xs ++ (part r r.node v r.end r.id ∷ ys)) c
  unfolding lay_ranges
  start-laid v =
      let q = part r r.node v r.end r.id in
      ranges_eq (col_keep (λ x. x.node) 0 c.node k rs i q r (sym (ap (λ x. x.node) was))) (col_set (λ x. x.start) 0 c.start k rs i q v refl there)
      (col_keep (λ x. x.end) 0 c.end k rs i q r (sym (ap (λ x. x.end) was))) (col_keep (λ x. x.id) 0 c.id k rs i q r (sym (ap (λ x. x.id) was)))
      (col_keep (λ x. x.stamp) 0 c.stamp k rs i q r (sym (ap (λ x. x.stamp) was)))
      (col_keep (λ x. x.touched) no_time c.touched k rs i q r (sym (ap (λ x. x.touched) was)))
      (col_keep (λ x. x.write) 0 c.write k rs i q r (sym (ap (λ x. x.write) was)))
      ∙ ap (λ t. lay_ranges 0 k t c) (is q)

  pub stamp-laid : (v : ℕ) (t : Float) → edited d d.start d.end (set d.stamp i v) (set d.touched i t)
      ≡ lay_ranges 0 k (xs ++ (record { node = r.node; start = r.start; end = r.end; id = r.id; stamp = v; touched = t; write = r.write } ∷ ys)) c
  unfolding lay_ranges
  stamp-laid v t =
      let q : Range = record { node = r.node; start = r.start; end = r.end; id = r.id; stamp = v; touched = t; write = r.write } in
      ranges_eq (col_keep (λ x. x.node) 0 c.node k rs i q r (sym (ap (λ x. x.node) was))) (col_keep (λ x. x.start) 0 c.start k rs i q r (sym (ap (λ x. x.start) was)))
      (col_keep (λ x. x.end) 0 c.end k rs i q r (sym (ap (λ x. x.end) was))) (col_keep (λ x. x.id) 0 c.id k rs i q r (sym (ap (λ x. x.id) was)))
      (col_set (λ x. x.stamp) 0 c.stamp k rs i q v refl there)
      (col_set (λ x. x.touched) no_time c.touched k rs i q t refl there)
      (col_keep (λ x. x.write) 0 c.write k rs i q r (sym (ap (λ x. x.write) was)))
      ∙ ap (λ t. lay_ranges 0 k t c) (is q)
