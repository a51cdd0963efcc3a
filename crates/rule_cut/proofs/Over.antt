-- Columns whose first n places hold a list of n ranges: read at a place, and with the range there cut, they hold the list so changed.
-- Assumes nothing.
use Prim.Native.Nat.{ℕ, suc, ◌+◌, ◌-◌, ◌≤◌, ◌<◌}
use mathlib.Core.Path.{◌≡◌, refl, sym, ap, ◌∙◌}
use mathlib.Core.Bool.{true, false}
use mathlib.Core.List.{List, [], ◌∷◌, ◌++◌, map}
use native.Mathlib.Numerals.{add-one}
use native.Mathlib.Omega.{arith}
use lib.ListN.{length, get_or, set, take, drop, take-append-drop, length-append, length-map, length-drop}
use lib.Seq.{drop-cons}
use lib.Ieee.{nan}
use Rattle.model.specs.State.{Ranges, Range, range_at}
use Rattle.model.specs.Store.{ranges, lay, lay_ranges, no_time}
use Rattle.model.specs.Insert.{head, tail}
use Rattle.shape_state.specs.Lent.{ranges_of}
use Rattle.theory_lay.proofs.Rows.{ranges-rows, rows_column}
use Rattle.pool_range.specs.Cols.{cut_at}
use Rattle.pool_range.proofs.Laid.{lay-full}
use Rattle.pool_range.specs.Part.{Sized}
use Rattle.pool_range.proofs.Records.{ranges_eq}
use Rattle.rule_cut.specs.Cut.{split_range, move_range}

-- ---- one column

module _ {A : Type 0} (f : Range → A) where
  read : (hs : List Range) (r : Range) (ys : List Range) (rest : List A) (d : A) → get_or (map f (hs ++ (r ∷ ys)) ++ rest) (length hs) d ≡ f r
  read [] r ys rest d = refl
  read (h ∷ hs) r ys rest d = read hs r ys rest d

  store : (hs : List Range) (r h : Range) (ys : List Range) (rest : List A)
      → set (map f (hs ++ (r ∷ ys)) ++ rest) (length hs) (f h) ≡ map f (hs ++ (h ∷ ys)) ++ rest
  store [] r h ys rest = refl
  store (x ∷ hs) r h ys rest = ap (λ (l : List A). f x ∷ l) (store hs r h ys rest)

  -- a range that has the same in this column
  same : (hs : List Range) (r h : Range) (ys : List Range) → f r ≡ f h → map f (hs ++ (r ∷ ys)) ≡ map f (hs ++ (h ∷ ys))
  same [] r h ys e = ap (λ (x : A). x ∷ map f ys) e
  same (x ∷ hs) r h ys e = ap (λ (l : List A). f x ∷ l) (same hs r h ys e)

  push : (xs : List Range) (t : Range) (x : A) (rest : List A) → set (map f xs ++ (x ∷ rest)) (length xs) (f t) ≡ map f (xs ++ (t ∷ [])) ++ rest
  push [] t x rest = refl
  push (y ∷ xs) t x rest = ap (λ (l : List A). f y ∷ l) (push xs t x rest)

  -- the range at hand goes, those after it stand one place lower, and t is the last
  shut_here : (ys : List Range) (t : Range) (rest : List A)
      → take (length ys) (map f ys ++ rest) ++ (f t ∷ drop (length ys) (map f ys ++ rest)) ≡ map f (ys ++ (t ∷ [])) ++ rest
  shut_here [] t rest = refl
  shut_here (y ∷ ys) t rest = ap (λ (l : List A). f y ∷ l) (shut_here ys t rest)

  shut : (hs : List Range) (r : Range) (ys : List Range) (t : Range) (rest : List A)
      → take (length hs) (map f (hs ++ (r ∷ ys)) ++ rest)
      ++ (take (length ys) (drop (suc (length hs)) (map f (hs ++ (r ∷ ys)) ++ rest)) ++ (f t ∷ drop (suc (length (hs ++ ys))) (map f (hs ++ (r ∷ ys)) ++ rest)))
      ≡ map f ((hs ++ ys) ++ (t ∷ [])) ++ rest
  shut [] r ys t rest = shut_here ys t rest
  shut (h ∷ hs) r ys t rest = ap (λ (l : List A). f h ∷ l) (shut hs r ys t rest)

  module _ (n p : ℕ) (l : List A) (hs : List Range) (r : Range) (ys : List Range) (here : length hs ≡ p) (size : length (hs ++ (r ∷ ys)) ≡ n) where
    abbrev old : List A
    old = map f (hs ++ (r ∷ ys)) ++ drop n l

    read_col : (d : A) → get_or old p d ≡ f r
    read_col d = rw (← here) (read hs r ys (drop n l) d)

    -- the tail v behind the others
    tail_col : (h t : Range) (v : A) → v ≡ f t → n < length l → length (hs ++ (h ∷ ys)) ≡ n
        → set (map f (hs ++ (h ∷ ys)) ++ drop n l) n v ≡ map f ((hs ++ (h ∷ ys)) ++ (t ∷ [])) ++ drop (n + 1) l
    tail_col h t v e room long =
        rw (drop-cons l n v room, e, add-one) (rw long at (push (hs ++ (h ∷ ys)) t (get_or l n (f t)) (drop (suc n) l)))

    -- of a column that the head does not change, and of one that it does
    kept_col : (h t : Range) (v : A) → f r ≡ f h → v ≡ f t → n < length l → length (hs ++ (h ∷ ys)) ≡ n
        → set old n v ≡ map f ((hs ++ (h ∷ ys)) ++ (t ∷ [])) ++ drop (n + 1) l
    kept_col h t v e u room long = ap (λ (x : List A). set (x ++ drop n l) n v) (same hs r h ys e) ∙ tail_col h t v u room long

    split_col : (h t : Range) (v : A) → v ≡ f t → n < length l → length (hs ++ (h ∷ ys)) ≡ n
        → set (set old p (f h)) n v ≡ map f ((hs ++ (h ∷ ys)) ++ (t ∷ [])) ++ drop (n + 1) l
    split_col h t v u room long =
        let put : set old p (f h) ≡ map f (hs ++ (h ∷ ys)) ++ drop n l = rw (← here) (store hs r h ys (drop n l)) in
        ap (λ (x : List A). set x n v) put ∙ tail_col h t v u room long

    move_col : (t : Range) (v : A) → v ≡ f t → cut_at v p n old ≡ map f ((hs ++ ys) ++ (t ∷ [])) ++ drop n l
    unfolding cut_at
    move_col t v e =
        let one : p + 1 ≡ suc (length hs) = omega arith in
        let left : n - (p + 1) ≡ length ys = omega (arith, length-append hs (r ∷ ys)) in
        let all : n ≡ suc (length (hs ++ ys)) = omega (arith, length-append hs (r ∷ ys), length-append hs ys) in
        ap (λ (x : ℕ). take p old ++ (take x (drop (p + 1) old) ++ (v ∷ drop n old))) left
        ∙ ap (λ (x : ℕ). take p old ++ (take (length ys) (drop x old) ++ (v ∷ drop n old))) one
        ∙ ap (λ (x : ℕ). take x old ++ (take (length ys) (drop (suc (length hs)) old) ++ (v ∷ drop n old))) (sym here)
        ∙ ap (λ (x : ℕ). take (length hs) old ++ (take (length ys) (drop (suc (length hs)) old) ++ (v ∷ drop x old))) all
        ∙ ap (λ (x : A). take (length hs) old ++ (take (length ys) (drop (suc (length hs)) old) ++ (x ∷ drop (suc (length (hs ++ ys))) old))) e
        ∙ shut hs r ys t (drop n l)

  long_col : (n : ℕ) (xs : List Range) (l : List A) → length xs ≡ n → n ≤ length l → length (map f xs ++ drop n l) ≡ length l
  long_col n xs l e h = omega (arith, length-append (map f xs) (drop n l), length-map xs f, length-drop n l)

  back_col : (n : ℕ) (c : Ranges) (l : List A) (d : A) → n ≤ length l → ((i : ℕ) → f (range_at c i) ≡ get_or l i d) → map f (ranges c 0 n) ++ drop n l ≡ l
  back_col n c l d h e =
      rw (ranges-rows c 0 n) (ap (λ (t : List A). t ++ drop n l) (rows_column f (range_at c) l d 0 n e (omega arith)) ∙ take-append-drop n l)

  laid_col : (n : ℕ) (xs : List Range) (l : List A) (blank : A) → length xs ≡ n → map f xs ++ drop n l ≡ lay blank 0 n (map f xs) l
  laid_col n xs l blank e = sym (lay-full blank n (map f xs) l (length-map xs f ∙ e))

-- ---- seven

unfoldable pub over : ℕ → List Range → Ranges → Ranges
over n xs c =
    ranges_of
    (map (λ r. r.node) xs ++ drop n c.node)
    (map (λ r. r.start) xs ++ drop n c.start)
    (map (λ r. r.end) xs ++ drop n c.end)
    (map (λ r. r.id) xs ++ drop n c.id)
    (map (λ r. r.stamp) xs ++ drop n c.stamp)
    (map (λ r. r.touched) xs ++ drop n c.touched)
    (map (λ r. r.write) xs ++ drop n c.write)

-- over numbers, so that the lists need not be found
room_of : {n m : ℕ} → n < 128 → m ≡ 128 → n < m
room_of h e = omega arith

fits-of : {n m : ℕ} → n ≤ 128 → m ≡ 128 → n ≤ m
fits-of h e = omega arith

module _ (n p : ℕ) (c : Ranges) (hs : List Range) (r : Range) (ys : List Range) (here : length hs ≡ p) (size : length (hs ++ (r ∷ ys)) ≡ n) where
  pub read-over : range_at (over n (hs ++ (r ∷ ys)) c) p ≡ r
  unfolding over
  read-over =
      λ i. record {
        node = read_col (λ q. q.node) n p c.node hs r ys here size 0 i;
        start = read_col (λ q. q.start) n p c.start hs r ys here size 0 i;
        end = read_col (λ q. q.end) n p c.end hs r ys here size 0 i;
        id = read_col (λ q. q.id) n p c.id hs r ys here size 0 i;
        stamp = read_col (λ q. q.stamp) n p c.stamp hs r ys here size 0 i;
        touched = read_col (λ q. q.touched) n p c.touched hs r ys here size nan i;
        write = read_col (λ q. q.write) n p c.write hs r ys here size 0 i;
      }

  pub split-over : (k m id : ℕ) → n < 128 → Sized 128 c
      → split_range n p k m id (over n (hs ++ (r ∷ ys)) c) ≡ over (n + 1) ((hs ++ (head true k r ∷ ys)) ++ (tail true k m id r ∷ [])) c
  unfolding over split_range
  split-over k m id room s =
      let h = head true k r in
      let t = tail true k m id r in
      let long : length (hs ++ (h ∷ ys)) ≡ n = length-append hs (h ∷ ys) ∙ sym (length-append hs (r ∷ ys)) ∙ size in
      ranges_eq
      (kept_col (λ q. q.node) n p c.node hs r ys here size h t m refl refl (room_of room s.node) long)
      (kept_col (λ q. q.start) n p c.start hs r ys here size h t 0 refl refl (room_of room s.start) long)
      (split_col (λ q. q.end) n p c.end hs r ys here size h t _ (ap (λ (x : ℕ). x - k) (read_col (λ q. q.end) n p c.end hs r ys here size 0)) (room_of room s.end) long)
      (kept_col (λ q. q.id) n p c.id hs r ys here size h t id refl refl (room_of room s.id) long)
      (kept_col (λ q. q.stamp) n p c.stamp hs r ys here size h t _ refl (read_col (λ q. q.stamp) n p c.stamp hs r ys here size 0) (room_of room s.stamp) long)
      (kept_col (λ q. q.touched) n p c.touched hs r ys here size h t _ refl (read_col (λ q. q.touched) n p c.touched hs r ys here size nan) (room_of room s.touched) long)
      (kept_col (λ q. q.write) n p c.write hs r ys here size h t _ refl (read_col (λ q. q.write) n p c.write hs r ys here size 0) (room_of room s.write) long)

  pub move_over : (k m id : ℕ) → move_range n p k m (over n (hs ++ (r ∷ ys)) c) ≡ over n ((hs ++ ys) ++ (tail false k m id r ∷ [])) c
  unfolding over move_range
  move_over k m id =
      let t = tail false k m id r in
      ranges_eq
      (move_col (λ q. q.node) n p c.node hs r ys here size t m refl)
      (move_col (λ q. q.start) n p c.start hs r ys here size t _ (ap (λ (x : ℕ). x - k) (read_col (λ q. q.start) n p c.start hs r ys here size 0)))
      (move_col (λ q. q.end) n p c.end hs r ys here size t _ (ap (λ (x : ℕ). x - k) (read_col (λ q. q.end) n p c.end hs r ys here size 0)))
      (move_col (λ q. q.id) n p c.id hs r ys here size t _ (read_col (λ q. q.id) n p c.id hs r ys here size 0))
      (move_col (λ q. q.stamp) n p c.stamp hs r ys here size t _ (read_col (λ q. q.stamp) n p c.stamp hs r ys here size 0))
      (move_col (λ q. q.touched) n p c.touched hs r ys here size t _ (read_col (λ q. q.touched) n p c.touched hs r ys here size nan))
      (move_col (λ q. q.write) n p c.write hs r ys here size t _ (read_col (λ q. q.write) n p c.write hs r ys here size 0))

module _ (n : ℕ) (c : Ranges) (few : n ≤ 128) (s : Sized 128 c) where
  pub sized-over : (xs : List Range) → length xs ≡ n → Sized 128 (over n xs c)
  unfolding over
  sized-over xs e =
      record {
        node = long_col (λ r. r.node) n xs c.node e (fits-of few s.node) ∙ s.node;
        start = long_col (λ r. r.start) n xs c.start e (fits-of few s.start) ∙ s.start;
        end = long_col (λ r. r.end) n xs c.end e (fits-of few s.end) ∙ s.end;
        id = long_col (λ r. r.id) n xs c.id e (fits-of few s.id) ∙ s.id;
        stamp = long_col (λ r. r.stamp) n xs c.stamp e (fits-of few s.stamp) ∙ s.stamp;
        touched = long_col (λ r. r.touched) n xs c.touched e (fits-of few s.touched) ∙ s.touched;
        write = long_col (λ r. r.write) n xs c.write e (fits-of few s.write) ∙ s.write;
      }

  -- the columns hold what is read from them
  pub back-over : over n (ranges c 0 n) c ≡ c
  unfolding over
  back-over =
      ranges_eq
      (back_col (λ r. r.node) n c c.node 0 (fits-of few s.node) (λ i. refl))
      (back_col (λ r. r.start) n c c.start 0 (fits-of few s.start) (λ i. refl))
      (back_col (λ r. r.end) n c c.end 0 (fits-of few s.end) (λ i. refl))
      (back_col (λ r. r.id) n c c.id 0 (fits-of few s.id) (λ i. refl))
      (back_col (λ r. r.stamp) n c c.stamp 0 (fits-of few s.stamp) (λ i. refl))
      (back_col (λ r. r.touched) n c c.touched nan (fits-of few s.touched) (λ i. refl))
      (back_col (λ r. r.write) n c c.write 0 (fits-of few s.write) (λ i. refl))

-- with no place left blank that is the model's laying
pub laid-over : (n : ℕ) (c : Ranges) (xs : List Range) → length xs ≡ n → over n xs c ≡ lay_ranges 0 n xs c
unfolding over lay_ranges
laid-over n c xs e =
    ranges_eq
    (laid_col (λ r. r.node) n xs c.node 0 e)
    (laid_col (λ r. r.start) n xs c.start 0 e)
    (laid_col (λ r. r.end) n xs c.end 0 e)
    (laid_col (λ r. r.id) n xs c.id 0 e)
    (laid_col (λ r. r.stamp) n xs c.stamp 0 e)
    (laid_col (λ r. r.touched) n xs c.touched no_time e)
    (laid_col (λ r. r.write) n xs c.write 0 e)
