-- Held is the number of names: the names of each range's blocks, one range after another, are as many as the lengths add up to. Sorted ranges share no
-- block and two blocks have two names, so no name comes twice. Assumes nothing.
use Prim.Native.Nat.{ℕ, zero, suc, ◌+◌, ◌≤◌, ◌<◌}
use mathlib.Core.Path.{◌≡◌, refl, sym, ap, subst, ◌∙◌}
use mathlib.Core.Logic.{◌⊎◌, inl, inr, ⊎_elim}
use mathlib.Core.List.{List, [], ◌∷◌}
use native.Mathlib.Omega.{arith}
use lib.ListN.{length}
use Rattle.model.specs.State.{Tree, Range}
use Rattle.model.specs.Sound.{Before}
use Rattle.model.specs.Store.{length_of, total}
use Rattle.model.specs.Blocks.{In, Holds}
use Rattle.theory_sound.specs.Facts.{All, InOrder, Sorted}
use Rattle.theory_history.specs.Names.{name_of, Named}
use Rattle.theory_history.specs.History.{Has, NoTwo}
use Rattle.theory_history.proofs.Blocks.{lt_or_le}

all_had : {P : List ℕ → Type 0} (ns : List (List ℕ)) → ((w : List ℕ) → Has w ns → P w) → All P ns
unfolding All Has
all_had [] f = tt
all_had (n ∷ ns) f = (f n (inl refl), all_had ns (λ w h. f w (inr h)))

-- the range has no block of those after it
clear : (r : Range) (rs : List Range) (n o : ℕ) → All (Before r) rs → In n o r → Holds rs n o → ⊥
unfolding All Holds
clear r [] n o b x h = h
clear r (p ∷ rs) n o b x (inl y) = omega (arith, x.high, y.low, b.0.apart (x.node ∙ sym y.node))
clear r (p ∷ rs) n o b x (inr y) = clear r rs n o b.1 x y

-- one of k blocks of node n, from a on, has the name w
record InRow (t : Tree) (n a k : ℕ) (w : List ℕ) : Type 0 where
  offset : ℕ
  low : a ≤ offset
  high : offset < a + k
  name : name_of t n offset ≡ w

module _ (t : Tree) where
  -- ---- the names of k blocks of node n, from a on, and then others

  row : ℕ → ℕ → ℕ → List (List ℕ) → List (List ℕ)
  row n a zero ns = ns
  row n a (suc k) ns = name_of t n a ∷ row n (suc a) k ns

  row_length : (n a k : ℕ) (ns : List (List ℕ)) → length (row n a k ns) ≡ k + length ns
  unfolding row
  row_length n a zero ns = omega arith
  row_length n a (suc k) ns = omega (arith, row_length n (suc a) k ns)

  of_row : (n a k : ℕ) (ns : List (List ℕ)) (w : List ℕ) → Has w (row n a k ns) → InRow t n a k w ⊎ Has w ns
  unfolding row Has
  of_row n a zero ns w h = inr h
  of_row n a (suc k) ns w (inl e) = inl (record { offset = a; low = omega arith; high = omega arith; name = e })
  of_row n a (suc k) ns w (inr h) =
      ⊎_elim (λ x. inl (record { offset = x.offset; low = omega (arith, x.low); high = omega (arith, x.high); name = x.name })) (λ x. inr x)
      (of_row n (suc a) k ns w h)

  in_row : (n a k : ℕ) (ns : List (List ℕ)) (w : List ℕ) → InRow t n a k w → Has w (row n a k ns)
  unfolding row Has
  in_row n a zero ns w x = absurd (omega (arith, x.low, x.high))
  in_row n a (suc k) ns w x =
      ⊎_elim
      (λ (l : a < x.offset). inr (in_row n (suc a) k ns w (record { offset = x.offset; low = l; high = omega (arith, x.high); name = x.name })))
      (λ (l : x.offset ≤ a). let e : a ≡ x.offset = omega (arith, x.low) in inl (ap (name_of t n) e ∙ x.name))
      (lt_or_le a x.offset)

  past_row : (n a k : ℕ) (ns : List (List ℕ)) (w : List ℕ) → Has w ns → Has w (row n a k ns)
  unfolding row Has
  past_row n a zero ns w h = h
  past_row n a (suc k) ns w h = inr (past_row n (suc a) k ns w h)

  row-once : (n a k : ℕ) (ns : List (List ℕ)) → NoTwo ns
      → ((o p : ℕ) → a ≤ o → o < p → p < a + k → name_of t n o ≡ name_of t n p → ⊥)
      → ((o : ℕ) (w : List ℕ) → a ≤ o → o < a + k → Has w ns → name_of t n o ≡ w → ⊥)
      → NoTwo (row n a k ns)
  unfolding row InOrder
  row-once n a zero ns h f g = h
  row-once n a (suc k) ns h f g = (
    all_had (row n (suc a) k ns)
        (λ w x e.
        ⊎_elim (λ y. f a y.offset (omega arith) y.low (omega (arith, y.high)) (e ∙ sym y.name))
        (λ y. g a w (omega arith) (omega arith) y e) (of_row n (suc a) k ns w x)),
    row-once n (suc a) k ns h (λ o p l m u. f o p (omega arith) m (omega arith)) (λ o w l u. g o w (omega arith) (omega arith)),
  )

  -- ---- the names of the blocks that ranges hold

  pub names_of : List Range → List (List ℕ)
  unfolding row
  names_of [] = []
  names_of (r ∷ rs) = row r.node r.start (length_of r) (names_of rs)

  pub names_length : (rs : List Range) → length (names_of rs) ≡ total rs
  unfolding names_of total
  names_length [] = refl
  names_length (r ∷ rs) = row_length r.node r.start (length_of r) (names_of rs) ∙ ap (λ k. length_of r + k) (names_length rs)

  pub names-held : (rs : List Range) (w : List ℕ) → Has w (names_of rs) → Named t (Holds rs) w
  unfolding names_of Has Holds
  names-held [] w h = absurd h
  names-held (r ∷ rs) w h =
      ⊎_elim
      (λ x.
      record {
        node = r.node;
        offset = x.offset;
        is = inl (record { node = refl; low = x.low; high = omega (arith, x.low, x.high) });
        name = x.name;
      })
      (λ x. let y = names-held rs w x in record { node = y.node; offset = y.offset; is = inr y.is; name = y.name })
      (of_row r.node r.start (length_of r) (names_of rs) w h)

  pub held-names : (rs : List Range) (n o : ℕ) (w : List ℕ) → Holds rs n o → name_of t n o ≡ w → Has w (names_of rs)
  unfolding names_of Holds
  held-names [] n o w h e = absurd h
  held-names (r ∷ rs) n o w (inl x) e =
      in_row r.node r.start (length_of r) (names_of rs) w
      (record { offset = o; low = x.low; high = omega (arith, x.low, x.high); name = ap (λ m. name_of t m o) x.node ∙ e })
  held-names (r ∷ rs) n o w (inr x) e = past_row r.node r.start (length_of r) (names_of rs) w (held-names rs n o w x e)

  pub names-once : (rs : List Range) → Sorted rs
      → ((n o m p : ℕ) → Holds rs n o → Holds rs m p → name_of t n o ≡ name_of t m p → (n ≡ m) × (o ≡ p))
      → NoTwo (names_of rs)
  unfolding names_of Holds InOrder
  names-once [] s d = tt
  names-once (r ∷ rs) s d =
      let here : (o : ℕ) → r.start ≤ o → o < r.start + length_of r → In r.node o r =
      λ o l u. record { node = refl; low = l; high = omega arith }
      in
      row-once r.node r.start (length_of r) (names_of rs) (names-once rs s.1 (λ n o m p x y. d n o m p (inr x) (inr y)))
      (λ o p l m u e.
      let k = d r.node o r.node p (inl (here o l (omega arith))) (inl (here p (omega arith) u)) e in omega (arith, k.1))
      (λ o w l u x e.
      let y = names-held rs w x in
      let k = d r.node o y.node y.offset (inl (here o l u)) (inr y.is) (e ∙ sym y.name) in
      clear r rs r.node o s.0 (here o l u)
      (subst (λ v. Holds rs v o) (sym k.0) (subst (Holds rs y.node) (sym k.1) y.is)))
