-- Ranges that a span misses stand as they are in all that a touch and a removal do; and a list is changed at one place by what stands there.
use mathlib.Core.Path.{◌≡◌, refl, ap}
use mathlib.Core.Bool.{true, false}
use mathlib.Core.List.{List, [], ◌∷◌, ◌++◌, append_assoc}
use Prim.Native.Nat.{ℕ, ◌+◌}
use lib.ListN.{length}
use lib.Seq.{take-append-add, drop-append-add, take-append_seam}
use lib.Ieee.{Float}
use Rattle.model.specs.State.{Range}
use Rattle.model.specs.Store.{meets}
use Rattle.model.specs.Touch.{overlapped, restamp, recut, new_pieces}
use Rattle.model.specs.Remove.{cut_out, middle_cuts, middle_cut}
use Rattle.theory_sound.specs.Facts.{All}
use Rattle.pool_range.specs.Cols.{insert_at, remove_at}
use Rattle.rule_overlap.specs.Overlap.{at_place}

module _ (v a z : ℕ) where
  abbrev pub Miss : Range → Type 0
  Miss r = meets v a z r ≡ false

  abbrev pub Hit : Range → Type 0
  Hit r = meets v a z r ≡ true

  pub hits_skip : (xs ys : List Range) → All Miss xs → overlapped v a z (xs ++ ys) ≡ overlapped v a z ys
  unfolding overlapped All
  hits_skip [] ys k = refl
  hits_skip (x ∷ xs) ys k = rw k.0 (hits_skip xs ys k.1)

  pub hits-all : (xs ys : List Range) → All Hit xs → overlapped v a z (xs ++ ys) ≡ xs ++ overlapped v a z ys
  unfolding overlapped All
  hits-all [] ys k = refl
  hits-all (x ∷ xs) ys k = rw k.0 (ap (λ t. x ∷ t) (hits-all xs ys k.1))

  pub restamp_skip : (stamp : ℕ) (time : Float) (xs ys : List Range) → All Miss xs
      → restamp v a z stamp time (xs ++ ys) ≡ xs ++ restamp v a z stamp time ys
  unfolding restamp All
  restamp_skip stamp time [] ys k = refl
  restamp_skip stamp time (x ∷ xs) ys k = rw k.0 (ap (λ t. x ∷ t) (restamp_skip stamp time xs ys k.1))

  pub recut_skip : (stamp : ℕ) (time : Float) (next : ℕ) (xs ys : List Range) → All Miss xs
      → recut v a z stamp time next (xs ++ ys) ≡ xs ++ recut v a z stamp time next ys
  unfolding recut All
  recut_skip stamp time next [] ys k = refl
  recut_skip stamp time next (x ∷ xs) ys k = rw k.0 (ap (λ t. x ∷ t) (recut_skip stamp time next xs ys k.1))

  pub new_skip : (xs ys : List Range) → All Miss xs → new_pieces v a z (xs ++ ys) ≡ new_pieces v a z ys
  unfolding new_pieces All
  new_skip [] ys k = refl
  new_skip (x ∷ xs) ys k = rw k.0 (new_skip xs ys k.1)

  pub out_skip : (next : ℕ) (xs ys : List Range) → All Miss xs → cut_out v a z next (xs ++ ys) ≡ xs ++ cut_out v a z next ys
  unfolding cut_out All
  out_skip next [] ys k = refl
  out_skip next (x ∷ xs) ys k = rw k.0 (ap (λ t. x ∷ t) (out_skip next xs ys k.1))

  pub middles_skip : (xs ys : List Range) → All Miss xs → middle_cuts v a z (xs ++ ys) ≡ middle_cuts v a z ys
  unfolding middle_cuts All
  middles_skip [] ys k = refl
  middles_skip (x ∷ xs) ys k = rw k.0 (middles_skip xs ys k.1)

  pub middles_none : (xs : List Range) → All (λ r. middle_cut v a z r ≡ false) xs → middle_cuts v a z xs ≡ 0
  unfolding middle_cuts All
  middles_none [] k = refl
  middles_none (x ∷ xs) k = rw k.0 (middles_none xs k.1)

-- ---- one place

seam_at : (f : Range → List Range → List Range) (xs : List Range) (r : Range) (ys : List Range) → at_place (length xs) f (xs ++ (r ∷ ys)) ≡ xs ++ f r ys
unfolding at_place
seam_at f [] r ys = refl
seam_at f (x ∷ xs) r ys = ap (λ t. x ∷ t) (seam_at f xs r ys)

pub at_seam : (f : Range → List Range → List Range) (i : ℕ) (xs : List Range) (r : Range) (ys : List Range) → length xs ≡ i
    → at_place i f (xs ++ (r ∷ ys)) ≡ xs ++ f r ys
at_seam f i xs r ys e = rw (← e) (seam_at f xs r ys)

-- a range put behind the one at the seam, and that one taken out
seam_insert : (xs : List Range) (r q : Range) (ys : List Range) → insert_at (length xs + 1) q (xs ++ (r ∷ ys)) ≡ xs ++ (r ∷ q ∷ ys)
unfolding insert_at
seam_insert xs r q ys = rw (take-append-add xs (r ∷ ys) 1, drop-append-add xs (r ∷ ys) 1) (append_assoc xs (r ∷ []) (q ∷ ys))

pub insert_seam : (xs : List Range) (r q : Range) (ys : List Range) (i : ℕ) → length xs ≡ i → insert_at (i + 1) q (xs ++ (r ∷ ys)) ≡ xs ++ (r ∷ q ∷ ys)
insert_seam xs r q ys i e = rw (← e) (seam_insert xs r q ys)

seam_remove : (xs : List Range) (r : Range) (ys : List Range) → remove_at (length xs) (xs ++ (r ∷ ys)) ≡ xs ++ ys
unfolding remove_at
seam_remove xs r ys = rw (take-append_seam xs (r ∷ ys), drop-append-add xs (r ∷ ys) 1)

pub remove_seam : (xs : List Range) (r : Range) (ys : List Range) (i : ℕ) → length xs ≡ i → remove_at i (xs ++ (r ∷ ys)) ≡ xs ++ ys
remove_seam xs r ys i e = rw (← e) (seam_remove xs r ys)
