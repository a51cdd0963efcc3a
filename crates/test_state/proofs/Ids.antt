-- Place p of the pool is record p % 128 of store p / 128: so ids differ by places exactly where they differ by stores and records. Assumes nothing.
use Prim.Native.Nat.{ℕ, ◌+◌, ◌*◌, ◌<◌, ◌/◌, ◌%◌}
use mathlib.Core.Path.{◌≡◌, sym, ◌∙◌, ap}
use mathlib.Core.List.{List}
use native.Mathlib.Omega.{arith}
use Rattle.model.specs.Words.{Each}
use Rattle.model.specs.State.{State, at, book_in, stores_of}
use Rattle.model.specs.Sound.{IdsDiffer}
use Rattle.test_state.specs.Ids.{Live, Differ}
use Rattle.test_state.specs.Stores.{CountsFit}

store_of : (s j : ℕ) → j < 128 → (128 * s + j) / 128 ≡ s
store_of s j l = omega arith

record_of_lem : (s j : ℕ) → j < 128 → (128 * s + j) % 128 ≡ j
record_of_lem s j l = omega arith

place_of : (p : ℕ) → 128 * (p / 128) + p % 128 ≡ p
place_of p = omega arith

below_of : (p n : ℕ) → p < 128 * n → p / 128 < n
below_of p n l = omega arith

live_at : (l : List ℕ) (s j : ℕ) → j < 128 → j < (book_in l s).records → Live l (128 * s + j)
live_at l s j h u = rw (store_of s j h, record_of_lem s j h) u

module _ (st : State) where
  pub ids-of : Each 0 (stores_of st) (CountsFit st.books) → Differ st.ranges.id st.books (128 * stores_of st) → IdsDiffer st
  unfolding IdsDiffer Differ
  ids-of counts d s fs ls j fj lj q fq lq k fk lk e =
      let few = (counts s fs ls).records in
      let fewer = (counts q fq lq).records in
      let one : 128 * s + j ≡ 128 * q + k =
      d (128 * s + j) (128 * q + k) (omega arith) (omega arith) (live_at st.books s j (omega arith) lj)
      (live_at st.books q k (omega arith) lk) e in
      record { store = omega arith; place = omega arith }

  pub ids_at : IdsDiffer st → Differ st.ranges.id st.books (128 * stores_of st)
  unfolding IdsDiffer Differ
  ids_at d i p li lp ui up e =
      let one = d (i / 128) (omega arith) (below_of i _ li) (i % 128) (omega arith) ui (p / 128) (omega arith) (below_of p _ lp) (p % 128) (omega arith) up
      (ap (at st.ranges.id) (place_of i) ∙ e ∙ sym (ap (at st.ranges.id) (place_of p))) in
      omega (arith, one.store, one.place, place_of i, place_of p)
