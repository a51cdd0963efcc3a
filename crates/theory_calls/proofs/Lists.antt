-- Laws of a list that reads places: what holds of each element and of every two in order holds at the places, and the other way round. Assumes nothing.
use Prim.Native.Nat.{ℕ, ◌<◌, zero-le}
use mathlib.Core.Path.{◌≡◌, sym, subst, subst₂}
use mathlib.Core.List.{List}
use native.Mathlib.Omega.{arith}
use lib.ListN.{length, get_or}
use Rattle.model.specs.Words.{Each, Pairs}
use Rattle.model.specs.State.{Tree}
use Rattle.model.specs.Store.{Store}
use Rattle.theory_sound.specs.Facts.{All, InOrder}
use Rattle.theory_sound.specs.StoreSound.{StoreSound}
use Rattle.theory_bring.proofs.Facts.{all-at, all_from, order-at, order_from}

-- a list that reads n places, of which f says what stands there
pub record Reads {A : Type 0} (f : ℕ → A) (n : ℕ) (xs : List A) : Type 0 where
  pub long : length xs ≡ n
  pub place : (k : ℕ) → k < n → get_or xs k (f 0) ≡ f k

module _ {A : Type 0} {f : ℕ → A} {n : ℕ} {xs : List A} (reads : Reads f n xs) where
  pub each_all : (P : A → Type 0) → Each 0 n (λ k. P (f k)) → All P xs
  each_all P h =
      all_from P (f 0) xs
      (λ k l.
      let m : k < n = omega (arith, reads.long) in
      subst P (sym (reads.place k m)) (h k zero-le m))

  pub all-each : (P : A → Type 0) → All P xs → Each 0 n (λ k. P (f k))
  all-each P h k low high = subst P (reads.place k high) (all-at P (f 0) xs h k (omega (arith, reads.long)))

  pub pairs-order : (R : A → A → Type 0) → Pairs n (λ j k. R (f j) (f k)) → InOrder R xs
  pairs-order R h =
      order_from R (f 0) xs
      (λ j k l m.
      let e : k < n = omega (arith, reads.long) in
      subst₂ R (sym (reads.place j (omega arith))) (sym (reads.place k e)) (h j k l e))

  pub order-pairs : (R : A → A → Type 0) → InOrder R xs → Pairs n (λ j k. R (f j) (f k))
  order-pairs R h j k l m =
      subst₂ R (reads.place j (omega arith)) (reads.place k m) (order-at R (f 0) xs h j k l (omega (arith, reads.long)))

-- ---- a store for an equal tree

pub same-tree : {t u : Tree} {next : ℕ} {x : Store} → t ≡ u → StoreSound u next x → StoreSound t next x
same-tree e h = rw e h
