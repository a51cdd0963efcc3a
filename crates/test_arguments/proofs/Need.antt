-- What is needed fits below each limit where the number is 0, and only there. Assumes nothing.
use Prim.Native.Nat.{ℕ, ◌+◌, ◌≤◌}
use mathlib.Core.Path.{◌≡◌, refl}
use mathlib.Core.Bool.{Bool, true, false, ◌||◌}
use native.Mathlib.Omega.{arith}
use lib.Dec.{ltb}
use borrow.Author.Tests.{le-ltb, ltb-false}
use Rattle.model.specs.Words.{pick}
use Rattle.model.specs.Sizes.{store_records, max_stamp}
use Rattle.test_arguments.specs.Need.{need_number}

module _ (n need top stamps next : ℕ) where
  pub number_0 : n + need ≤ store_records → top + stamps ≤ max_stamp → next + need ≤ max_stamp → 0 ≡ need_number n need top stamps next
  number_0 room early late = simp (le-ltb store_records (n + need) room, le-ltb max_stamp (top + stamps) early, le-ltb max_stamp (next + need) late)

  -- and the other way round: 0 says that all fits
  pub number_fits : 0 ≡ need_number n need top stamps next → (n + need ≤ store_records) × (top + stamps ≤ max_stamp) × (next + need ≤ max_stamp)
  number_fits = go (ltb store_records (n + need)) (ltb max_stamp (top + stamps)) (ltb max_stamp (next + need)) refl refl refl
    where
      go : (a b c : Bool) → ltb store_records (n + need) ≡ a → ltb max_stamp (top + stamps) ≡ b → ltb max_stamp (next + need) ≡ c
          → 0 ≡ pick {A = ℕ} a 8 (pick (b || c) 11 0) → (n + need ≤ store_records) × (top + stamps ≤ max_stamp) × (next + need ≤ max_stamp)
      go true b c p q r e = absurd (omega arith)
      go false true c p q r e = absurd (omega arith)
      go false false true p q r e = absurd (omega arith)
      go false false false p q r e =
          (omega (arith, ltb-false store_records (n + need) p), omega (arith, ltb-false max_stamp (top + stamps) q), omega (arith, ltb-false max_stamp (next + need) r))
