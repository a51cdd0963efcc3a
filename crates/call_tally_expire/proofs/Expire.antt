-- A counted expiry by its plain call: refused, made with its sums added, or put back where one of them would pass the limit. Each is one law, of the plain
-- call's outcome and of what the code has afterwards. Assumes nothing.
use Prim.Native.Nat.{ℕ, ◌*◌, ◌≤◌, ◌<◌}
use mathlib.Core.Path.{◌≡◌, refl, ap}
use mathlib.Core.Bool.{true, false}
use mathlib.Core.List.{List}
use lib.ListN.{length}
use lib.Ieee.{Float}
use Rattle.model.specs.declared.Book.{Book}
use Rattle.model.specs.declared.ExpireAnswer.{ExpireAnswer}
use Rattle.model.specs.State.{Tree, Ranges, Pins, State, next_id_in, stalls_in, book_in, stores_in, stores_of}
use Rattle.model.specs.Sound.{Sound}
use Rattle.model.specs.Store.{lay_book, lay_next}
use Rattle.model.specs.Refusals.{OutList, OutFits}
use Rattle.model.specs.Calls.{refused, done, store_expire}
use Rattle.model_sums.specs.Sums.{add, passes, by_expire, sum_places}
use Rattle.model_sums.specs.Tally.{summed, tally_expire}
use Rattle.shape_answer.specs.Answers.{outcome, store_expired_of}
use Rattle.shape_answer.specs.declared.StoreExpired.{StoreExpired}
use Rattle.shape_answer.specs.declared.StoreExpired.TheVariants.{Refused, Done}
use Rattle.theory_calls.proofs.Calls.{store_expire-sound}
use Rattle.theory_sums.specs.Bounds.{Far}
use Rattle.theory_sums.proofs.Tallied.{tallied_expire, low-expire}
use Rattle.theory_sums.proofs.Bounds.{expire-most}
use Rattle.theory_sums.proofs.Never.{expire_never_passes}
use Rattle.theory_sums.proofs.Counted.{answered, answer-is, left-sound, counted-refused, counted_far, counted-made, counted-past, store_low, expire_nowhere}
use Rattle.pool_part.specs.Parts.{back, back_ranges}
use Rattle.pool_undo.specs.declared.Old.{Old}
use Rattle.pool_undo.specs.declared.OldOuts.{OldOuts}
use Rattle.pool_undo.specs.Old.{old_ranges, old_from, old_outs, outs_back}
use Rattle.pool_undo.proofs.Calls.{columns, all_back, expire_undoes, expired-back}
use Rattle.pool_sums.specs.declared.OutSums.{OutSums}
use Rattle.pool_sums.specs.Amounts.{Listed, out_sums, expire_more}
use Rattle.pool_sums.proofs.Listed.{sum_columns, outs-listed}

module _ (st : State) (l : OutList) (s : ℕ) (time seconds : Float) where
  -- what the plain call left and answered
  module _ {st' : State} {l' : OutList} (r : StoreExpired) (plain : outcome st' l' (store_expired_of r) ≡ store_expire st l s time seconds) where
    -- so the columns can be lent again
    pub expired-sound : Sound st → Sound st'
    expired-sound h = left-sound plain (store_expire-sound st l s time seconds h)

    -- what it gave out can be summed
    pub expired-listed : (a : ExpireAnswer) → r ≡ Done a → OutFits l' → Listed a.outs (sum_columns l')
    expired-listed a e = let d = answered plain (ap store_expired_of e) in outs-listed d (expire-most st l s time seconds a (answer-is d))

  module _ (v : List ℕ) (long : sum_places ≤ length v) where
    -- 2: no such store
    pub expired_nowhere : Sound st → OutFits l → stores_of st ≤ s → outcome st (summed l v) (refused 2) ≡ tally_expire st (summed l v) s time seconds
    expired_nowhere h fits k =
        counted-refused (by_expire s) v (expire_nowhere st l s time seconds h fits k) refl (low-expire st (summed l v) s time seconds long)

    module _ {st' : State} {l' : OutList} (r : StoreExpired) (plain : outcome st' l' (store_expired_of r) ≡ store_expire st l s time seconds) where
      pub expired-refused : (n : ℕ) → r ≡ Refused n → outcome st' (summed l' v) (refused n) ≡ tally_expire st (summed l v) s time seconds
      expired-refused n e = counted-refused (by_expire s) v (answered plain (ap store_expired_of e)) refl (low-expire st (summed l v) s time seconds long)

      -- accepted, and the sums of what it gave out are o
      module _ (a : ExpireAnswer) (e : r ≡ Done a) (o : OutSums) (is-o : o ≡ out_sums a.outs (sum_columns l')) where
        -- far from the limit the test may be left out
        pub expired_far : Far s v → passes (expire_more s o) v ≡ false
        expired_far far = counted_far (by_expire s) v (answered plain (ap store_expired_of e)) (ap (expire_more s) is-o) (expire_never_passes st v l s time seconds far)

        pub expired-made : {w : List ℕ} → passes (expire_more s o) v ≡ false → w ≡ add (expire_more s o) v
            → outcome st' (summed l' w) (done a) ≡ tally_expire st (summed l v) s time seconds
        expired-made =
            counted-made (by_expire s) v (answered plain (ap store_expired_of e)) (ap (expire_more s) is-o) (low-expire st (summed l v) s time seconds long)

-- The same of the columns: c, m and x are the ranges, the marks and the small numbers at entry, with one dash after the plain call, with two at the end
module _ (T : ℕ → ℕ → Tree) (ps : Pins) (bytes : List ℕ) (c c' c'' : Ranges) (m m' m'' x x' x'' : List ℕ) (l l' l'' : OutList) (s : ℕ) (time seconds : Float) where
  pub expired-late : (v : List ℕ) → sum_places ≤ length v → Sound (columns T ps bytes c m x) → s < stores_in x
      → (r : StoreExpired) → outcome (columns T ps bytes c' m' x') l' (store_expired_of r) ≡ store_expire (columns T ps bytes c m x) l s time seconds
      → (a : ExpireAnswer) → r ≡ Done a → (o : OutSums) → o ≡ out_sums a.outs (sum_columns l') → passes (expire_more s o) v ≡ true
      → (old : Old) → old ≡ old_from s c m → (b : Book) → b ≡ book_in x s → (kept : OldOuts) → kept ≡ old_outs l
      → c'' ≡ back_ranges (128 * s) 128 (old_ranges old) c' → m'' ≡ back (256 * s) 256 old.marks m'
      → x'' ≡ lay_next (next_id_in x) (stalls_in x) (lay_book s b x') → l'' ≡ outs_back kept l'
      → outcome (columns T ps bytes c'' m'' x'') (summed l'' v) (refused 21) ≡ tally_expire (columns T ps bytes c m x) (summed l v) s time seconds
  expired-late v long h less r plain a e o is-o past old is-old b is_b kept is-kept ec em ex el =
      let st = columns T ps bytes c m x in
      let d = answered plain (ap store_expired_of e) in
      counted-past (by_expire s) v d (ap (expire_more s) is-o) (tallied_expire st (summed l v) s time seconds long) a refl past
      (all_back T ps bytes c c' c'' m m' m'' x x' x'' s old b outs_back (refused 21) (expire_undoes st s h less (store_low st s h less) l time seconds)
      (expired-back st l s time seconds a (answer-is d)) d is-old is_b is-kept ec em ex el)
