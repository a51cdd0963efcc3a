-- A counted bring-in by its plain call: refused, made with its sums added, or put back where one of them would pass the limit. Each is one law, of the plain
-- call's outcome and of what the code has afterwards. Assumes nothing.
use Prim.Native.Nat.{ℕ, ◌*◌, ◌≤◌, ◌<◌}
use mathlib.Core.Path.{◌≡◌, refl, ap}
use mathlib.Core.Bool.{true, false}
use mathlib.Core.List.{List}
use lib.ListN.{length}
use lib.Ieee.{Float}
use Rattle.model.specs.declared.Book.{Book}
use Rattle.model.specs.declared.Span.{Span}
use Rattle.model.specs.declared.BringAnswer.{BringAnswer}
use Rattle.model.specs.State.{Tree, Ranges, Pins, State, next_id_in, stalls_in, book_in, stores_in, stores_of, book_of, capacity_of}
use Rattle.model.specs.Sound.{Sound}
use Rattle.model.specs.Store.{lay_book, lay_next}
use Rattle.model.specs.Refusals.{OutList, OutFits}
use Rattle.model.specs.Calls.{refused, done, store_insert}
use Rattle.model_sums.specs.Sums.{add, passes, by_bring, sum_places}
use Rattle.model_sums.specs.Tally.{summed, tally_insert}
use Rattle.shape_answer.specs.Answers.{outcome, store_inserted_of}
use Rattle.shape_answer.specs.declared.StoreInserted.{StoreInserted}
use Rattle.shape_answer.specs.declared.StoreInserted.TheVariants.{Refused, Done}
use Rattle.theory_calls.proofs.Calls.{store_insert-sound}
use Rattle.theory_sums.specs.Bounds.{Far}
use Rattle.theory_sums.proofs.Tallied.{tallied_insert, low-insert}
use Rattle.theory_sums.proofs.Bounds.{insert-most}
use Rattle.theory_sums.proofs.Never.{insert_never_passes}
use Rattle.theory_sums.proofs.Counted.{answered, answer-is, left-sound, counted-refused, counted_far, counted-made, counted-past, store_low, insert_nowhere}
use Rattle.pool_part.specs.Parts.{back, back_ranges}
use Rattle.pool_undo.specs.declared.Old.{Old}
use Rattle.pool_undo.specs.declared.OldOuts.{OldOuts}
use Rattle.pool_undo.specs.Old.{old_ranges, old_from, old_outs, outs_back}
use Rattle.pool_undo.proofs.Calls.{columns, all_back, insert_undoes, brought-back}
use Rattle.pool_sums.specs.declared.OutSums.{OutSums}
use Rattle.pool_sums.specs.Amounts.{Listed, out_sums, bring_more}
use Rattle.pool_sums.proofs.Listed.{sum_columns, outs-listed}

module _ (st : State) (l : OutList) (v : List ℕ) (s : ℕ) (sp : Span) (time : Float) (w : ℕ) (long : sum_places ≤ length v) where
  -- 2: no such store
  pub brought_nowhere : Sound st → OutFits l → stores_of st ≤ s → outcome st (summed l v) (refused 2) ≡ tally_insert st (summed l v) s sp time w
  brought_nowhere h fits k =
      counted-refused (by_bring (capacity_of st s) s) v (insert_nowhere st l s sp time w h fits k) refl (low-insert st (summed l v) s sp time w long)

  -- what the plain call left and answered
  module _ {st' : State} {l' : OutList} (r : StoreInserted) (plain : outcome st' l' (store_inserted_of r) ≡ store_insert st l s sp time w) where
    pub brought-refused : (n : ℕ) → r ≡ Refused n → outcome st' (summed l' v) (refused n) ≡ tally_insert st (summed l v) s sp time w
    brought-refused n e =
        counted-refused (by_bring (capacity_of st s) s) v (answered plain (ap store_inserted_of e)) refl (low-insert st (summed l v) s sp time w long)

    module _ (a : BringAnswer) (e : r ≡ Done a) where
      -- what it gave out can be summed
      pub brought-listed : OutFits l' → Listed a.outs (sum_columns l')
      brought-listed = let d = answered plain (ap store_inserted_of e) in outs-listed d (insert-most st l s sp time w a (answer-is d)).1

      -- the store's own numbers, and the sums of what was given out
      module _ (b : Book) (is_b : b ≡ book_of st s) (o : OutSums) (is-o : o ≡ out_sums a.outs (sum_columns l')) where
        -- far from the limit the test may be left out
        pub brought_far : Far s v → passes (bring_more b.capacity s a.blocks o) v ≡ false
        brought_far far =
            counted_far (by_bring (capacity_of st s) s) v (answered plain (ap store_inserted_of e)) (λ i. bring_more (is_b i).capacity s a.blocks (is-o i))
            (insert_never_passes st v l s sp time w far)

        pub brought-made : {u : List ℕ} → passes (bring_more b.capacity s a.blocks o) v ≡ false → u ≡ add (bring_more b.capacity s a.blocks o) v
            → outcome st' (summed l' u) (done a) ≡ tally_insert st (summed l v) s sp time w
        brought-made =
            counted-made (by_bring (capacity_of st s) s) v (answered plain (ap store_inserted_of e)) (λ i. bring_more (is_b i).capacity s a.blocks (is-o i))
            (low-insert st (summed l v) s sp time w long)

-- The same of the columns: c, m and x are the ranges, the marks and the small numbers at entry, with one dash after the plain call, with two at the end
module _ (T : ℕ → ℕ → Tree) (ps : Pins) (bytes : List ℕ) (c c' : Ranges) (m m' x x' : List ℕ) (l l' : OutList) (s : ℕ) (sp : Span) (time : Float) (w : ℕ)
    (h : Sound (columns T ps bytes c m x)) (r : StoreInserted)
    (plain : outcome (columns T ps bytes c' m' x') l' (store_inserted_of r) ≡ store_insert (columns T ps bytes c m x) l s sp time w) where
  -- so the columns can be lent again
  pub brought-sound : Sound (columns T ps bytes c' m' x')
  brought-sound = left-sound plain (store_insert-sound (columns T ps bytes c m x) l s sp time w h)

  pub brought-late : (v : List ℕ) → sum_places ≤ length v → s < stores_in x → (a : BringAnswer) → r ≡ Done a → (b : Book) → b ≡ book_in x s
      → (o : OutSums) → o ≡ out_sums a.outs (sum_columns l') → passes (bring_more b.capacity s a.blocks o) v ≡ true
      → (old : Old) → old ≡ old_from s c m → (kept : OldOuts) → kept ≡ old_outs l
      → (c'' : Ranges) → c'' ≡ back_ranges (128 * s) 128 (old_ranges old) c' → (m'' : List ℕ) → m'' ≡ back (256 * s) 256 old.marks m'
      → (x'' : List ℕ) → x'' ≡ lay_next (next_id_in x) (stalls_in x) (lay_book s b x') → (l'' : OutList) → l'' ≡ outs_back kept l'
      → outcome (columns T ps bytes c'' m'' x'') (summed l'' v) (refused 21) ≡ tally_insert (columns T ps bytes c m x) (summed l v) s sp time w
  brought-late v long less a e b is_b o is-o past old is-old kept is-kept c'' ec m'' em x'' ex l'' el =
      let st = columns T ps bytes c m x in
      let d = answered plain (ap store_inserted_of e) in
      counted-past (by_bring (capacity_of st s) s) v d (λ i. bring_more (is_b i).capacity s a.blocks (is-o i))
      (tallied_insert st (summed l v) s sp time w long) a refl past
      (all_back T ps bytes c c' c'' m m' m'' x x' x'' s old b outs_back (refused 21) (insert_undoes st s h less (store_low st s h less) sp time w l)
      (brought-back st l s sp time w a (answer-is d)) d is-old is_b is-kept ec em ex el)
