-- A counted removal by its plain call: refused, made with its sum added, or put back where that would pass the limit. Each is one law, of the plain call's
-- outcome and of what the code has afterwards. Assumes nothing.
use Prim.Native.Nat.{ℕ, ◌*◌, ◌≤◌, ◌<◌}
use mathlib.Core.Path.{◌≡◌, refl, ap}
use mathlib.Core.Bool.{true, false}
use mathlib.Core.List.{List}
use lib.ListN.{length}
use Rattle.model.specs.declared.Book.{Book}
use Rattle.model.specs.declared.Span.{Span}
use Rattle.model.specs.declared.RemoveAnswer.{RemoveAnswer}
use Rattle.model.specs.Sizes.{out_places}
use Rattle.model.specs.State.{Tree, Ranges, Pins, State, next_id_in, stalls_in, book_in, stores_in, stores_of}
use Rattle.model.specs.Sound.{Sound}
use Rattle.model.specs.Store.{lay_book, lay_next}
use Rattle.model.specs.Calls.{refused, done, store_remove}
use Rattle.model_sums.specs.Sums.{add, passes, add_remove, by_remove, sum_places}
use Rattle.model_sums.specs.Tally.{summed, tally_remove}
use Rattle.shape_answer.specs.Answers.{outcome, store_removed_of}
use Rattle.shape_answer.specs.declared.StoreRemoved.{StoreRemoved}
use Rattle.shape_answer.specs.declared.StoreRemoved.TheVariants.{Refused, Done}
use Rattle.theory_calls.proofs.Calls.{store_remove-sound}
use Rattle.theory_sums.specs.Bounds.{Far}
use Rattle.theory_sums.proofs.Tallied.{tallied_remove, low-remove}
use Rattle.theory_sums.proofs.Never.{remove_never_passes}
use Rattle.theory_sums.proofs.Counted.{answered, answer-is, left-sound, counted-refused, counted_far, counted-made, counted-past, store_low, remove_nowhere}
use Rattle.pool_part.specs.Parts.{mid, back, back_ranges}
use Rattle.pool_undo.specs.declared.Old.{Old}
use Rattle.pool_undo.specs.Old.{old_ranges, old_from}
use Rattle.pool_undo.proofs.Calls.{columns, all_back, remove_undoes, writes-back}

module _ (st : State) (l v : List ℕ) (s : ℕ) (sp : Span) (long : sum_places ≤ length v) where
  -- 2: no such store
  pub removed_nowhere : Sound st → out_places ≤ length l → stores_of st ≤ s → outcome st (summed l v) (refused 2) ≡ tally_remove st (summed l v) s sp
  removed_nowhere h fits k = counted-refused (by_remove s) v (remove_nowhere st l s sp h fits k) refl (low-remove st (summed l v) s sp long)

  -- what the plain call left and answered
  module _ {st' : State} {l' : List ℕ} (r : StoreRemoved) (plain : outcome st' l' (store_removed_of r) ≡ store_remove st l s sp) where
    pub removed-refused : (n : ℕ) → r ≡ Refused n → outcome st' (summed l' v) (refused n) ≡ tally_remove st (summed l v) s sp
    removed-refused n e = counted-refused (by_remove s) v (answered plain (ap store_removed_of e)) refl (low-remove st (summed l v) s sp long)

    module _ (a : RemoveAnswer) (e : r ≡ Done a) where
      -- far from the limit the test may be left out
      pub removed_far : Far s v → passes (add_remove s a) v ≡ false
      removed_far far = counted_far (by_remove s) v (answered plain (ap store_removed_of e)) refl (remove_never_passes st v l s sp far)

      pub removed-made : {w : List ℕ} → passes (add_remove s a) v ≡ false → w ≡ add (add_remove s a) v
          → outcome st' (summed l' w) (done a) ≡ tally_remove st (summed l v) s sp
      removed-made = counted-made (by_remove s) v (answered plain (ap store_removed_of e)) refl (low-remove st (summed l v) s sp long)

-- The same of the columns: c, m and x are the ranges, the marks and the small numbers at entry, with one dash after the plain call, with two at the end
module _ (T : ℕ → ℕ → Tree) (ps : Pins) (bytes : List ℕ) (c c' : Ranges) (m m' x x' l l' : List ℕ) (s : ℕ) (sp : Span)
    (h : Sound (columns T ps bytes c m x)) (r : StoreRemoved)
    (plain : outcome (columns T ps bytes c' m' x') l' (store_removed_of r) ≡ store_remove (columns T ps bytes c m x) l s sp) where
  -- so the columns can be lent again
  pub removed-sound : Sound (columns T ps bytes c' m' x')
  removed-sound = left-sound plain (store_remove-sound (columns T ps bytes c m x) l s sp h)

  pub removed-late : (v : List ℕ) → sum_places ≤ length v → s < stores_in x → (a : RemoveAnswer) → r ≡ Done a → passes (add_remove s a) v ≡ true
      → (old : Old) → old ≡ old_from s c m → (b : Book) → b ≡ book_in x s → (kept : List ℕ) → kept ≡ mid 0 128 l
      → (c'' : Ranges) → c'' ≡ back_ranges (128 * s) 128 (old_ranges old) c' → (m'' : List ℕ) → m'' ≡ back (256 * s) 256 old.marks m'
      → (x'' : List ℕ) → x'' ≡ lay_next (next_id_in x) (stalls_in x) (lay_book s b x') → (l'' : List ℕ) → l'' ≡ back 0 128 kept l'
      → outcome (columns T ps bytes c'' m'' x'') (summed l'' v) (refused 21) ≡ tally_remove (columns T ps bytes c m x) (summed l v) s sp
  removed-late v long less a e past old is-old b is_b kept is-kept c'' ec m'' em x'' ex l'' el =
      let st = columns T ps bytes c m x in
      let d = answered plain (ap store_removed_of e) in
      counted-past (by_remove s) v d refl (tallied_remove st (summed l v) s sp long) a refl past
      (all_back T ps bytes c c' c'' m m' m'' x x' x'' s old b (back 0 128) (refused 21) (remove_undoes st s h less (store_low st s h less) l sp)
      (writes-back st l s sp a (answer-is d)) d is-old is_b is-kept ec em ex el)
