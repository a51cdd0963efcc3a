-- What a lookup's answer says of the sums: how much it adds, whether a sum would pass the limit, on its own lists or on others, and that the plain call
-- with the sums added is the counted call. Assumes nothing.
use Prim.Native.Nat.{ℕ, ◌≤◌}
use mathlib.Core.Path.{◌≡◌, refl, sym, ap, subst, ◌∙◌}
use mathlib.Core.Bool.{Bool, false}
use mathlib.Core.List.{List}
use native.Mathlib.Nat.{le_refl}
use native.Mathlib.Omega.{arith}
use lib.ListN.{length, replicate}
use Rattle.model.specs.declared.LookupAnswer.{LookupAnswer}
use Rattle.model.specs.Words.{Says}
use Rattle.model.specs.Sizes.{path_places, tier_places}
use Rattle.model.specs.State.{State}
use Rattle.model.specs.Refusals.{PathFits, TierFits}
use Rattle.model.specs.Calls.{Answer, refused, done, LookupLists, lookup}
use Rattle.model_sums.specs.Sums.{More, add, Passes, passes, max_sum, sum_places, all_tiers, add_lookup, more_if, by_lookup}
use Rattle.model_sums.specs.Tally.{summed, tally_lookup}
use Rattle.shape_answer.specs.Lists.{path_list_of, tier_list_of, lists_of}
use Rattle.shape_answer.specs.Answers.{outcome}
use Rattle.theory_sums.proofs.Bounds.{look_most}
use Rattle.theory_sums.proofs.Counted.{answered, answer-is, counted-refused, counted_far, counted-made}
use Rattle.theory_sums.proofs.Lent.{lookup-alike}
use Rattle.theory_sums.proofs.Tallied.{passes-says, tallied_lookup, low-lookup, late_is}
use Rattle.pool_sums.specs.Amounts.{look_more}

-- ---- by the answer

-- only an accepted lookup passes a limit
passed-done : (x : Answer LookupAnswer) (v : List ℕ) → Passes (more_if x add_lookup) v → (a : LookupAnswer) × (x ≡ done a)
unfolding Passes
passed-done (refused n) v p = absurd p
passed-done (done a) v p = (a, refl)

-- it adds what is read of its answer, n blocks and b bytes
done-adds : (a : LookupAnswer) (n b : ℕ) → n ≡ all_tiers a.blocks → b ≡ all_tiers a.bytes → look_more n b ≡ add_lookup a
done-adds a n b blocks bytes = λ i. look_more (blocks i) (bytes i)

-- ---- lists of zeros, for a trial

abbrev pub zeros : LookupLists
zeros =
    lists_of (path_list_of (replicate path_places 0) (replicate path_places 0))
    (tier_list_of (replicate tier_places 0) (replicate tier_places 0) (replicate tier_places 0) (replicate tier_places 0))

pub zeros-path : PathFits zeros.path
zeros-path = record { node = le_refl path_places; len = le_refl path_places }

pub zeros-spans : TierFits zeros.spans
zeros-spans = record { tier = le_refl tier_places; node = le_refl tier_places; start = le_refl tier_places; end = le_refl tier_places }

module _ (st : State) (ts hs : List ℕ) where
  -- a sum would pass: 21
  pub looked-late : (l : LookupLists) (v : List ℕ) → sum_places ≤ length v → Passes (by_lookup (lookup st l ts hs)) v
      → outcome st (summed l v) (refused 21) ≡ tally_lookup st (summed l v) ts hs
  looked-late l v long p =
      let (a, e) = passed-done (lookup st l ts hs).answer v p in sym (late_is (tallied_lookup st (summed l v) ts hs long) a e p)

  -- a plain lookup was lent the lists l, left m and answered x
  module _ (l m : LookupLists) {x : Answer LookupAnswer} (is : outcome st m x ≡ lookup st l ts hs) where
    -- what it adds fits
    pub looked-fits : (a : LookupAnswer) → x ≡ done a → (all_tiers a.blocks ≤ max_sum) × (all_tiers a.bytes ≤ max_sum)
    looked-fits a e = let (blocks, bytes) = look_most st l ts hs a (answer-is (answered is e)) in (omega (arith, blocks), omega (arith, bytes))

    module _ (v : List ℕ) where
      -- ---- as a trial, for a call that is lent the lists k

      module _ (k : LookupLists) (path : PathFits l.path) (spans : TierFits l.spans) (path' : PathFits k.path) (spans' : TierFits k.spans) where
        as_other : {y : Answer LookupAnswer} → x ≡ y → more_if y add_lookup ≡ by_lookup (lookup st k ts hs)
        as_other e = ap by_lookup (answered is e) ∙ (lookup-alike st l k ts hs path spans path' spans').adds

        pub trial_refused : (n : ℕ) → x ≡ refused n → Passes (by_lookup (lookup st k ts hs)) v → ⊥
        unfolding Passes
        trial_refused n e p = subst (λ (ms : List More). Passes ms v) (sym (as_other e)) p

        pub trial_done : (a : LookupAnswer) (n b : ℕ) (r : Bool) → x ≡ done a → n ≡ all_tiers a.blocks → b ≡ all_tiers a.bytes
            → r ≡ passes (look_more n b) v → Says r (Passes (by_lookup (lookup st k ts hs)) v)
        trial_done a n b r e blocks bytes told =
            subst (λ (ms : List More). Says r (Passes ms v)) (done-adds a n b blocks bytes ∙ as_other e)
            (subst (λ (t : Bool). Says t (Passes (look_more n b) v)) (sym told) (passes-says (look_more n b) v))

      -- ---- as the call

      pub looked-refused : sum_places ≤ length v → (n : ℕ) → x ≡ refused n → outcome st (summed m v) (refused n) ≡ tally_lookup st (summed l v) ts hs
      looked-refused long n e = counted-refused by_lookup v (answered is e) refl (low-lookup st (summed l v) ts hs long)

      -- where no sum would pass
      module _ (none : Passes (by_lookup (lookup st l ts hs)) v → ⊥) where
        pub looked-low : (a : LookupAnswer) (n b : ℕ) → x ≡ done a → n ≡ all_tiers a.blocks → b ≡ all_tiers a.bytes → passes (look_more n b) v ≡ false
        looked-low a n b e blocks bytes = counted_far by_lookup v (answered is e) (done-adds a n b blocks bytes) none

        pub looked-done : sum_places ≤ length v → (a : LookupAnswer) (n b : ℕ) (w : List ℕ) → x ≡ done a → n ≡ all_tiers a.blocks → b ≡ all_tiers a.bytes
            → w ≡ add (look_more n b) v → outcome st (summed m w) (done a) ≡ tally_lookup st (summed l v) ts hs
        looked-done long a n b w e blocks bytes =
            counted-made by_lookup v (answered is e) (done-adds a n b blocks bytes) (low-lookup st (summed l v) ts hs long) (looked-low a n b e blocks bytes)
