-- Lookup's outcomes on a sound state with lists that are long enough: refused by 2 or 3, or the path and the tier spans. Assumes nothing.
use Prim.Native.Nat.{ℕ, suc, ◌≤◌, ◌<◌}
use mathlib.Core.List.{List}
use mathlib.Core.Logic.{inl, inr}
use mathlib.Core.Path.{◌≡◌, refl, ap}
use native.Mathlib.Omega.{arith}
use lib.ListN.{length}
use Rattle.model.specs.declared.EachTier.{EachTier}
use Rattle.model.specs.Words.{Each, Some}
use Rattle.model.specs.Sizes.{max_tiers}
use Rattle.model.specs.State.{State, at, stores_of, records_of}
use Rattle.model.specs.Sound.{Sound}
use Rattle.model.specs.Lookup.{each_tier}
use Rattle.model.specs.Refusals.{PathList, TierList, PathFits, TierFits, First, first_of, lookup_refusals}
use Rattle.model.specs.Calls.{refused, done, LookupLists, lookup}
use Rattle.theory_refuse.proofs.Refusals.{first-is, lookup_exact}
use Rattle.rule_resolve.specs.declared.Match.{Match}
use Rattle.rule_resolve.specs.Walk.{Resolved}
use Rattle.rule_lookup.specs.declared.LookupParts.{LookupParts}
use Rattle.rule_lookup.specs.Tiers.{Seen, Told}
use Rattle.shape_answer.specs.Lists.{lists_of}
use Rattle.shape_answer.specs.Answers.{outcome}

module _ (st : State) (l : LookupLists) (ts hs : List ℕ) (sound : Sound st) (path : PathFits l.path) (tiers : TierFits l.spans) where
  is-first : (n : ℕ) → First (lookup_refusals st l.path l.spans ts hs) n → first_of (lookup_refusals st l.path l.spans ts hs) ≡ n
  is-first n = first-is (lookup_refusals st l.path l.spans ts hs) (lookup_exact st l.path l.spans ts hs) n

  refused-is : (n : ℕ) → First (lookup_refusals st l.path l.spans ts hs) (suc n) → outcome st l (refused (suc n)) ≡ lookup st l ts hs
  unfolding lookup
  refused-is n f = rw (is-first (suc n) f)

  pub no_tier-is : Some (length ts) (λ i. stores_of st ≤ at ts i) → outcome st l (refused 2) ≡ lookup st l ts hs
  no_tier-is h = refused-is 1 (inr (λ n. n sound, inr (λ n. n path, inr (λ n. n tiers, inl (h, refl)))))

  module _ (stores : Some (length ts) (λ i. stores_of st ≤ at ts i) → ⊥) where
    pub many_hashes_is : 1024 < length hs → outcome st l (refused 3) ≡ lookup st l ts hs
    many_hashes_is h = refused-is 2 (inr (λ n. n sound, inr (λ n. n path, inr (λ n. n tiers, inr (stores, inl (h, refl))))))

    pub many-tiers-is : length hs ≤ 1024 → max_tiers < length ts → outcome st l (refused 3) ≡ lookup st l ts hs
    many-tiers-is few h =
        refused-is 2 (inr (λ n. n sound, inr (λ n. n path, inr (λ n. n tiers, inr (stores, inr (λ n. omega arith, inl (h, refl)))))))

    pub looked-is : (path' : PathList) (spans' : TierList) (m : Match) (w : LookupParts) (blocks bytes : EachTier) → length hs ≤ 1024
        → (max_tiers < length ts → ⊥) → Resolved st.tree hs l.path path' m → Told st ts hs l.spans spans' w → blocks ≡ each_tier w.blocks → bytes ≡ each_tier w.bytes
        → outcome st (lists_of path' spans')
        (done (record { path = record { segs = m.segs; blocks = m.blocks }; spans = w.spans; blocks = blocks; bytes = bytes }))
        ≡ lookup st l ts hs
    unfolding lookup
    looked-is path' spans' m w blocks bytes few less r t e f =
        rw (
          is-first 0 (inr (λ n. n sound, inr (λ n. n path, inr (λ n. n tiers, inr (stores, inr (λ n. omega arith, inr (less, refl))))))),
          r.answer,
          r.lists,
          t.lists,
          t.spans,
          e,
          f,
          t.blocks,
          t.bytes,
        )

-- what the walk asks for
pub seen-is : (st : State) (ts hs : List ℕ) (before after : PathList) (m : Match) {rs : List ℕ} → Sound st
    → (Some (length ts) (λ i. stores_of st ≤ at ts i) → ⊥) → length hs ≤ 1024 → (max_tiers < length ts → ⊥) → Resolved st.tree hs before after m
    → Each 0 8 (λ s. at rs s ≡ records_of st s)
    → Seen st.tree.depth st.ranges st.bytes rs after m.segs ts st hs
seen-is st ts hs before after m sound stores few less r records =
    record {
      sound = sound;
      depth = refl;
      node = refl;
      start = refl;
      end = refl;
      bytes = refl;
      records = records;
      stores = λ i low high. let g : stores_of st ≤ at ts i → ⊥ = λ h. stores (i, high, h) in omega arith;
      tiers = omega arith;
      short = few;
      segs = ap (λ (k : Match). k.segs) r.answer;
      before = before;
      path = r.lists;
    }
