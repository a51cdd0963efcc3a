-- Where the range that holds a block ends; what a walk through tiers asks of the lent columns, and what it answers. Assumes nothing.
use Rattle.std.specs.Prelude.{ℕ, ◌≤◌, ◌<◌, true, false, ◌≡◌, List, [], ◌∷◌, length, Option, None, Some}
use Rattle.model.specs.Words.{Each}
use Rattle.model.specs.Sizes.{max_hashes, max_stores, max_tiers}
use Rattle.model.specs.State.{State, Ranges, Range, at, stores_of, records_of}
use Rattle.model.specs.Sound.{Sound}
use Rattle.model.specs.Tree.{resolve}
use Rattle.model.specs.Lookup.{holds, lookup_path, span_blocks, span_bytes, tier_sums}
use Rattle.model.specs.Refusals.{PathList, TierList}
use Rattle.model.specs.Calls.{lay_path, lay_tiers}
use Rattle.rule_lookup.specs.declared.LookupParts.{LookupParts}

-- ---- one store

-- the end of the first range that holds block o of node v
unfoldable pub range_end : ℕ → ℕ → List Range → Option ℕ
range_end v o [] = None
range_end v o (r ∷ rs) = elim (holds v o r) [ true ↦ Some r.end | false ↦ range_end v o rs ]

-- ---- along a path

-- a sound state of which these columns are lent (of the ranges the first three), its stores' record counts, tiers that are stores of it, and the path of
-- a list in its tree, which stands in front of the path lists
pub record Seen (ds : List ℕ) (c : Ranges) (bs rs : List ℕ) (p : PathList) (n : ℕ) (ts : List ℕ) (st : State) (hs : List ℕ) : Type 0 where
  pub sound : Sound st
  pub depth : st.tree.depth ≡ ds
  pub node : st.ranges.node ≡ c.node
  pub start : st.ranges.start ≡ c.start
  pub end : st.ranges.end ≡ c.end
  pub bytes : st.bytes ≡ bs
  pub records : Each 0 max_stores (λ s. at rs s ≡ records_of st s)
  pub stores : Each 0 (length ts) (λ i. at ts i < stores_of st)
  pub tiers : length ts ≤ max_tiers
  pub short : length hs ≤ max_hashes
  pub segs : n ≡ length (resolve st.tree hs)
  pub before : PathList
  pub path : p ≡ lay_path (resolve st.tree hs) before

-- the tier spans in front of the lists, how many they are, and their sums, eight of each
pub record Told (st : State) (ts hs : List ℕ) (before after : TierList) (r : LookupParts) : Type 0 where
  pub lists : after ≡ lay_tiers (lookup_path st ts (resolve st.tree hs)) before
  pub spans : r.spans ≡ length (lookup_path st ts (resolve st.tree hs))
  pub blocks : r.blocks ≡ tier_sums span_blocks 0 max_tiers (lookup_path st ts (resolve st.tree hs))
  pub bytes : r.bytes ≡ tier_sums (span_bytes st) 0 max_tiers (lookup_path st ts (resolve st.tree hs))
