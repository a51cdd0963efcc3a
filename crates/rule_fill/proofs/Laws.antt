-- Filling gap after gap: what stands in the part, and what is left to fill, give what was to be filled; the blocks of the gaps are summed one by one.
use Prim.Native.Nat.{ℕ, suc, ◌+◌, ◌-◌, ◌*◌, ◌≤◌, ◌<◌}
use mathlib.Core.Path.{◌≡◌, refl, sym, ap, subst, ◌∙◌}
use mathlib.Core.List.{List, [], ◌∷◌, ◌++◌}
use native.Mathlib.Nat.{add-zero}
use native.Mathlib.Numerals.{add-one}
use native.Mathlib.Omega.{arith}
use lib.ListN.{length, drop, drop_of_length-le}
use lib.Ieee.{Float}
use Rattle.model.specs.State.{Ranges, Range, at}
use Rattle.model.specs.Store.{ranges, lay_ranges, insert}
use Rattle.model.specs.Bring.{Gap, gap_blocks, fresh, fill}
use Rattle.theory_sound.specs.Facts.{All}
use Rattle.theory_bring.proofs.Facts.{all-at}
use Rattle.theory_bring.proofs.Fill.{Rising, insert_length}
use Rattle.theory_lay.proofs.Rows.{ranges_length}
use Rattle.pool_range.specs.Part.{Sized, put_range}
use Rattle.pool_range.proofs.Records.{put-laid}
use Rattle.rule_fill.specs.declared.Gap.{Gap as GapHere}
use Rattle.rule_fill.specs.Gaps.{gap_at, gaps_in, PlaceFor}
use Rattle.rule_fill.proofs.Missing.{gaps_length, gaps-at, gaps-from}
use Rattle.rule_fill.specs.Fill.{Filled, Room}
use Rattle.rule_fill.proofs.Part.{sized-laid, ranges-laid, laid_twice, laid-back}

-- ---- blocks

blocks_last : (gs : List Gap) (g : Gap) → gap_blocks (gs ++ (g ∷ [])) ≡ gap_blocks gs + (g.upto - g.from)
unfolding gap_blocks
blocks_last [] g = omega arith
blocks_last (h ∷ gs) g = omega (arith, blocks_last gs g)

blocks_suc : (l : List GapHere) (i : ℕ) → gap_blocks (gaps_in l (suc i)) ≡ gap_blocks (gaps_in l i) + ((gap_at l i).upto - (gap_at l i).from)
unfolding gaps_in
blocks_suc l i = blocks_last (gaps_in l i) (gap_at l i)

pub gap-filled : (l : List GapHere) (k i : ℕ) → All Filled (gaps_in l k) → i < k → Filled (gap_at l i)
gap-filled l k i a h =
    subst Filled (gaps-at l k i (gap_at l i) h)
    (all-at Filled (gap_at l i) (gaps_in l k) a i (omega (arith, gaps_length l k)))

-- the first i gaps are summed
pub record Summing (l : List GapHere) (sum i : ℕ) : Type 0 where
  pub sums : sum ≡ gap_blocks (gaps_in l i)
  pub small : sum ≤ 1024 * i

pub sum-start : (l : List GapHere) → Summing l 0 0
unfolding gap_blocks gaps_in
sum-start l = record { sums = refl; small = omega arith }

pub sum-turn : (l : List GapHere) (sum i : ℕ) → Summing l sum i → Filled (gap_at l i) → Summing l (sum + ((gap_at l i).upto - (gap_at l i).from)) (i + 1)
sum-turn l sum i s f =
    record { sums = rw add-one (omega (arith, s.sums, blocks_suc l i)); small = omega (arith, s.small, f.high) }

pub sum-end : (l : List GapHere) (k sum i : ℕ) → Summing l sum i → i ≤ k → k ≤ i → sum ≡ gap_blocks (gaps_in l k)
sum-end l k sum i s h g = let e : i ≡ k = omega arith in s.sums ∙ rw e

-- the gaps of a span that ends where a node can
pub rising-filled : (lo z : ℕ) (gs : List Gap) → z ≤ 1024 → Rising lo z gs → All Filled gs
unfolding Rising All
rising-filled lo z [] h r = tt
rising-filled lo z (g ∷ gs) h r = (record { some = r.1; high = omega (arith, r.2) }, rising-filled g.upto z gs h r.3)

-- ---- one record more

pub placed : (n at : ℕ) (r : Range) (c c' : Ranges) → n < 128 → Sized 128 c → at ≤ n → PlaceFor r.node r.start (ranges c 0 n) at
    → c' ≡ put_range at r n c → c' ≡ lay_ranges 0 (n + 1) (insert r (ranges c 0 n)) c
placed n at r c c' l s h p e =
    e
    ∙ ap (put_range at r n) (sym (laid-back n c s (omega arith)))
    ∙ put-laid at n r (ranges c 0 n) c (ranges_length c 0 n) h
    ∙ ap (λ t. lay_ranges 0 (n + 1) t c) (sym (p.there r refl refl))

-- ---- a record for each gap

fill_none : (nd top next : ℕ) (time : Float) (w : ℕ) (rs : List Range) → fill nd [] top next time w rs ≡ rs
unfolding fill
fill_none nd top next time w rs = refl

fill-first : (nd : ℕ) (gs : List Gap) (g : Gap) (top next top' next' : ℕ) (time : Float) (w : ℕ) (rs : List Range) → top' ≡ suc top → next' ≡ suc next
    → fill nd gs top' next' time w (insert (fresh nd g top' next time w) rs) ≡ fill nd (g ∷ gs) top next time w rs
unfolding fill
fill-first nd gs g top next top' next' time w rs e d = rw (e, d)

-- the first i gaps are filled
pub record Filling (c₀ : Ranges) (n nd : ℕ) (l : List GapHere) (k top next : ℕ) (time : Float) (w : ℕ) (c : Ranges) (i : ℕ) : Type 0 where
  pub sized : Sized 128 c
  pub laid : c ≡ lay_ranges 0 (n + i) (ranges c 0 (n + i)) c₀
  pub todo :
      fill nd (drop i (gaps_in l k)) (top + i) (next + i) time w (ranges c 0 (n + i))
      ≡ fill nd (gaps_in l k) top next time w (ranges c₀ 0 n)

module _ (c₀ : Ranges) (n nd : ℕ) (l : List GapHere) (k top next : ℕ) (time : Float) (w : ℕ) (few : n + k ≤ 128) (s₀ : Sized 128 c₀) where
  pub fill_start : Filling c₀ n nd l k top next time w c₀ 0
  fill_start =
      record {
        sized = s₀;
        laid = rw add-zero (sym (laid-back n c₀ s₀ (omega arith)));
        todo = rw (add-zero n, add-zero top, add-zero next);
      }

  module _ (c : Ranges) (i : ℕ) (f : Filling c₀ n nd l k top next time w c i) where
    -- one gap more
    one_more_lem : i < k
        → fill nd (drop (i + 1) (gaps_in l k)) (top + (i + 1)) (next + (i + 1)) time w
        (insert (fresh nd (gap_at l i) (top + i + 1) (next + i) time w) (ranges c 0 (n + i)))
        ≡ fill nd (drop i (gaps_in l k)) (top + i) (next + i) time w (ranges c 0 (n + i))
    one_more_lem h =
        let a : top + i + 1 ≡ top + (i + 1) = omega arith in
        rw a
        (fill-first nd _ (gap_at l i) (top + i) (next + i) (top + (i + 1)) (next + (i + 1)) time w _ (omega arith) (omega arith)
        ∙ ap (λ t. fill nd t (top + i) (next + i) time w (ranges c 0 (n + i))) (sym (gaps-from l k i h)))

    pub fill-turn : (r : Range) (c' : Ranges) → i < k → r ≡ fresh nd (gap_at l i) (top + i + 1) (next + i) time w
        → c' ≡ lay_ranges 0 (n + i + 1) (insert r (ranges c 0 (n + i))) c → Filling c₀ n nd l k top next time w c' (i + 1)
    fill-turn r c' h er ec =
        let rs = ranges c 0 (n + i) in
        let m : length (insert r rs) ≡ n + (i + 1) = omega (arith, insert_length r rs, ranges_length c 0 (n + i)) in
        let q : n + i + 1 ≡ n + (i + 1) = omega arith in
        let e : c' ≡ lay_ranges 0 (n + (i + 1)) (insert r rs) c = rw q at ec in
        let t : ranges c' 0 (n + (i + 1)) ≡ insert r rs =
        ap (λ x. ranges x 0 (n + (i + 1))) e ∙ ranges-laid (n + (i + 1)) (insert r rs) c f.sized m (omega arith) in
        record {
          sized = rw e (sized-laid (n + (i + 1)) (insert r rs) c f.sized (omega arith) (omega arith));
          laid =
              rw t
              (e
              ∙ ap (λ x. lay_ranges 0 (n + (i + 1)) (insert r rs) x) f.laid
              ∙ laid_twice (n + i) (n + (i + 1)) rs (insert r rs) c₀ s₀ (omega arith) (omega (arith, ranges_length c 0 (n + i))) (omega arith));
          todo = rw (t, er) (one_more_lem h ∙ f.todo);
        }

    pub fill_end : i ≤ k → k ≤ i → c ≡ lay_ranges 0 (n + length (gaps_in l k)) (fill nd (gaps_in l k) top next time w (ranges c₀ 0 n)) c₀
    fill_end u h =
        let m : n + i ≡ n + length (gaps_in l k) = omega (arith, gaps_length l k) in
        let d : drop i (gaps_in l k) ≡ [] = drop_of_length-le (gaps_in l k) {i = i} (omega (arith, gaps_length l k)) in
        let v : ranges c 0 (n + i) ≡ fill nd (gaps_in l k) top next time w (ranges c₀ 0 n) =
        sym (ap (λ t. fill nd t (top + i) (next + i) time w (ranges c 0 (n + i))) d ∙ fill_none nd (top + i) (next + i) time w _) ∙ f.todo in
        f.laid ∙ (λ j. lay_ranges 0 (m j) (v j) c₀)

-- ---- the room for one gap more

pub room-new : {n k top next i : ℕ} → Room n k top next → i < k → (top + i < 281474976710656) × (next + i < 281474976710656)
room-new r h = (omega (arith, r.stamps), omega (arith, r.ids))

pub room-place : {n k top next i : ℕ} → Room n k top next → i < k → n + i < 128
room-place r h = omega (arith, r.records)
