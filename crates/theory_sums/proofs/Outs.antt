-- What is given out is small: a given-out span is part of a range, which lies inside its node, so it has at most 1,024 blocks and its bytes are a
-- difference of two numbers of the byte table. Assumes nothing.
use Prim.Native.Nat.{ℕ, zero, suc, ◌+◌, ◌-◌, ◌*◌, ◌≤◌, ◌<◌}
use mathlib.Core.Path.{◌≡◌, refl, ap}
use mathlib.Core.List.{List, [], ◌∷◌}
use Rattle.std.specs.Prelude.{Option, None, Some}
use native.Mathlib.Omega.{arith}
use native.Mathlib.Nat.{mul-suc}
use lib.ListN.{length}
use lib.Ieee.{Float}
use Rattle.model.specs.declared.Span.{Span}
use Rattle.model.specs.Sizes.{max_hashes, max_bytes, store_records}
use Rattle.model.specs.State.{Tree, Range, Pin, at}
use Rattle.model.specs.Sound.{Rising, Inside, EndsWithin}
use Rattle.model.specs.Store.{Store, length_of, total, unmark, insert}
use Rattle.model.specs.Trim.{Out, out_blocks, told, nth, evict, asked, chosen, amount, trim_by, trim}
use Rattle.model.specs.Bring.{Gap, gaps, gap_blocks, fresh, fill, give_back, keep, bring, bring_need, bring_blocks}
use Rattle.model.specs.Expire.{oldest, expire_by, expire}
use Rattle.model.specs.Refusals.{SpanIn}
use Rattle.model.proofs.Conserved.{fill-total}
use Rattle.theory_sound.specs.Facts.{All}
use Rattle.theory_sound.specs.StoreSound.{TreeSound, StoreSound}
use Rattle.theory_bring.proofs.Facts.{all_map, thin_all}
use Rattle.theory_bring.proofs.Evict.{Cut, evict-cut}
use Rattle.theory_bring.proofs.Fill as Fill
use Rattle.theory_bring.proofs.Fill.{insert_all, gaps-rising, fill_length}
use Rattle.theory_bring.proofs.Bring.{bring_cases}
use Rattle.theory_sums.proofs.Answers.{over}

-- a given-out span has few blocks and few bytes
pub record Small (o : Out) : Type 0 where
  pub blocks : o.end - o.start ≤ max_hashes
  pub bytes : o.bytes ≤ max_bytes
  pub dead : o.dead ≤ max_bytes

pub over-most : (f : Out → ℕ) (most : ℕ) (os : List Out) → All (λ o. f o ≤ most) os → over f os ≤ most * length os
unfolding over All
over-most f most [] h = omega arith
over-most f most (o ∷ os) h = rw mul-suc (omega (arith, h.0, over-most f most os h.1))

pub blocks-over : (os : List Out) → out_blocks os ≡ over (λ o. o.end - o.start) os
unfolding out_blocks over
blocks-over [] = refl
blocks-over (o ∷ os) = ap (λ (k : ℕ). o.end - o.start + k) (blocks-over os)

module _ (t : Tree) (tree : TreeSound t) where
  -- it ends no deeper than the tree does
  abbrev pub Fits : Range → Type 0
  Fits r = at t.depth r.node + r.end ≤ max_hashes

  pub deep-fits : (n e : ℕ) → n < t.nodes → e ≤ at t.len n → at t.depth n + e ≤ max_hashes
  unfolding EndsWithin
  deep-fits zero e in_use ends = omega (arith, tree.root.len, tree.root.depth)
  deep-fits (suc n) e in_use ends = omega (arith, tree.ends (suc n) (omega arith) in_use)

  pub inside-fits : (rs : List Range) → All (Inside t) rs → All Fits rs
  inside-fits rs h = all_map (λ r i. deep-fits r.node r.end i.in_use i.ends) rs h

  nth-fits : (rs : List Range) (i : ℕ) → All Fits rs → Fits (nth rs i)
  unfolding All
  nth-fits [] i h = omega (arith, tree.root.depth)
  nth-fits (r ∷ rs) zero h = h.0
  nth-fits (r ∷ rs) (suc i) h = nth-fits rs i h.1

  cut_fits : (q r : Range) → Cut q r → Fits r → Fits q
  cut_fits q r c h = rw c.node (omega (arith, c.end))

  evict-fits : (rs : List Range) (i k : ℕ) → All Fits rs → All Fits (evict rs i k)
  evict-fits rs i k h = thin_all cut_fits (evict-cut rs i k) h

  pub total-most : (rs : List Range) → All Fits rs → total rs ≤ max_hashes * length rs
  unfolding All total
  total-most [] h = omega arith
  total-most (r ∷ rs) h = omega (arith, h.0, total-most rs h.1)

  module _ (table : List ℕ) (rising : Rising table) where
    told-small : (ms : List ℕ) (r : Range) (start : ℕ) → Fits r → Small (told t table ms r start r.end)
    told-small ms r start h =
        let top = rising.small (at t.depth r.node + r.end) (omega arith) (omega arith) in
        record { blocks = omega arith; bytes = omega (arith, top); dead = omega (arith, top) }

    trim_by-small : (asks : ℕ → ℕ) (ps : List Pin) (n e : ℕ) (c : Option ℕ) (rs : List Range) (ms : List ℕ) → All Fits rs
        → All Small (trim_by asks t table ps n e c rs ms).outs
    unfolding trim_by All
    trim_by-small asks ps zero e c rs ms h = tt
    trim_by-small asks ps (suc n) e None rs ms h = tt
    trim_by-small asks ps (suc n) e (Some i) rs ms h =
        let r = nth rs i in
        let k = amount asks e r in
        let rest = evict rs i k in (
          told-small ms r (r.end - k) (nth-fits rs i h),
          trim_by-small asks ps n (e - k) (chosen ps (e - k) rest) rest (unmark r.node rest ms) (evict-fits rs i k h),
        )

    trim-small : (ps : List Pin) (capacity : ℕ) (rs : List Range) (ms : List ℕ) → All Fits rs → All Small (trim t table ps capacity rs ms).outs
    unfolding trim
    trim-small ps capacity rs ms h = trim_by-small asked ps (length rs) (total rs - capacity) (chosen ps (total rs - capacity) rs) rs ms h

    expire_by-small : (now seconds : Float) (n : ℕ) (c : Option ℕ) (rs : List Range) (ms : List ℕ) → All Fits rs
        → All Small (expire_by t table now seconds n c rs ms).outs
    unfolding expire_by All
    expire_by-small now seconds zero c rs ms h = tt
    expire_by-small now seconds (suc n) None rs ms h = tt
    expire_by-small now seconds (suc n) (Some i) rs ms h =
        let r = nth rs i in
        let rest = evict rs i (length_of r) in (
          told-small ms r r.start (nth-fits rs i h),
          expire_by-small now seconds n (oldest now seconds rest) rest (unmark r.node rest ms) (evict-fits rs i (length_of r) h),
        )

    pub expire-small : (now seconds : Float) (x : Store) {next : ℕ} → StoreSound t next x → All Small (expire t table x now seconds).outs
    unfolding expire
    expire-small now seconds x s =
        expire_by-small now seconds (length x.ranges) (oldest now seconds x.ranges) x.ranges x.marks (inside-fits x.ranges s.ranges.inside)

    -- ---- a bring-in

    module _ (x : Store) (next : ℕ) (sound : StoreSound t next x) (sp : Span) (inside : SpanIn t sp) (time : Float) (write : ℕ) where
      span_fits : at t.depth sp.node + sp.end ≤ max_hashes
      span_fits = deep-fits sp.node sp.end inside.node inside.ends

      gaps-low : (lo : ℕ) (gs : List Gap) → Fill.Rising lo sp.end gs → All (λ g. g.upto ≤ sp.end) gs
      unfolding All Fill.Rising
      gaps-low lo [] h = tt
      gaps-low lo (g ∷ gs) h = (h.2, gaps-low g.upto gs h.3)

      fill-fits : (gs : List Gap) (top id : ℕ) (rs : List Range) → All (λ g. g.upto ≤ sp.end) gs → All Fits rs
          → All Fits (fill sp.node gs top id time write rs)
      unfolding fill All
      fill-fits [] top id rs h k = k
      fill-fits (g ∷ gs) top id rs h k =
          let r = fresh sp.node g (suc top) id time write in
          fill-fits gs (suc top) (suc id) (insert r rs) h.1 (insert_all r Fits rs (omega (arith, span_fits, h.0)) k)

      abbrev gs : List Gap
      gs = gaps sp.node x.ranges sp.start sp.end

      abbrev filled : List Range
      filled = fill sp.node gs x.book.stamp next time write x.ranges

      filled-fits : All Fits filled
      filled-fits =
          fill-fits gs x.book.stamp next x.ranges
          (gaps-low sp.start gs (gaps-rising t sp.node sp.end x.ranges sp.start sound.ranges.inside))
          (inside-fits x.ranges sound.ranges.inside)

      given_back : All Small (give_back t table x sp write).outs
      unfolding give_back All
      given_back =
          let top = rising.small (at t.depth sp.node + sp.end) (omega arith) (omega (arith, span_fits)) in
          (record { blocks = omega (arith, span_fits); bytes = omega (arith, top); dead = omega arith }, tt)

      pub bring-small : All Small (bring t table x next sp time write).outs
      unfolding keep
      bring-small =
          bring_cases t table next x sp time write (λ k b. All Small b.outs) (λ e. given_back)
          (λ c. trim-small x.pins x.book.capacity filled x.marks filled-fits)

      -- the blocks of the gaps are among those of the ranges that there are then
      pub gaps-few : length x.ranges + bring_need x sp ≤ store_records → bring_blocks x sp ≤ max_hashes * store_records
      unfolding bring_need bring_blocks
      gaps-few = go x.book.capacity
        where
          go : (c : ℕ) → length x.ranges + elim c [ zero ↦ 0 | suc d ↦ length gs ] ≤ store_records
              → elim c [ zero ↦ 0 | suc d ↦ gap_blocks gs ] ≤ max_hashes * store_records
          go zero room = omega arith
          go (suc c) room =
              omega (
                arith,
                total-most filled filled-fits,
                fill-total sp.node gs x.book.stamp next time write x.ranges,
                fill_length sp.node time write gs x.book.stamp next x.ranges,
              )
