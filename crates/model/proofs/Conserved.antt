-- No block is lost and none comes from nowhere: what is held before an eviction, a trim or an expiry is what is held after it and the blocks given out;
-- filling gaps adds their blocks. Each is proved turn by turn.
use Prim.Native.Nat.{ℕ, zero, suc, ◌+◌, ◌-◌, min}
use mathlib.Core.Bool.{Bool, true, false}
use mathlib.Core.Path.{◌≡◌, refl}
use mathlib.Core.List.{List, [], ◌∷◌}
use Rattle.std.specs.Prelude.{Option, None, Some}
use native.Mathlib.Omega.{arith}
use lib.ListN.{length}
use lib.Dec.{leb}
use lib.Ieee.{Float}
use borrow.Author.Tests.{leb-true, leb-false}
use Rattle.model.specs.State.{Tree, Range, Pin}
use Rattle.model.specs.Store.{Store, length_of, total, ahead, insert, unmark}
use Rattle.model.specs.Trim.{out_blocks, nth, shortened, evict, asked, chosen, amount, trim_by, trim}
use Rattle.model.specs.Expire.{oldest, expire_by, expire}
use Rattle.model.specs.Bring.{Gap, gap_blocks, fresh, fill}

-- ---- what goes

pub evict-total : (rs : List Range) (i k : ℕ) → total (evict rs i k) + min (length_of (nth rs i)) k ≡ total rs
unfolding evict total
evict-total [] i k = omega arith
evict-total (r ∷ rs) zero k = go (leb (length_of r) k) refl
  where
    go : (b : Bool) → leb (length_of r) k ≡ b → total (shortened b r k rs) + min (length_of r) k ≡ length_of r + total rs
    go true e = omega (arith, leb-true)
    go false e = omega (arith, leb-false)
evict-total (r ∷ rs) (suc i) k = omega (arith, evict-total rs i k)

-- whatever an excess asks for
trim_by-total : (asks : ℕ → ℕ) (t : Tree) (table : List ℕ) (ps : List Pin) (n e : ℕ) (c : Option ℕ) (rs : List Range) (ms : List ℕ)
    → total (trim_by asks t table ps n e c rs ms).ranges + out_blocks (trim_by asks t table ps n e c rs ms).outs ≡ total rs
unfolding trim_by out_blocks
trim_by-total asks t table ps zero e c rs ms = omega arith
trim_by-total asks t table ps (suc n) e None rs ms = omega arith
trim_by-total asks t table ps (suc n) e (Some i) rs ms =
    let r = nth rs i in
    let k = amount asks e r in
    let rest = evict rs i k in
    omega (arith, trim_by-total asks t table ps n (e - k) (chosen ps (e - k) rest) rest (unmark r.node rest ms), evict-total rs i k)

pub trim-total : (t : Tree) (table : List ℕ) (ps : List Pin) (capacity : ℕ) (rs : List Range) (ms : List ℕ)
    → total (trim t table ps capacity rs ms).ranges + out_blocks (trim t table ps capacity rs ms).outs ≡ total rs
unfolding trim
trim-total t table ps capacity rs ms =
    trim_by-total asked t table ps (length rs) (total rs - capacity) (chosen ps (total rs - capacity) rs) rs ms

expire_by-total : (t : Tree) (table : List ℕ) (now seconds : Float) (n : ℕ) (c : Option ℕ) (rs : List Range) (ms : List ℕ)
    → total (expire_by t table now seconds n c rs ms).ranges + out_blocks (expire_by t table now seconds n c rs ms).outs ≡ total rs
unfolding expire_by out_blocks
expire_by-total t table now seconds zero c rs ms = omega arith
expire_by-total t table now seconds (suc n) None rs ms = omega arith
expire_by-total t table now seconds (suc n) (Some i) rs ms =
    let r = nth rs i in
    let rest = evict rs i (length_of r) in
    omega (arith, expire_by-total t table now seconds n (oldest now seconds rest) rest (unmark r.node rest ms), evict-total rs i (length_of r))

pub expire-total : (t : Tree) (table : List ℕ) (x : Store) (now seconds : Float)
    → total (expire t table x now seconds).store.ranges + out_blocks (expire t table x now seconds).outs ≡ total x.ranges
unfolding expire
expire-total t table x now seconds =
    expire_by-total t table now seconds (length x.ranges) (oldest now seconds x.ranges) x.ranges x.marks

-- ---- what comes

insert-total : (g : Range) (rs : List Range) → total (insert g rs) ≡ length_of g + total rs
unfolding insert total
insert-total g [] = refl
insert-total g (r ∷ rs) = go (ahead g r) (insert-total g rs)
  where
    go : (b : Bool) → total (insert g rs) ≡ length_of g + total rs
        → total (elim b [ true ↦ g ∷ r ∷ rs | false ↦ r ∷ insert g rs ]) ≡ length_of g + (length_of r + total rs)
    go true e = refl
    go false e = omega arith

pub fill-total : (nd : ℕ) (gs : List Gap) (top next : ℕ) (time : Float) (w : ℕ) (rs : List Range)
    → total (fill nd gs top next time w rs) ≡ total rs + gap_blocks gs
unfolding fill gap_blocks
fill-total nd [] top next time w rs = omega arith
fill-total nd (g ∷ gs) top next time w rs =
    let r = fresh nd g (suc top) next time w in
    omega (arith, fill-total nd gs (suc top) (suc next) time w (insert r rs), insert-total r rs)
