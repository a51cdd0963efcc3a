-- A list of ranges of which each is cut into pieces. Where the pieces of a range lie end to end, both lists hold the same blocks, and either is sorted
-- if the other is; and new ids that go up from `next` stay distinct. Assumes nothing.
use Prim.Native.Nat.{ℕ, suc, ◌+◌, ◌≤◌, ◌<◌}
use mathlib.Core.Path.{◌≡◌, refl, sym, subst, ◌∙◌}
use mathlib.Core.Logic.{◌⊎◌, inl, inr, ⊎_elim, ◌↔◌}
use mathlib.Core.List.{List, [], ◌∷◌, ◌++◌}
use native.Mathlib.Omega.{arith}
use native.Mathlib.Nat.{le_refl, le_of_eq}
use native.Mathlib.Decide.{dec_le}
use lib.ListN.{length, length-append}
use Rattle.model.specs.State.{Tree, Range}
use Rattle.model.specs.Sound.{Before, Inside, IdBetween}
use Rattle.model.specs.Store.{total}
use Rattle.theory_sound.specs.Facts.{All, InOrder, Sorted, Distinct, IdApart, HasId, IdsFrom}
use Rattle.theory_bring.proofs.Facts.{all_map, all_append, all_left, all_right, order_append, order-right, order_cross, has_all, id_later}
use Rattle.model.specs.Blocks.{Holds}
use Rattle.theory_touch.proofs.Holds.{holds_append, total_append}

-- ---- one range and its pieces

-- p lies in r
pub record Within (r p : Range) : Type 0 where
  pub node : p.node ≡ r.node
  pub low : r.start ≤ p.start
  pub filled : p.start < p.end
  pub high : p.end ≤ r.end

-- the pieces lie end to end on node n, from s up to e
unfoldable pub Chain : ℕ → ℕ → List Range → ℕ → Type 0
Chain n s [] e = s ≡ e
Chain n s (p ∷ ps) e = (p.node ≡ n) × (p.start ≡ s) × (s < p.end) × Chain n p.end ps e

-- the pieces are the range
pub record Whole (r : Range) (ps : List Range) : Type 0 where
  pub filled : r.start < r.end
  pub chain : Chain r.node r.start ps r.end

chain_up : (n s e : ℕ) (ps : List Range) → Chain n s ps e → s ≤ e
unfolding Chain
chain_up n s e [] h = omega arith
chain_up n s e (p ∷ ps) h = omega (arith, chain_up n p.end e ps h.3)

chain-within : (r : Range) (s : ℕ) (ps : List Range) → r.start ≤ s → Chain r.node s ps r.end → All (Within r) ps
unfolding Chain All
chain-within r s [] l h = tt
chain-within r s (p ∷ ps) l h = (
  record { node = h.0; low = omega arith; filled = omega arith; high = chain_up r.node p.end r.end ps h.3 },
  chain-within r p.end ps (omega arith) h.3,
)

chain-after : (n : ℕ) (p : Range) (s e : ℕ) (ps : List Range) → p.end ≤ s → p.node ≡ n → Chain n s ps e → All (Before p) ps
unfolding Chain All
chain-after n p s e [] l i h = tt
chain-after n p s e (q ∷ qs) l i h =
    (record { by_node = omega arith; apart = λ k. omega arith }, chain-after n p q.end e qs (omega arith) i h.3)

chain-sorted : (n s e : ℕ) (ps : List Range) → Chain n s ps e → Sorted ps
unfolding Chain InOrder
chain-sorted n s e [] h = tt
chain-sorted n s e (p ∷ ps) h = (chain-after n p p.end e ps (le_refl p.end) h.0 h.3, chain-sorted n p.end e ps h.3)

chain-total : (n s e : ℕ) (ps : List Range) → Chain n s ps e → total ps + s ≡ e
unfolding Chain total
chain-total n s e [] h = omega arith
chain-total n s e (p ∷ ps) h = omega (arith, chain-total n p.end e ps h.3)

chain-holds : (m s e : ℕ) (ps : List Range) → Chain m s ps e → (n o : ℕ) → Holds ps n o ↔ ((m ≡ n) × (s ≤ o) × (o < e))
unfolding Chain Holds
chain-holds m s e [] h n o = (λ x. absurd x, λ x. omega arith)
chain-holds m s e (p ∷ ps) h n o =
    let k = chain-holds m p.end e ps h.3 n o in
    let u = chain_up m p.end e ps h.3 in (
      ⊎_elim (λ x. (sym h.0 ∙ x.node, omega arith, omega arith)) (λ x. let y = k.0 x in (y.0, omega arith, y.2)),
      λ x. elim (dec_le p.end o) [ yes l ↦ inr (k.1 (x.0, l, x.2)) | no l ↦ inl (record { node = h.0 ∙ x.0; low = omega arith; high = omega arith }) ],
    )

pub chain_append : (n s m e : ℕ) (ps qs : List Range) → Chain n s ps m → Chain n m qs e → Chain n s (ps ++ qs) e
unfolding Chain
chain_append n s m e [] qs h k = subst (λ i. Chain n i qs e) (sym h) k
chain_append n s m e (p ∷ ps) qs h k = (h.0, h.1, h.2, chain_append n p.end m e ps qs h.3 k)

-- what holds of the first piece, of the last
chain_first : (C : Type 0) (P : Range → Type 0) (n s e : ℕ) (ps : List Range) → s < e → Chain n s ps e
    → ((p : Range) → p.node ≡ n → p.start ≡ s → P p → C) → All P ps → C
unfolding Chain All
chain_first C P n s e [] l h f k = absurd (omega arith)
chain_first C P n s e (p ∷ ps) l h f k = f p h.0 h.1 k.0

chain-last : (C : Type 0) (P : Range → Type 0) (n s e : ℕ) (ps : List Range) → s < e → Chain n s ps e
    → ((p : Range) → p.node ≡ n → p.end ≡ e → P p → C) → All P ps → C
unfolding Chain All
chain-last C P n s e [] l h f k = absurd (omega arith)
chain-last C P n s e (p ∷ []) l h f k = f p h.0 h.3 k.0
chain-last C P n s e (p ∷ q ∷ ps) l h f k =
    chain-last C P n p.end e (q ∷ ps) (omega (arith, h.3.1, h.3.2, chain_up n q.end e ps h.3.3)) h.3 f k.1

-- ---- a list and the pieces of its ranges

nearer : {r q : Range} (p s : Range) → p.node ≡ r.node → p.end ≤ r.end → s.node ≡ q.node → q.start ≤ s.start → Before r q → Before p s
nearer p s n e m f b = record { by_node = omega (arith, b.by_node); apart = λ i. omega (arith, b.apart (omega arith)) }

pub data Parted (S : Range → List Range → Type 0) : List Range → List Range → Type 0 where
  none : Parted S [] []
  more : {r : Range} {ps rs qs : List Range} → S r ps → Parted S rs qs → Parted S (r ∷ rs) (ps ++ qs)

-- the pieces of a range lie in it, in order
pub record Pieces (r : Range) (ps : List Range) : Type 0 where
  pub within : All (Within r) ps
  pub sorted : Sorted ps

pub whole-pieces : (r : Range) (ps : List Range) → Whole r ps → Pieces r ps
whole-pieces r ps w =
    record {
      within = chain-within r r.start ps (le_refl r.start) w.chain;
      sorted = chain-sorted r.node r.start r.end ps w.chain;
    }

module _ {S : Range → List Range → Type 0} where
  pub parted_map : {T : Range → List Range → Type 0} {rs qs : List Range} → ((r : Range) (ps : List Range) → S r ps → T r ps) → Parted S rs qs
      → Parted T rs qs
  parted_map f none = none
  parted_map f (more {r = r} {ps = ps} s h) = more (f r ps s) (parted_map f h)

  pub parted_all : {P : Range → Type 0} {rs qs : List Range} (Q : Range → Type 0) → ((r : Range) (ps : List Range) → S r ps → P r → All Q ps)
      → Parted S rs qs → All P rs → All Q qs
  unfolding All
  parted_all Q f none k = tt
  parted_all Q f (more {r = r} {ps = ps} {qs = qs} s h) k = all_append Q ps qs (f r ps s k.0) (parted_all Q f h k.1)

  module _ (f : (r : Range) (ps : List Range) → S r ps → Pieces r ps) where
    pub parted_inside : {rs qs : List Range} (t : Tree) → Parted S rs qs → All (Inside t) rs → All (Inside t) qs
    parted_inside t =
        parted_all (Inside t) (λ r ps s (h : Inside t r). all_map
        (λ p (w : Within r p). record { in_use = omega arith; filled = w.filled; ends = rw w.node (omega arith) }) ps (f r ps s).within)

    pub parted_sorted : {rs qs : List Range} → Parted S rs qs → Sorted rs → Sorted qs
    unfolding InOrder
    parted_sorted none k = tt
    parted_sorted (more {r = r} {ps = ps} {qs = qs} s h) k =
        let after : All (Before r) qs =
        parted_all (Before r) (λ q us u b. all_map (λ s w. nearer r s refl (le_refl r.end) w.node w.low b) us (f q us u).within) h k.0 in
        order_append Before ps qs (f r ps s).sorted (parted_sorted h k.1)
        (all_map (λ p w. all_map (λ q b. nearer p q w.node w.high refl (le_refl q.start) b) qs after) ps (f r ps s).within)

-- ---- where the pieces are the range: the same blocks

pub whole-holds : {rs qs : List Range} → Parted Whole rs qs → (n o : ℕ) → Holds qs n o ↔ Holds rs n o
unfolding Holds
whole-holds none n o = (λ h. h, λ h. h)
whole-holds (more {r = r} {ps = ps} {rs = rs} {qs = qs} w h) n o =
    let a = holds_append ps qs n o in
    let c = chain-holds r.node r.start r.end ps w.chain n o in
    let k = whole-holds h n o in (
      λ x. ⊎_elim (λ y. let z = c.0 y in inl (record { node = z.0; low = z.1; high = z.2 })) (λ y. inr (k.0 y)) (a.0 x),
      ⊎_elim (λ y. a.1 (inl (c.1 (y.node, y.low, y.high)))) (λ y. a.1 (inr (k.1 y))),
    )

pub whole-total : {rs qs : List Range} → Parted Whole rs qs → total qs ≡ total rs
unfolding total
whole-total none = refl
whole-total (more {r = r} {ps = ps} {rs = rs} {qs = qs} w h) =
    omega (arith, total_append ps qs, chain-total r.node r.start r.end ps w.chain, whole-total h)

-- ---- and back: of the joined pieces

module _ (t : Tree) where
  pub joined_inside : {rs qs : List Range} → Parted Whole rs qs → All (Inside t) qs → All (Inside t) rs
  unfolding All
  joined_inside none k = tt
  joined_inside (more {r = r} {ps = ps} {qs = qs} w h) k = (
    chain-last (Inside t r) (Inside t) r.node r.start r.end ps w.filled w.chain
        (λ p n e i. record { in_use = omega arith; filled = w.filled; ends = rw (← n, ← e) i.ends }) (all_left (Inside t) ps qs k),
    joined_inside h (all_right (Inside t) ps qs k),
  )

joined_after : {rs qs : List Range} (x : Range) → Parted Whole rs qs → All (Before x) qs → All (Before x) rs
unfolding All
joined_after x none k = tt
joined_after x (more {r = r} {ps = ps} {qs = qs} w h) k = (
  chain_first (Before x r) (Before x) r.node r.start r.end ps w.filled w.chain
      (λ p n e b. nearer x r refl (le_refl x.end) (sym n) (le_of_eq e) b) (all_left (Before x) ps qs k),
  joined_after x h (all_right (Before x) ps qs k),
)

pub joined_sorted : {rs qs : List Range} → Parted Whole rs qs → Sorted qs → Sorted rs
unfolding InOrder
joined_sorted none k = tt
joined_sorted (more {r = r} {ps = ps} {rs = rs} {qs = qs} w h) k = (
  chain-last (All (Before r) rs) (λ p. All (Before p) qs) r.node r.start r.end ps w.filled w.chain
      (λ p n e a. joined_after r h (all_map (λ q b. nearer r q (sym n) (le_of_eq (sym e)) refl (le_refl q.start) b) qs a))
      (order_cross Before ps qs k),
  joined_sorted h (order-right Before ps qs k),
)

-- ---- ids

-- the ids go up by one from next on, and `later` is the next one
unfoldable pub Counted : ℕ → List Range → ℕ → Type 0
Counted next [] later = next ≡ later
Counted next (p ∷ ps) later = (p.id ≡ next) × Counted (suc next) ps later

-- the leftmost piece has the range's id, the others new ones
unfoldable pub Named : Range → ℕ → List Range → ℕ → Type 0
unfolding Counted
Named r next [] later = next ≡ later
Named r next (p ∷ ps) later = (p.id ≡ r.id) × Counted next ps later

pub data Cut (S : Range → List Range → Type 0) : ℕ → List Range → List Range → ℕ → Type 0 where
  stop : {next : ℕ} → Cut S next [] [] next
  cut : {r : Range} {ps rs qs : List Range} {next mid later : ℕ} → S r ps → Named r next ps mid → Cut S mid rs qs later
      → Cut S next (r ∷ rs) (ps ++ qs) later

counted_length : (next : ℕ) (ps : List Range) (later : ℕ) → Counted next ps later → length ps + next ≡ later
unfolding Counted
counted_length next [] later h = omega arith
counted_length next (p ∷ ps) later h = omega (arith, counted_length (suc next) ps later h.1)

Between : ℕ → ℕ → Range → Type 0
Between low high p = (low ≤ p.id) × (p.id < high)

counted_between : (low next : ℕ) (ps : List Range) (later : ℕ) → low ≤ next → Counted next ps later → All (Between low later) ps
unfolding Counted All Between
counted_between low next [] later l h = tt
counted_between low next (p ∷ ps) later l h =
    ((omega arith, omega (arith, counted_length (suc next) ps later h.1)), counted_between low (suc next) ps later (omega arith) h.1)

counted-distinct : (next : ℕ) (ps : List Range) (later : ℕ) → Counted next ps later → Distinct ps
unfolding Counted InOrder Between
counted-distinct next [] later h = tt
counted-distinct next (p ∷ ps) later h = (
  all_map {Q = IdApart p} (λ q (b : Between (suc next) later q) (e : p.id ≡ q.id). omega (arith, b.0)) ps
      (counted_between (suc next) (suc next) ps later (le_refl (suc next)) h.1),
  counted-distinct (suc next) ps later h.1,
)

named_length : (r : Range) (next : ℕ) (ps : List Range) (later : ℕ) → Named r next ps later → (next ≤ later) × (length ps + next ≤ suc later)
unfolding Named
named_length r next [] later h = (omega arith, omega arith)
named_length r next (p ∷ ps) later h = let l = counted_length next ps later h.1 in (omega arith, omega arith)

named-each : (r : Range) (next : ℕ) (ps : List Range) (later : ℕ) → Named r next ps later → All (λ p. (p.id ≡ r.id) ⊎ Between next later p) ps
unfolding Named All
named-each r next [] later h = tt
named-each r next (p ∷ ps) later h = (inl h.0, all_map (λ q b. inr b) ps (counted_between next next ps later (le_refl next) h.1))

named-distinct : (r : Range) (next : ℕ) (ps : List Range) (later : ℕ) → r.id < next → Named r next ps later → Distinct ps
unfolding Named InOrder Between
named-distinct r next [] later l h = tt
named-distinct r next (p ∷ ps) later l h = (
  all_map {Q = IdApart p} (λ q (b : Between next later q) (e : p.id ≡ q.id). omega (arith, b.0)) ps
      (counted_between next next ps later (le_refl next) h.1),
  counted-distinct next ps later h.1,
)

module _ {S : Range → List Range → Type 0} where
  pub cut_parted : {next later : ℕ} {rs qs : List Range} → Cut S next rs qs later → Parted S rs qs
  cut_parted stop = none
  cut_parted (cut s n c) = more s (cut_parted c)

  -- there are at most as many more ranges as new ids
  pub cut_length : {next later : ℕ} {rs qs : List Range} → Cut S next rs qs later → (next ≤ later) × (length qs + next ≤ length rs + later)
  cut_length stop = (omega arith, omega arith)
  cut_length (cut {r = r} {ps = ps} {qs = qs} {next = next} {mid = mid} s n c) =
      let l = cut_length c in
      let m = named_length r next ps mid n in
      (omega arith, rw length-append (omega arith))

  pub cut-ids : {next later : ℕ} {rs qs : List Range} → Cut S next rs qs later → IdsFrom rs next qs
  unfolding All HasId Between
  cut-ids stop = tt
  cut-ids (cut {r = r} {ps = ps} {rs = rs} {qs = qs} {next = next} {mid = mid} s n c) =
      let m = named_length r next ps mid n in
      all_append (λ q. HasId q.id (r ∷ rs) ⊎ (next ≤ q.id)) ps qs
      (all_map (λ p. ⊎_elim (λ (e : p.id ≡ r.id). inl (inl (sym e))) (λ b. inr b.0)) ps (named-each r next ps mid n))
      (all_map (λ q. ⊎_elim (λ (h : HasId q.id rs). inl (inr h)) (λ (l : mid ≤ q.id). inr (omega arith))) qs (cut-ids c))

  pub cut_below : {next later : ℕ} {rs qs : List Range} → Cut S next rs qs later → 1 ≤ next → All (IdBetween next) rs → All (IdBetween later) qs
  unfolding All Between
  cut_below stop l k = tt
  cut_below (cut {r = r} {ps = ps} {rs = rs} {qs = qs} {next = next} {mid = mid} {later = later} s n c) l k =
      let m = named_length r next ps mid n in
      let u = cut_length c in
      all_append (IdBetween later) ps qs
      (all_map (λ p. ⊎_elim (λ (e : p.id ≡ r.id). record { low = omega (arith, k.0.low); high = omega (arith, k.0.high) })
      (λ (b : Between next mid p). record { low = omega arith; high = omega arith })) ps (named-each r next ps mid n))
      (cut_below c (omega arith) (all_map (id_later m.0) rs k.1))

  pub cut-distinct : {next later : ℕ} {rs qs : List Range} → Cut S next rs qs later → All (IdBetween next) rs → Distinct rs → Distinct qs
  unfolding InOrder Between
  cut-distinct stop k d = tt
  cut-distinct (cut {r = r} {ps = ps} {rs = rs} {qs = qs} {next = next} {mid = mid} {later = later} s n c) k d =
      let m = named_length r next ps mid n in
      order_append IdApart ps qs (named-distinct r next ps mid k.0.high n)
      (cut-distinct c (all_map (id_later m.0) rs k.1) d.1)
      (all_map (λ p (g : (p.id ≡ r.id) ⊎ Between next mid p). all_map (λ q. ⊎_elim
      (λ (h : HasId q.id rs). old p q h g)
      (λ (l : mid ≤ q.id) (e : p.id ≡ q.id). ⊎_elim (λ (f : p.id ≡ r.id). omega (arith, k.0.high)) (λ b. omega arith) g)) qs (cut-ids c)) ps
      (named-each r next ps mid n))
    where
      old : (p q : Range) → HasId q.id rs → (p.id ≡ r.id) ⊎ Between next mid p → p.id ≡ q.id → ⊥
      old p q h (inl f) e = has_all (λ i. r.id ≡ i → ⊥) q.id rs h d.0 (sym f ∙ e)
      old p q h (inr b) e = omega (arith, has_all (λ i. i < next) q.id rs h (all_map (λ x y. y.high) rs k.1))
