-- The path that resolve lists spells the first hashes of a chained list: its nodes in full are a stored path, which agrees with the list where the last
-- segment ends, and so, the list being chained, at every earlier position. Assumes nothing.
use Prim.Native.Nat.{ℕ, ◌+◌, ◌-◌, ◌≤◌, ◌<◌}
use mathlib.Core.List.{List, [], ◌∷◌, ◌++◌, map, append-nil}
use mathlib.Core.Path.{◌≡◌, refl, sym, ap, subst, ◌∙◌}
use mathlib.Core.Logic.{⊎_elim}
use native.Mathlib.Omega.{arith}
use native.Mathlib.Nat.{add-zero, zero-add, add_assoc, eq-or-lt_of_le}
use lib.ListN.{length, take, length-append, length-take, length-drop, get_or-append}
use lib.Seq.{take-length, take-append-add, length-take-le, get_or-take, get_or-drop, get_or-append-add, ext_get_or}
use Rattle.model.specs.State.{Tree, State, at}
use Rattle.model.specs.Sound.{EachNode, RunsBelow, Sound}
use Rattle.model.specs.Chained.{hashes_of, Child, Down, stop, into, Chained}
use Rattle.model.specs.Tree.{Seg, resolve, blocks}
use Rattle.model.specs.Refusals.{PathList}
use Rattle.model.specs.Calls.{lay_path, path_of}
use Rattle.theory_resolve.proofs.Walked.{Enters, Walked, ends, part, whole, resolve_walked, resolve-within}
use Rattle.theory_resolve.proofs.Prefix.{resolve-longest}
use Rattle.theory_resolve.specs.Spelt.{segments, Below, WayDown, end, last, next, spelling, Spelt}

-- ---- the path in front of the lists is read back as it was laid

read_back : (ss : List Seg) (node len : List ℕ) → segments (length ss) (map (λ s. s.node) ss ++ node) (map (λ s. s.len) ss ++ len) ≡ ss
unfolding segments
read_back [] node len = refl
read_back (s ∷ ss) node len = ap (λ z. s ∷ z) (read_back ss node len)

pub laid-segments : (ss : List Seg) (l : PathList) → segments (path_of ss).segs (lay_path ss l).node (lay_path ss l).len ≡ ss
laid-segments ss l = read_back ss _ _

-- ---- a walk goes down

below : {t : Tree} {hs : List ℕ} {pos p k m : ℕ} → Enters t hs pos p k m → Below t p (record { node = k; len = m })
below e = record { child = e.child; filled = e.filled; in_node = e.in_node }

way_down : {t : Tree} {hs : List ℕ} {pos p : ℕ} {ss : List Seg} → Walked t hs pos p ss → WayDown t p ss
way_down (ends x) = end
way_down (part k m e l) = last (record { node = k; len = m }) (below e)
way_down (whole k m ss e l w) = next (record { node = k; len = m }) ss (below e) l (way_down w)

-- ---- the nodes of a path in full

-- all of a node's hashes are there
abbrev RunsInside : Tree → Type 0
RunsInside t = EachNode t (λ k. at t.run k + at t.len k ≤ length t.words)

unfoldable along : Tree → List Seg → List ℕ
along t [] = []
along t (s ∷ ss) = hashes_of t s.node ++ along t ss

whole_part : (n b : ℕ) (h xs ys : List ℕ) → n ≡ length h → xs ≡ take b ys → take n h ++ xs ≡ take (n + b) (h ++ ys)
whole_part n b h xs ys e q = rw (e, q, take-length, take-append-add)

last-part : (n : ℕ) (h : List ℕ) → take n h ++ [] ≡ take (n + 0) (h ++ [])
last-part n h = rw (append-nil (take n h), append-nil h, add-zero)

least : (n : ℕ) → 0 ≤ n
least n = omega arith

module _ (t : Tree) (runs : RunsInside t) (hs : List ℕ) where
  hashes_length : {p k : ℕ} → Child t p k → length (hashes_of t k) ≡ at t.len k
  hashes_length {k = k} c = rw (length-take, length-drop) (omega (arith, runs k c.not_root c.in_use))

  stored : {p : ℕ} {ss : List Seg} → WayDown t p ss → Down t p (along t ss)
  unfolding along
  stored end = stop
  stored (last s b) = into s.node [] b.child stop
  stored (next s ss b q w) = into s.node (along t ss) b.child (stored w)

  long-enough : {p : ℕ} {ss : List Seg} → WayDown t p ss → blocks ss ≤ length (along t ss)
  unfolding along blocks
  long-enough end = omega arith
  long-enough (last s b) = rw length-append (omega (arith, hashes_length b.child, b.in_node))
  long-enough (next s ss b q w) = rw length-append (omega (arith, hashes_length b.child, long-enough w))

  -- the segments spell the first hashes of their nodes in full
  spelling-is : {p : ℕ} {ss : List Seg} → WayDown t p ss → spelling t ss ≡ take (blocks ss) (along t ss)
  unfolding along blocks spelling
  spelling-is end = refl
  spelling-is (last s b) = last-part s.len (hashes_of t s.node)
  spelling-is (next s ss b q w) = whole_part s.len (blocks ss) (hashes_of t s.node) _ _ (q ∙ sym (hashes_length b.child)) (spelling-is w)

  -- ---- a walk, and the list

  -- the node entered agrees with the list at the last of its blocks
  enters_last : {pos p k m : ℕ} (ys : List ℕ) → Enters t hs pos p k m → at (hashes_of t k ++ ys) (m - 1) ≡ at hs (pos + (m - 1))
  enters_last {k = k} {m} ys e =
      let inside : m - 1 < at t.len k = omega (arith, e.in_node, e.filled) in
      get_or-append (hashes_of t k) ys 0 (m - 1) (omega (arith, hashes_length e.child)) ∙ rw (get_or-take, get_or-drop) (sym e.last)

  -- and so does the path in full, at the last of all blocks
  agrees-last : {pos p : ℕ} {ss : List Seg} → Walked t hs pos p ss → 0 < blocks ss → at (along t ss) (blocks ss - 1) ≡ at hs (pos + (blocks ss - 1))
  unfolding along blocks
  agrees-last (ends x) h = absurd (omega arith)
  agrees-last (part k m e l) h = rw add-zero (enters_last [] e)
  agrees-last {pos} (whole k m ss e l w) h = ⊎_elim none (λ z. some z (agrees-last w z)) (eq-or-lt_of_le (least (blocks ss)))
    where
      there : ℕ → Type 0
      there i = at (hashes_of t k ++ along t ss) i ≡ at hs (pos + i)

      none : 0 ≡ blocks ss → there (m + blocks ss - 1)
      none z = let back : m - 1 ≡ m + blocks ss - 1 = omega arith in subst there back (enters_last (along t ss) e)

      some : 0 < blocks ss → at (along t ss) (blocks ss - 1) ≡ at hs (pos + m + (blocks ss - 1)) → there (m + blocks ss - 1)
      some z later =
          let back : m + (blocks ss - 1) ≡ m + blocks ss - 1 = omega arith in
          let size : length (hashes_of t k) ≡ m = hashes_length e.child ∙ sym l in
          subst there back ((rw size at (get_or-append-add (hashes_of t k) (along t ss) (blocks ss - 1) 0)) ∙ later ∙ rw add_assoc)

  -- a chained list agrees with the path at all earlier positions too
  agrees-all : {ss : List Seg} → Chained t hs → Walked t hs 0 0 ss → blocks ss ≤ length hs → (i : ℕ) → i < blocks ss → at (along t ss) i ≡ at hs i
  unfolding Chained
  agrees-all {ss} ch w n i h =
      let size = long-enough (way_down w) in
      ch (along t ss) (stored (way_down w)) i (blocks ss - 1) (omega arith) (omega arith) (omega arith) (simp zero-add at (agrees-last w (omega arith)))

  walked_spells : {ss : List Seg} → Chained t hs → Walked t hs 0 0 ss → blocks ss ≤ length hs → spelling t ss ≡ take (blocks ss) hs
  walked_spells {ss} ch w n =
      let left : length (take (blocks ss) (along t ss)) ≡ blocks ss = length-take-le (blocks ss) (along t ss) (long-enough (way_down w)) in
      let right : length (take (blocks ss) hs) ≡ blocks ss = length-take-le (blocks ss) hs n in
      spelling-is (way_down w)
      ∙ ext_get_or 0 (take (blocks ss) (along t ss)) (take (blocks ss) hs) (left ∙ sym right)
      (λ i h. get_or-take (blocks ss) (along t ss) i 0 (rw left at h) ∙ agrees-all ch w n i (rw left at h) ∙ sym (get_or-take (blocks ss) hs i 0 (rw left at h)))

-- ---- the theorem

runs-inside : (st : State) → Sound st → RunsInside st.tree
unfolding RunsBelow
runs-inside st s k a b = omega (arith, s.runs_below k a b, s.counts.used, s.lent.tree.words)

-- "This is the answer on any list": a way down, whose lengths add up to the count. On a chained one it is the longest stored prefix, spelt
pub resolve_spelt : (st : State) → Sound st → (hs : List ℕ) → Spelt st.tree hs (resolve st.tree hs) (blocks (resolve st.tree hs))
resolve_spelt st s hs =
    let w = resolve_walked st.tree s.filled hs in
    record {
      down = way_down w;
      count = refl;
      spells = λ c. walked_spells st.tree (runs-inside st s) hs c w (resolve-within st s hs);
      longest = resolve-longest st s hs;
    }
