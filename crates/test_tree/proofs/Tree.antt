-- The model's facts of the tree are what the tests find of its lists, said another way. Assumes nothing.
use Prim.Native.Nat.{ℕ, ◌+◌, ◌≤◌, ◌<◌}
use mathlib.Core.Path.{◌≡◌}
use mathlib.Core.Logic.{⊎_elim}
use native.Mathlib.Omega.{arith}
use lib.ListN.{length}
use Rattle.model.specs.Words.{Each}
use Rattle.model.specs.State.{Tree, at}
use Rattle.model.specs.Sound.{ParentsInUse, DepthsAdd, EndsWithin, NodesFilled, RunsBelow, RunsApart, SiblingsDiffer}
use Rattle.theory_refuse.proofs.Says.{le_or_lt}
use Rattle.test_tree.specs.Nodes.{NodeFits}
use Rattle.test_tree.specs.Runs.{OneOwner}
use Rattle.test_tree.specs.Siblings.{NotRoot, Unlike}
use Rattle.test_tree.specs.Tree.{TreeSized, TreeSound}

abbrev pub Fits : Tree → Type 0
Fits t = Each 1 t.nodes (NodeFits t.parent t.depth t.len t.run t.nodes t.used)

module _ {t : Tree} where
  pub fits-of : TreeSound t → Fits t
  unfolding ParentsInUse DepthsAdd EndsWithin NodesFilled RunsBelow
  fits-of h k f l =
      record { in_use = h.parents k f l; adds = h.depths k f l; ends = h.ends k f l; filled = h.filled k f l; below = h.runs_below k f l }

  pub owner_of : TreeSound t → OneOwner t.run t.len t.nodes
  unfolding RunsApart OneOwner
  owner_of h w j fj lj k fk lk a b =
      h.runs_apart w j fj lj k fk lk (record { low = a.low; high = a.high }) (record { low = b.low; high = b.high })

  pub unlike_of : TreeSound t → Unlike t.parent t.run t.words t.nodes
  unfolding SiblingsDiffer Unlike
  unlike_of h j k lj lk fj fk w = h.siblings j fj lj k fk lk w.one_parent w.one_hash

  pub tree_is : TreeSized t → Fits t → OneOwner t.run t.len t.nodes → Unlike t.parent t.run t.words t.nodes → TreeSound t
  unfolding ParentsInUse DepthsAdd EndsWithin NodesFilled RunsBelow RunsApart OneOwner SiblingsDiffer Unlike
  tree_is s z o u = record {
    sized = s;
    parents = λ k f l. (z k f l).in_use;
    depths = λ k f l. (z k f l).adds;
    ends = λ k f l. (z k f l).ends;
    filled = λ k f l. (z k f l).filled;
    runs_below = λ k f l. (z k f l).below;
    runs_apart = λ w j fj lj k fk lk a b. o w j fj lj k fk lk (record { low = a.low; high = a.high }) (record { low = b.low; high = b.high });
    siblings = λ j fj lj k fk lk p q. u j k lj lk fj fk (record { one_parent = p; one_hash = q });
  }

  -- each run lies in the pool of words
  pub runs-end : TreeSized t → Fits t → Each 1 t.nodes (λ k. at t.run k + at t.len k ≤ 4096)
  runs-end s z k f l = omega (arith, (z k f l).below, s.used)

  pub runs-start : TreeSized t → Fits t → (k : ℕ) → k < t.nodes → NotRoot k → at t.run k < length t.words
  runs-start s z k l f = omega (arith, (z k f l).below, (z k f l).filled, s.used, s.lent.words)

  -- in a sound tree no node is longer than 1,024
  pub lens_bound : TreeSound t → (k : ℕ) → k < t.nodes → at t.len k ≤ 1024
  unfolding EndsWithin
  lens_bound h k l =
      ⊎_elim (λ f. omega (arith, h.ends k f l)) (λ (z : k < 1). let e : k ≡ 0 = omega arith in rw e (omega (arith, h.sized.root.len))) (le_or_lt 1 k)
