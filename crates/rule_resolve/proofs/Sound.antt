-- A sound state gives what the functions of this crate ask for.
use Prim.Native.Nat.{ℕ, zero, suc, ◌+◌, ◌≤◌, ◌<◌}
use native.Mathlib.Omega.{arith}
use Rattle.model.specs.declared.Span.{Span}
use Rattle.model.specs.State.{State, at}
use Rattle.model.specs.Sound.{EndsWithin, NodesFilled, RunsBelow, Sound}
use Rattle.theory_resolve.proofs.Walked.{resolve-few}
use Rattle.rule_resolve.specs.Span.{Priced}
use Rattle.rule_resolve.specs.Walk.{Stored, Walkable}

module _ (st : State) (s : Sound st) where
  stored : (k : ℕ) → 1 ≤ k → k < st.tree.nodes → Stored st.tree.len st.tree.run st.tree.words k
  unfolding NodesFilled RunsBelow
  stored k a b =
      record {
        len = omega (arith, s.counts.nodes, s.lent.tree.len);
        run = omega (arith, s.counts.nodes, s.lent.tree.run);
        filled = s.filled k a b;
        words = omega (arith, s.runs_below k a b, s.counts.used, s.lent.tree.words);
      }

  pub sound_walkable : Walkable st.tree
  sound_walkable =
      record {
        scanned = record {
          parent = omega (arith, s.counts.nodes, s.lent.tree.parent);
          run = omega (arith, s.counts.nodes, s.lent.tree.run);
          words = λ k a b. omega (arith, stored k a b);
        };
        stored = stored;
        few = λ hs. omega (arith, s.counts.nodes, resolve-few st s hs);
      }

  ends-within : (k end : ℕ) → k < st.tree.nodes → end ≤ at st.tree.len k → at st.tree.depth k + end ≤ 1024
  unfolding EndsWithin
  ends-within zero end a b = omega (arith, s.root.len, s.root.depth)
  ends-within (suc k) end a b = omega (arith, s.ends (suc k) (omega arith) a)

  pub sound-priced : (sp : Span) → sp.node < st.tree.nodes → sp.start ≤ sp.end → sp.end ≤ at st.tree.len sp.node → Priced st.tree.depth st.bytes sp
  sound-priced sp a b c =
      record {
        node = omega (arith, s.counts.nodes, s.lent.tree.depth);
        order = b;
        ends = ends-within sp.node sp.end a c;
        table = s.lent.bytes;
        rising = s.table;
      }
