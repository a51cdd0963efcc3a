-- The longest prefix is the path, not only its length, of what the public call answers and leaves: where it is accepted, its contract makes the answer and the
-- lists those of the definitions, and the segments are read back from the lists as they were laid. Assumes nothing.
use Prim.Native.Nat.{ℕ, zero, suc}
use mathlib.Core.Path.{◌≡◌, refl, sym, ap, ◌∙◌}
use mathlib.Core.List.{List}
use native.Mathlib.Omega.{arith}
use Rattle.model.specs.declared.ResolveAnswer.{ResolveAnswer}
use Rattle.model.specs.State.{State}
use Rattle.model.specs.Tree.{resolve}
use Rattle.model.specs.Refusals.{PathList, first_of, resolve_refusals}
use Rattle.model.specs.Calls.{Outcome, Answer, done, unless, lay_path, resolve_call}
use Rattle.theory_refuse.proofs.Refused.{resolve-kept}
use Rattle.theory_calls.proofs.Accepted.{unless-done, is-sound}
use Rattle.theory_resolve.proofs.Spelt.{laid-segments, resolve_spelt}
use Rattle.shape_answer.specs.declared.Resolved.{Resolved}
use Rattle.shape_answer.specs.Answers.{outcome, resolved_of}
use Rattle.theory_outcome.specs.Settled.{World, Left, state_in, Allows}
use Rattle.promise.specs.Prefix.{LongestPath}

-- an accepted call leaves the lists of its outcome
unless-lists : {L A : Type 0} (n : ℕ) (st : State) (l : L) (o : Outcome L A) (a : A) → (unless n st l o).answer ≡ done a → (unless n st l o).lists ≡ o.lists
unless-lists zero st l o a e = refl
unless-lists (suc n) st l o a e = let z : ◌≡◌ {A = ℕ} 0 1 = cc in absurd (omega arith)

pub resolved_longest : (st after : State) (l k : PathList) (hs : List ℕ) (r : Answer ResolveAnswer) → outcome after k r ≡ resolve_call st l hs
    → (a : ResolveAnswer)
    → r ≡ done a
    → LongestPath st.tree hs k a.path
unfolding resolve_call
resolved_longest st after l k hs r o a e =
    let path = resolve st.tree hs in
    let q : (resolve_call st l hs).answer ≡ done a = sym (ap (λ z. z.answer) o) ∙ e in
    let u = unless-done _ _ _ (resolve-kept st l hs) a q in
    let lists : k ≡ lay_path path l = ap (λ z. z.lists) o ∙ unless-lists (first_of (resolve_refusals st l hs)) st l _ a q in
    rw (lists, ← u.answer, laid-segments path l) (resolve_spelt st (is-sound st u.none.0) hs)

-- "For a list chained with the tree, resolve's answer is the longest prefix that any stored path has"
pub longest_prefix : (w : World PathList) (hs : List ℕ) (x : Left PathList Resolved) → Allows resolved_of (resolve_call (state_in w) w.lists hs) x
    → (a : ResolveAnswer)
    → resolved_of x.answer ≡ done a
    → LongestPath (state_in w).tree hs x.world.lists a.path
longest_prefix w hs x k a e = resolved_longest (state_in w) (state_in x.world) w.lists x.world.lists hs (resolved_of x.answer) k a e
