-- Resolve's outcomes on a sound state with a path list that is long enough: refused by 3, or the path. Assumes nothing.
use mathlib.Core.Path.{◌≡◌, refl}
use mathlib.Core.List.{List}
use mathlib.Core.Logic.{inl, inr}
use Prim.Native.Nat.{ℕ, ◌≤◌, ◌<◌}
use native.Mathlib.Omega.{arith}
use lib.ListN.{length}
use Rattle.model.specs.State.{State}
use Rattle.model.specs.Sound.{Sound}
use Rattle.model.specs.Tree.{resolve, blocks}
use Rattle.model.specs.Refusals.{PathList, PathFits, resolve_refusals}
use Rattle.model.specs.Calls.{refused, done, resolve_call}
use Rattle.shape_answer.specs.Answers.{outcome}
use Rattle.rule_resolve.specs.declared.Match.{Match}
use Rattle.rule_resolve.specs.Walk.{Resolved}
use Rattle.theory_refuse.proofs.Refusals.{first-is, resolve_exact}

module _ (st : State) (l : PathList) (hs : List ℕ) (sound : Sound st) (fits : PathFits l) where
  pub many_is : 1024 < length hs → outcome st l (refused 3) ≡ resolve_call st l hs
  unfolding resolve_call resolve blocks
  many_is h = rw (first-is (resolve_refusals st l hs) (resolve_exact st l hs) 3 (inr (λ n. n sound, inr (λ n. n fits, inl (h, refl)))))

  pub resolved_is : {l' : PathList} {m : Match} → length hs ≤ 1024 → Resolved st.tree hs l l' m
      → outcome st l' (done (record { path = record { segs = m.segs; blocks = m.blocks } })) ≡ resolve_call st l hs
  unfolding resolve_call resolve blocks
  resolved_is {l'} {m} h r =
      rw (first-is (resolve_refusals st l hs) (resolve_exact st l hs) 0 (inr (λ n. n sound, inr (λ n. n fits, inr (λ n. omega arith, refl)))), r.answer, r.lists)
