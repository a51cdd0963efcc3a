-- Set-up's two outcomes, over any lists: refused by 12 where the rules do not hold, else the state that 01 gives. Assumes nothing.
use mathlib.Core.Path.{◌≡◌, refl, ap, ◌∙◌}
use mathlib.Core.Bool.{Bool}
use mathlib.Core.List.{List, ◌++◌}
use Prim.Native.Nat.{ℕ}
use lib.ListN.{drop, set, replicate, length-replicate}
use lib.Ieee.{Float}
use Rattle.model.specs.State.{State}
use Rattle.model.specs.Sizes.{max_marks, table_length}
use Rattle.model.specs.SetUp.{SetUpFits, set_up_state}
use Rattle.model.specs.Refusals.{set_up_refusals}
use Rattle.model.specs.Calls.{NoList, NoValue, refused, done, front, set_up}
use Rattle.shape_answer.specs.Answers.{state_from, outcome}
use Rattle.theory_refuse.proofs.Refusals.{first-is, set_up_exact}
use Rattle.call_set_up.specs.Fresh.{fresh_books}
use mathlib.Core.Logic.{inl, inr}

module _ (pools : State) (table capacity : List ℕ) (refreshes : List Bool) where
  -- 12 where the rules do not hold
  pub refused-is : (SetUpFits pools table capacity refreshes → ⊥)
      → outcome {L = NoList} {A = NoValue} pools tt (refused 12) ≡ set_up pools table capacity refreshes
  unfolding set_up set_up_state
  refused-is n = rw (first-is (set_up_refusals pools table capacity refreshes) (set_up_exact pools table capacity refreshes) 12 (inl (n, refl)))

  pub accepted-is : SetUpFits pools table capacity refreshes
      → outcome {L = NoList} {A = NoValue} (set_up_state pools table capacity refreshes) tt (done tt) ≡ set_up pools table capacity refreshes
  unfolding set_up set_up_state
  accepted-is h = rw (first-is (set_up_refusals pools table capacity refreshes) (set_up_exact pools table capacity refreshes) 0 (inr (λ n. n h, refl)))

-- the columns as they are written make the state that 01 gives
pub written_is :
    {parent parent' depth depth' len len' run run' words node start end id stamp write pin_node pin_start pin_end pin_count marks marks' bytes bytes' books books' : List ℕ}
    {touched : List Float} (table capacity : List ℕ) (refreshes : List Bool)
    → SetUpFits (state_from parent depth len run words node start end id stamp touched write pin_node pin_start pin_end pin_count marks bytes books) table capacity refreshes
    → parent' ≡ set parent 0 0 → depth' ≡ set depth 0 0 → len' ≡ set len 0 0 → run' ≡ set run 0 0
    → marks' ≡ front (replicate 2048 0) marks
    → bytes' ≡ front table bytes
    → books' ≡ fresh_books capacity refreshes books
    → outcome {L = NoList} {A = NoValue} (state_from parent' depth' len' run' words node start end id stamp touched write pin_node pin_start pin_end pin_count marks' bytes' books') tt (done tt)
    ≡ set_up (state_from parent depth len run words node start end id stamp touched write pin_node pin_start pin_end pin_count marks bytes books) table capacity refreshes
unfolding set_up_state
written_is {parent} {parent'} {depth} {depth'} {len} {len'} {run} {run'} {words} {node} {start} {end} {id} {stamp} {write} {pin_node} {pin_start} {pin_end} {pin_count} {marks} {marks'} {bytes} {bytes'} {books} {books'} {touched} table capacity refreshes fits ep ed el er em eb es =
    ap (λ s. outcome s tt (done tt)) state ∙ accepted-is pools table capacity refreshes fits
  where
    pools : State
    pools = state_from parent depth len run words node start end id stamp touched write pin_node pin_start pin_end pin_count marks bytes books

    cleared : marks' ≡ replicate max_marks 0 ++ drop max_marks marks
    cleared = em ∙ ap (λ k. replicate max_marks 0 ++ drop k marks) (length-replicate {A = ℕ} max_marks 0)

    copied : bytes' ≡ table ++ drop table_length bytes
    copied = eb ∙ ap (λ k. table ++ drop k bytes) fits.table_long

    state : state_from parent' depth' len' run' words node start end id stamp touched write pin_node pin_start pin_end pin_count marks' bytes' books' ≡ set_up_state pools table capacity refreshes
    state = rw (ep, ed, el, er, cleared, copied, es)
