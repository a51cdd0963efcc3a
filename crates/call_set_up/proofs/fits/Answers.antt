-- `call_set_up::fits` meets its contract: each test's answer is a field of `SetUpFits`. Assumes nothing.
use Rattle.theory_refuse.proofs.Says.{says_true, says_false}
use native.Mathlib.Omega.{arith}
use borrow.Author.Rules.{rules}
use Rattle.call_set_up.proofs.fits.Goals as goal

pub returns-then-capacity-gt8 : goal.returns-then-capacity-gt8
returns-then-capacity-gt8 c = λ h. omega (arith, h.stores)

pub returns-then-refreshes-capacity : goal.returns-then-refreshes-capacity
returns-then-refreshes-capacity c = λ h. omega (arith, h.policies)

pub returns-then-not-capacities_fit : goal.returns-then-not-capacities_fit
returns-then-not-capacities_fit c = λ h. (says_false c.if-not-capacities_fit.true c.capacities_fit.ensures) h.capacities

pub returns-then-table-ne1025 : goal.returns-then-table-ne1025
returns-then-table-ne1025 c = λ h. omega (arith, h.table_long)

pub returns-then-not-table_rises : goal.returns-then-not-table_rises
returns-then-not-table_rises c = λ h. (says_false c.if-not-table_rises.true c.table_rises.ensures) (record { long = omega (arith, h.table_long); rising = h.rises })

pub returns-then-not-tree_lent : goal.returns-then-not-tree_lent
returns-then-not-tree_lent c = λ h. says_false c.if-not-tree_lent.true (c.tree_lent.ensures _ _) h.tree

pub returns-then-not-ranges_lent : goal.returns-then-not-ranges_lent
returns-then-not-ranges_lent c = λ h. (says_false c.if-not-ranges_lent.true c.ranges_lent.ensures) h.ranges

pub returns-then-not-pins_lent : goal.returns-then-not-pins_lent
returns-then-not-pins_lent c = λ h. (says_false c.if-not-pins_lent.true c.pins_lent.ensures) h.pins

pub returns-then-marks-lt2048 : goal.returns-then-marks-lt2048
returns-then-marks-lt2048 c = λ h. omega (arith, h.marks)

pub returns-then-bytes-lt1025 : goal.returns-then-bytes-lt1025
returns-then-bytes-lt1025 c = λ h. omega (arith, h.bytes)

pub returns-then-not-long_enough : goal.returns-then-not-long_enough
returns-then-not-long_enough c = λ h. (says_false c.if-not-long_enough.true c.long_enough.ensures) h.books

pub returns : goal.returns
returns c = record {
  some_store = search rules;
  stores = c.if-capacity-gt8.false;
  policies = c.if-refreshes-capacity.false;
  capacities = (says_true c.if-not-capacities_fit.false c.capacities_fit.ensures);
  table_long = c.if-table-ne1025.false;
  rises = (says_true c.if-not-table_rises.false c.table_rises.ensures).rising;
  tree = says_true c.if-not-tree_lent.false (c.tree_lent.ensures _ _);
  ranges = (says_true c.if-not-ranges_lent.false c.ranges_lent.ensures);
  pins = (says_true c.if-not-pins_lent.false c.pins_lent.ensures);
  marks = c.if-marks-lt2048.false;
  bytes = c.if-bytes-lt1025.false;
  books = (says_true c.if-not-long_enough.false c.long_enough.ensures);
}
