-- `rule_cut_pins::Entries::add` meets its contract: the entry of its span has more, or it is put in. Assumes nothing.
use Rattle.std.proofs.Common.{rules, ◌≡◌, length}
use native.Mathlib.Omega.{arith}
use Rattle.rule_cut_pins.proofs.Listed.{sum-fits, added-there, one-more, added-new}
use Rattle.rule_cut_pins.proofs.Entries.add.Goals as goal

pub overflow_add-self : goal.overflow_add-self
overflow_add-self c = let a = c.args in
    let long : length a.self.now.list ≡ 32 = search rules in
    omega (arith, sum-fits a.self.now c.requires.0 long a.p c.in-Ok.at c.in-Ok.ensures c.requires.1)

pub returns-in-Ok-clause-list : goal.returns-in-Ok-clause-list
returns-in-Ok-clause-list c = let a = c.args in
    let long : length a.self.now.list ≡ 32 = search rules in
    added-there a.self.now c.requires.0 long a.p c.in-Ok.at c.in-Ok.ensures

pub put-requires : goal.put-requires
put-requires c = let a = c.args in
    let long : length a.self.now.list ≡ 32 = search rules in
    (c.in-Err.ensures.high, omega (arith, one-more a.self.now c.requires.0 long a.p c.in-Err.at c.in-Err.ensures c.requires.1))

pub returns-in-Err-clause-few : goal.returns-in-Err-clause-few
returns-in-Err-clause-few c = let a = c.args in
    let long : length a.self.now.list ≡ 32 = search rules in
    one-more a.self.now c.requires.0 long a.p c.in-Err.at c.in-Err.ensures c.requires.1

pub returns-in-Err-clause-list : goal.returns-in-Err-clause-list
returns-in-Err-clause-list c = let a = c.args in
    let long : length a.self.now.list ≡ 32 = search rules in
    rw c.put.ensures (added-new a.self.now c.requires.0 long a.p c.in-Err.at c.in-Err.ensures c.requires.1)
