-- `test_store::held_nodes` meets its contract: the flags tell the nodes of the records passed. Assumes nothing.
use Rattle.std.proofs.Common.{◌≡◌, ◌+◌, ◌-◌, ◌<◌, take, drop, get_or, arith, add-zero}
use Rattle.model.specs.State.{at}
use Rattle.std.proofs.lemmas.List.Edits.{length-between, get_or-between}
use Rattle.test_store.proofs.Marks.{flags_none, flags_more}
use Rattle.test_store.proofs.held_nodes.Goals as goal

pub loop-v-init : goal.loop-v-init
loop-v-init c = rw (add-zero c.args.a) (flags_none c.args.node.now c.args.a)

pub loop-v-preserved : goal.loop-v-preserved
loop-v-preserved c =
    let a = c.args in
    let i = c.loop-v.v-index in
    let long = length-between a.node.now a.a a.b c.requires.1 in
    let within : a.a + i < a.b = omega arith in
    let node : get_or (take (a.b - a.a) (drop a.a a.node.now)) i 0 ≡ at a.node.now (a.a + i) = get_or-between a.node.now a.a a.b i 0 within in
    let next : a.a + (i + 1) ≡ a.a + i + 1 = omega arith in
    rw (node, next) (flags_more c.loop-v.invariant (omega arith) (c.requires.2 (a.a + i) (omega arith) within))
