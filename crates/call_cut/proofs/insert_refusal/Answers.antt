-- `call_cut::insert_refusal` meets its contract: each return is the number of the first condition that holds, by the laws over what is seen of the state.
use mathlib.Core.Path.{refl}
use native.Mathlib.Omega.{arith}
use lib.Dec.{ltb}
use Rattle.model.specs.State.{at}
use Rattle.call_cut.proofs.Refusals.{none-added, node_in, node-small, long, cut_asks, six, seven, not_inside, inside}
use Rattle.call_cut.proofs.insert_refusal.Goals as goal

pub returns-then-count-m : goal.returns-then-count-m
returns-then-count-m c = λ st hs w. none-added st hs w c.if-count-m.true

pub offset_bounds-len-j : goal.offset_bounds-len-j
offset_bounds-len-j c = let p = c.requires in omega (arith, node-small p.0 p.1 p.2 c.if-count-m.false)

pub bounds-len-j : goal.bounds-len-j
bounds-len-j c = let p = c.requires in node_in p.0 p.1 p.2 c.if-count-m.false

pub returns-then-nodes-node_need-gt256 : goal.returns-then-nodes-node_need-gt256
returns-then-nodes-node_need-gt256 c = let a = c.args in
    λ st hs w. six st hs w c.if-count-m.false (ltb a.m.len (at a.len.now a.m.node)) c.node_need.result refl c.node_need.ensures c.if-nodes-node_need-gt256.true

pub returns-then-used-count-gt4096 : goal.returns-then-used-count-gt4096
returns-then-used-count-gt4096 c = let a = c.args in
    λ st hs w. seven st hs w c.if-count-m.false (ltb a.m.len (at a.len.now a.m.node)) c.node_need.result refl c.node_need.ensures c.if-nodes-node_need-gt256.false c.if-used-count-gt4096.true

pub returns-then-not-inside : goal.returns-then-not-inside
returns-then-not-inside c = let a = c.args in
    λ st hs w. not_inside st hs w c.if-count-m.false (ltb a.m.len (at a.len.now a.m.node)) c.node_need.result refl c.node_need.ensures c.if-nodes-node_need-gt256.false c.if-used-count-gt4096.false c.if-not-inside.true

pub bounds-books-2 : goal.bounds-books-2
bounds-books-2 c = let p = c.requires in omega (arith, long p.0 p.1 p.2)

pub cut_refusal-requires : goal.cut_refusal-requires
cut_refusal-requires c = let p = c.requires in cut_asks p.0 p.1 p.2 c.records_of-records.result c.records_of-records.ensures

pub returns : goal.returns
returns c = let a = c.args in
    λ st hs w. inside st hs w c.if-count-m.false (ltb a.m.len (at a.len.now a.m.node)) c.node_need.result refl c.node_need.ensures c.if-nodes-node_need-gt256.false c.if-used-count-gt4096.false c.if-not-inside.false c.records_of-records.result c.records_of-records.ensures c.cut_refusal.result c.cut_refusal.ensures
