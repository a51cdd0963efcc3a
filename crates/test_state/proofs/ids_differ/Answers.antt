-- `test_state::ids_differ` meets its contract: the places so far stand in chains by bucket, and no two of them have one id. Assumes nothing.
use mathlib.Core.Path.{sym}
use Rattle.test_state.specs.Ids.{Fresh, Differ, id_bucket}
use Rattle.test_state.proofs.Books.{live_by, dead-by}
use Rattle.theory_refuse.proofs.Says.{says_true, says_false}
use Rattle.test_tree.proofs.Chain.{chain-less}
use Rattle.test_tree.proofs.Apart.{met_none, met_skip, met_add, met_miss, met_all}
use native.Mathlib.Omega.{arith}
use Rattle.test_state.proofs.ids_differ.Goals as goal

pub loop-k-init : goal.loop-k-init
loop-k-init c = met_none 1024 _ _ _

pub loop-k-preserved-then-records-k : goal.loop-k-preserved-then-records-k
loop-k-preserved-then-records-k c = met_skip c.loop-k.invariant (dead-by c.args.books.now c.loop-k.k (omega (arith, c.requires.1)) c.records_of-records.ensures c.if-records-k.true)

pub fresh-requires : goal.fresh-requires
fresh-requires c = let m = c.loop-k.invariant in
    let h = m.heads.top (id_bucket c.args.id.now c.loop-k.k) in
    (omega arith, omega (arith, m.nprev), chain-less m.chain h, m.heads.link _)

pub returns-then-not-fresh : goal.returns-then-not-fresh
unfolding Fresh Differ
returns-then-not-fresh c = met_miss c.loop-k.invariant c.loop-k-test.true (live_by c.args.books.now c.loop-k.k (omega (arith, c.requires.1)) c.records_of-records.ensures c.if-records-k.false) (says_false c.if-not-fresh.true c.fresh.ensures)

pub loop-k-preserved : goal.loop-k-preserved
unfolding Fresh
loop-k-preserved c = met_add c.loop-k.invariant (λ j k h. rw h) (λ j k h. sym h) (omega arith) (omega arith) (live_by c.args.books.now c.loop-k.k (omega (arith, c.requires.1)) c.records_of-records.ensures c.if-records-k.false) (says_true c.if-not-fresh.false c.fresh.ensures)

pub returns : goal.returns
unfolding Differ
returns c = met_all c.loop-k.invariant c.loop-k-test.false
