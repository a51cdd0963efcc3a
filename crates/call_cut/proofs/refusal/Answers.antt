-- `call_cut::refusal` meets its contract: what `entries_over` tells completes what `insert_refusal` asks.
use native.Mathlib.Omega.{arith}
use Rattle.call_cut.proofs.Refusals.{long, with_over}
use Rattle.call_cut.proofs.refusal.Goals as goal

pub bounds-books-2 : goal.bounds-books-2
bounds-books-2 c = let p = c.requires in omega (arith, long p.0 p.1 p.2.seen)

pub returns : goal.returns
returns c = λ st hs w. c.insert_refusal.ensures st hs (with_over st hs w c.entries_of-entries.result c.entries_of-entries.ensures c.entries_over-over.result c.entries_over-over.ensures)
