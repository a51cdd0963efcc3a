use Rattle.call_set_up.proofs.Fresh.{Filled}
use Rattle.call_set_up.proofs.fresh_books.Given as goal

abbrev pub invariant-loop-s : goal.invariant-loop-s
invariant-loop-s l = Filled l.capacity l.refreshes l.initial.books l.s l.books
