-- `call_expire::refusal` meets its contract: each test gives its number where those before it fail. Assumes nothing.
use Rattle.call_expire.proofs.Laws.{refused-store, refused-time, refused_seconds, accepted}
use Rattle.std.proofs.Common.{ap}
use mathlib.Core.Bool.{not}
use Rattle.call_expire.proofs.refusal.Goals as goal

pub returns-then-stores-s : goal.returns-then-stores-s
returns-then-stores-s c = let a = c.args in
    λ st l h fits is. refused-store st l a.s a.time a.seconds h fits a.stores is c.if-stores-s.true

pub returns-then-not-finite : goal.returns-then-not-finite
returns-then-not-finite c = let a = c.args in
    λ st l h fits is. refused-time st l a.s a.time a.seconds h fits a.stores is c.if-stores-s.false c.finite.result c.finite.ensures (ap not c.if-not-finite.true)

pub returns-then-not-finite-2 : goal.returns-then-not-finite-2
returns-then-not-finite-2 c = let a = c.args in
    λ st l h fits is. refused_seconds st l a.s a.time a.seconds h fits a.stores is c.if-stores-s.false c.finite-2.result c.finite-2.ensures (ap not c.if-not-finite-2.true)

pub returns : goal.returns
returns c = let a = c.args in
    λ st l h fits is. accepted st l a.s a.time a.seconds h fits a.stores is c.if-stores-s.false c.finite.result c.finite-2.result c.finite.ensures (ap not c.if-not-finite.false) c.finite-2.ensures (ap not c.if-not-finite-2.false)
