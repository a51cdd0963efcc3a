-- `call_cut::cut_refusal` meets its contract: each return is the first of three tests that holds.
use Rattle.call_cut.proofs.Refusals.{eight, nine, eleven, no_number}
use Rattle.call_cut.proofs.cut_refusal.Goals as goal

pub returns-then-records_over : goal.returns-then-records_over
returns-then-records_over c = let a = c.args in
    eight a.j a.k a.over a.records a.stores a.next a.node.now a.start.now a.end.now c.records_over.result c.records_over.ensures c.if-records_over.true

pub returns-then-over : goal.returns-then-over
returns-then-over c = let a = c.args in
    nine a.j a.k a.over a.records a.stores a.next a.node.now a.start.now a.end.now c.records_over.result c.records_over.ensures c.if-records_over.false c.if-over.true

pub returns-then-next-ids-gt281474976710655 : goal.returns-then-next-ids-gt281474976710655
returns-then-next-ids-gt281474976710655 c = let a = c.args in
    eleven a.j a.k a.over a.records a.stores a.next a.node.now a.start.now a.end.now c.records_over.result c.records_over.ensures c.if-records_over.false c.if-over.false c.ids_needed-ids.result c.ids_needed-ids.ensures.1 c.if-next-ids-gt281474976710655.true

pub returns : goal.returns
returns c = let a = c.args in
    no_number a.j a.k a.over a.records a.stores a.next a.node.now a.start.now a.end.now c.records_over.result c.records_over.ensures c.if-records_over.false c.if-over.false c.ids_needed-ids.result c.ids_needed-ids.ensures.1 c.if-next-ids-gt281474976710655.false
