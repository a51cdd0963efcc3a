-- `text_report::put_lookups` meets its contract: what was written on a page of its own is copied. Assumes nothing.
use native.Mathlib.Omega.{arith}
use Rattle.text_report.proofs.Laws.{copied_out}
use Rattle.text_report.proofs.put_lookups.Goals as goal

pub returns : goal.returns
returns c = copied_out c.new-total.ensures c.write_lookups.ensures c.bytes.ensures.is (omega arith) c.put_bytes.ensures
