-- `text_report::put_report` meets its contract: what was written on a page of its own is copied. Assumes nothing.
use native.Mathlib.Omega.{arith}
use Rattle.text_report.proofs.Laws.{copied_out}
use Rattle.text_report.proofs.put_report.Goals as goal

pub returns : goal.returns
returns c = copied_out c.new-page.ensures c.write_report.ensures c.bytes.ensures.is (omega arith) c.put_bytes.ensures
