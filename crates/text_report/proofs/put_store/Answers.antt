-- `text_report::put_store` meets its contract: what was written on a page of its own is copied. Assumes nothing.
use native.Mathlib.Omega.{arith}
use Rattle.text_report.proofs.Laws.{copied_out}
use Rattle.text_report.proofs.put_store.Goals as goal

pub returns : goal.returns
returns c = copied_out c.new-line.ensures c.write_store.ensures c.bytes.ensures.is (omega arith) c.put_bytes.ensures
