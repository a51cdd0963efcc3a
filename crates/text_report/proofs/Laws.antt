-- What was written on a page of its own, and copied out at a place, is as short as it was there. Assumes nothing.
use Prim.Native.Nat.{ℕ}
use mathlib.Core.List.{List, []}
use mathlib.Core.Path.{◌≡◌, ap}
use native.Mathlib.Omega.{arith}
use lib.ListN.{length}
use Rattle.text_print.specs.Print.{Put}
use Rattle.text_page.specs.Page.{Wrote}
use Rattle.text_report.specs.Lent.{PutAtMost}

pub copied_out : {at o k r : ℕ} {p q w l l' : List ℕ} → p ≡ [] → Wrote k p q → w ≡ q → at ≡ o → Put o w l l' r → PutAtMost at k l l' r
copied_out {w = w} empty wrote is here put =
    record {
      low = omega (arith, here, put.next);
      high = omega (arith, here, put.next, wrote.high, ap length empty, ap length is);
      text = w;
      put = rw here put;
    }
