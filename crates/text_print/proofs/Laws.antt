-- A law of bytes written into a buffer: two runs side by side are one. Assumes nothing.
use mathlib.Core.Path.{◌≡◌, sym, ap, ◌∙◌}
use mathlib.Core.List.{List, ◌++◌, append_assoc}
use Prim.Native.Nat.{ℕ, ◌+◌, ◌≤◌}
use native.Mathlib.Omega.{arith}
use lib.ListN.{length, take, drop, length-append}
use lib.Seq.{take_at, drop-append-add, length-take-le, drop-drop}
use Rattle.text_print.specs.Print.{Put}

-- two runs side by side
pub put-more : (at : ℕ) (v w l m o : List ℕ) (r q : ℕ) → at ≤ length l → Put at v l m r → Put r w m o q → Put at (v ++ w) l o q
put-more at v w l m o r q h a b =
    let e : r ≡ length (take at l ++ v) = rw (length-append, length-take-le at l h) a.next in
    let t : take r m ≡ take at l ++ v = rw a.text (take_at (take at l ++ v) (drop (at + length v) l) r (sym e)) in
    let d : drop (r + length w) m ≡ drop (at + length (v ++ w)) l =
    rw (a.text, e, drop-append-add, drop-drop, length-append)
    (let g : at + length v + length w ≡ at + (length v + length w) = omega arith in ap (λ (n : ℕ). drop n l) g) in
    record { next = rw (length-append) (omega (arith, a.next, b.next)); text = b.text ∙ rw (t, d) (ap (λ (x : List ℕ). x ++ drop (at + length (v ++ w)) l) (append_assoc (take at l) v w)) }
