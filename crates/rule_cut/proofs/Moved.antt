-- What is taken out of its place and put behind the others is cut out with itself in the place that is left. Assumes nothing.
use Prim.Native.Nat.{ℕ, suc, ◌+◌, ◌-◌, ◌≤◌, ◌<◌}
use mathlib.Core.Path.{◌≡◌, sym, ◌∙◌}
use mathlib.Core.List.{List, ◌∷◌, ◌++◌, append_assoc}
use native.Mathlib.Omega.{arith}
use lib.ListN.{length, take, drop, set, length-append, length-take, length-drop}
use lib.Seq.{set_split, set_at}
use Rattle.model.specs.State.{Ranges, Range, range_at, at}
use Rattle.pool_range.specs.Cols.{put_at, cut_at}
use Rattle.pool_range.specs.Part.{Sized, put_range, cut_range}
use Rattle.pool_range.proofs.Records.{ranges_eq}
use Rattle.rule_cut.specs.Cut.{move_range}

module _ {A : Type 0} where
  put-last : (n : ℕ) (x : A) (l : List A) → n < length l → put_at n x n l ≡ set l n x
  unfolding put_at
  put-last n x l h =
      let z : n - n ≡ 0 = omega arith in
      let s : n + 1 ≡ suc n = omega arith in
      rw (z, s) (sym (set_split l n x h))

  moved : (at n : ℕ) (x blank : A) (l : List A) → at < n → n ≤ length l → put_at (n - 1) x (n - 1) (cut_at blank at n l) ≡ cut_at x at n l
  unfolding cut_at
  moved at n x blank l h k =
      let front = take at l ++ take (n - (at + 1)) (drop (at + 1) l) in
      let f : length front ≡ n - 1 = simp (length-append, length-take, length-drop) (omega arith) in
      let whole : (y : A) → take at l ++ (take (n - (at + 1)) (drop (at + 1) l) ++ (y ∷ drop n l)) ≡ front ++ (y ∷ drop n l) =
      λ y. sym (append_assoc (take at l) (take (n - (at + 1)) (drop (at + 1) l)) (y ∷ drop n l)) in
      let room : n - 1 < length (front ++ (blank ∷ drop n l)) = omega (arith, f, length-append front (blank ∷ drop n l)) in
      rw (whole blank, whole x) (put-last (n - 1) x (front ++ (blank ∷ drop n l)) room ∙ set_at front blank (drop n l) x (n - 1) f)

  cut-long : (at n : ℕ) (blank : A) (l : List A) → at < n → n ≤ length l → length (cut_at blank at n l) ≡ length l
  unfolding cut_at
  cut-long at n blank l h k = simp (length-append, length-take, length-drop) (omega (arith, length-drop n l))

within : {n k m : ℕ} → n ≤ k → m ≡ k → n ≤ m
within h e = omega arith

pub moved-range : (n p k m : ℕ) (r : Range) (c : Ranges) → p < n → n ≤ 128 → Sized 128 c → r ≡ range_at c p
    → put_range (n - 1) (record { node = m; start = r.start - k; end = r.end - k; id = r.id; stamp = r.stamp; touched = r.touched; write = r.write }) (n - 1) (cut_range p n c)
    ≡ move_range n p k m c
unfolding put_range cut_range move_range
moved-range n p k m r c h l s e =
    rw e
    (ranges_eq (moved p n _ 0 c.node h (within l s.node)) (moved p n _ 0 c.start h (within l s.start)) (moved p n _ 0 c.end h (within l s.end))
    (moved p n _ 0 c.id h (within l s.id)) (moved p n _ 0 c.stamp h (within l s.stamp)) (moved p n _ _ c.touched h (within l s.touched))
    (moved p n _ 0 c.write h (within l s.write)))

pub cut-sized : (n p : ℕ) (c : Ranges) → p < n → n ≤ 128 → Sized 128 c → Sized 128 (cut_range p n c)
unfolding cut_range
cut-sized n p c h l s =
    record {
      node = cut-long p n 0 c.node h (within l s.node) ∙ s.node;
      start = cut-long p n 0 c.start h (within l s.start) ∙ s.start;
      end = cut-long p n 0 c.end h (within l s.end) ∙ s.end;
      id = cut-long p n 0 c.id h (within l s.id) ∙ s.id;
      stamp = cut-long p n 0 c.stamp h (within l s.stamp) ∙ s.stamp;
      touched = cut-long p n _ c.touched h (within l s.touched) ∙ s.touched;
      write = cut-long p n 0 c.write h (within l s.write) ∙ s.write;
    }
