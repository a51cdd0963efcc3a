-- The children of a cut node one by one: what is done so far, and what is still as it was. Then the words of a leaf, and the whole tree.
use mathlib.Core.Path.{◌≡◌, sym, ap, ◌∙◌}
use mathlib.Core.List.{List, [], ◌∷◌, ◌++◌, map, append_assoc, append-nil}
use Prim.Native.Nat.{ℕ, suc, ◌+◌, ◌-◌, ◌≤◌, ◌<◌}
use native.Mathlib.Numerals.{add-one}
use native.Mathlib.Omega.{arith}
use lib.ListN.{length, get_or, take, drop, set, length-append, length-drop}
use lib.Seq.{drop-cons, drop-drop, set_at, get_or-append-add, get_or-drop, take_all}
use Rattle.std.proofs.lemmas.List.{map_more, drop_all}
use Rattle.model.specs.Store.{lay}
use Rattle.model.specs.Insert.{adopt, reparent, cut_tree, add_leaf}
use Rattle.shape_state.specs.Lent.{tree_of}

-- ---- a prefix that is changed, element by element

-- the first i of l made xs, the rest as it was
pub record Done (l c xs : List ℕ) (i : ℕ) : Type 0 where
  pub front : length xs ≡ i
  pub high : i ≤ length l
  pub is : c ≡ xs ++ drop i l

pub done-turn : (l c xs : List ℕ) (i x : ℕ) → Done l c xs i → i < length l → Done l (set c i x) (xs ++ (x ∷ [])) (i + 1)
done-turn l c xs i x d h =
    record {
      front = length-append xs (x ∷ []) ∙ ap (λ n. n + 1) d.front;
      high = omega arith;
      is =
          ap (λ t. set t i x) (d.is ∙ ap (λ t. xs ++ t) (drop-cons l i 0 h))
          ∙ set_at xs (get_or l i 0) (drop (suc i) l) x i d.front
          ∙ sym (append_assoc xs (x ∷ []) (drop (i + 1) l) ∙ rw add-one);
    }

-- what stands at i is still the old one
pub done_at : (l c xs : List ℕ) (i : ℕ) → Done l c xs i → get_or c i 0 ≡ get_or l i 0
done_at l c xs i d =
    let z : i ≡ length xs + 0 = omega (arith, d.front) in
    let y : i + 0 ≡ i = omega arith in
    ap (λ t. get_or t i 0) d.is ∙ ap (λ t. get_or (xs ++ drop i l) t 0) z ∙ get_or-append-add xs (drop i l) 0 0 ∙ get_or-drop i l 0 0 ∙ ap (λ t. get_or l t 0) y

-- ---- the parents

-- f is `adopt j m`: one more of them
pub adopt-turn : (f : ℕ → ℕ) (l c : List ℕ) (i r : ℕ) → Done l c (map f (take i l)) i → i < length l → r ≡ f (get_or c i 0)
    → Done l (set c i r) (map f (take (i + 1) l)) (i + 1)
adopt-turn f l c i r d h e =
    let v : r ≡ f (get_or l i 0) = e ∙ ap f (done_at l c (map f (take i l)) i d) in
    rw (map_more f l i 0 h, v) (done-turn l c (map f (take i l)) i (f (get_or l i 0)) d h)

pub adopt-end : (j m nodes : ℕ) (l c : List ℕ) (i : ℕ) → 1 ≤ nodes
    → Done (take (nodes - 1) (drop 1 l)) c (map (adopt j m) (take i (take (nodes - 1) (drop 1 l)))) i → length (take (nodes - 1) (drop 1 l)) ≤ i
    → take 1 l ++ (c ++ drop (nodes - 1) (drop 1 l)) ≡ reparent j m nodes l
unfolding reparent
adopt-end j m nodes l c i p d h =
    let part = take (nodes - 1) (drop 1 l) in
    let z : 1 + (nodes - 1) ≡ nodes = omega arith in
    let all : c ≡ map (adopt j m) part = d.is ∙ rw (take_all i part h, drop_all i part h) (append-nil (map (adopt j m) part)) in
    rw (all, drop-drop (nodes - 1) 1 l, z)

-- ---- the words

pub words-are : (used from : ℕ) (hs l c : List ℕ) → from ≤ length hs → c ≡ take (length hs - from) (drop from hs)
    → take used l ++ (c ++ drop ((used + length (take (length hs - from) (drop from hs))) - used) (drop used l))
    ≡ lay 0 used (length (drop from hs)) (drop from hs) l
unfolding lay
words-are used from hs l c h e =
    let all : take (length hs - from) (drop from hs) ≡ drop from hs = take_all (length hs - from) (drop from hs) (omega (arith, length-drop from hs)) in
    let k : (used + length (drop from hs)) - used ≡ length (drop from hs) = omega arith in
    let z : length (drop from hs) - length (drop from hs) ≡ 0 = omega arith in
    rw (e, all, k, drop-drop (length (drop from hs)) used l, z)

-- ---- the whole tree

pub cut-is : (parent parent' depth len run words : List ℕ) (nodes used j k : ℕ) → parent' ≡ reparent j nodes nodes parent
    → tree_of (set parent' nodes j) (set depth nodes (get_or depth j 0 + k)) (set (set len j k) nodes (get_or len j 0 - k)) (set run nodes (get_or run j 0 + k)) words
    (nodes + 1) used
    ≡ cut_tree j k (tree_of parent depth len run words nodes used)
unfolding cut_tree
cut-is parent parent' depth len run words nodes used j k e = rw (e, add-one)

pub leaf_is : (parent depth len run words words' hs : List ℕ) (nodes used p from : ℕ)
    → words' ≡ lay 0 used (length (drop from hs)) (drop from hs) words
    → tree_of (set parent nodes p) (set depth nodes from) (set len nodes (length hs - from)) (set run nodes used) words' (nodes + 1) (used + (length hs - from))
    ≡ add_leaf p from (drop from hs) (tree_of parent depth len run words nodes used)
unfolding add_leaf
leaf_is parent depth len run words words' hs nodes used p from e = rw (e, add-one, length-drop from hs)
