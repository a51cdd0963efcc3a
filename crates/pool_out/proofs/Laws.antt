-- One span more, stored behind the others, is the longer answer: the list is laid from the front.
use mathlib.Core.Path.{◌≡◌, refl, sym, ap, ◌∙◌}
use mathlib.Core.List.{List, [], ◌∷◌, ◌++◌, map, append_assoc}
use Prim.Native.Nat.{ℕ, zero, suc, ◌<◌}
use native.Mathlib.Numerals.{add-one}
use native.Mathlib.Omega.{arith}
use lib.ListN.{length, drop, set, length-append, length-map}
use lib.Seq.{drop-cons, set-append_seam}
use Rattle.model.specs.Trim.{Out}
use Rattle.model.specs.Refusals.{OutList, OutFits}
use Rattle.model.specs.Calls.{front, lay_outs}
use Rattle.pool_out.specs.Evicted.{write_number, write_of, set_out}
use Rattle.shape_answer.specs.Lists.{out_list}
use Rattle.pool_out.specs.declared.WriteId.{WriteId}

map_snoc : {A B : Type 0} (f : A → B) (xs : List A) (x : A) → map f (xs ++ (x ∷ [])) ≡ map f xs ++ (f x ∷ [])
map_snoc f [] x = refl
map_snoc f (y ∷ xs) x = ap (λ t. f y ∷ t) (map_snoc f xs x)

-- a column with one element more
pub front-more : {A : Type 0} (xs : List A) (x : A) (l : List A) → length xs < length l → set (front xs l) (length xs) x ≡ front (xs ++ (x ∷ [])) l
front-more xs x l h =
    let e : length (xs ++ (x ∷ [])) ≡ suc (length xs) = length-append xs (x ∷ []) ∙ add-one (length xs) in
    ap (λ t. set (xs ++ t) (length xs) x) (drop-cons l (length xs) x h)
    ∙ set-append_seam xs _ (drop (suc (length xs)) l) x
    ∙ sym (ap (λ t. (xs ++ (x ∷ [])) ++ drop t l) e ∙ append_assoc xs (x ∷ []) (drop (suc (length xs)) l))

out_col : {A : Type 0} (f : Out → A) (os : List Out) (o : Out) (l : List A) → length os < length l
    → set (front (map f os) l) (length os) (f o) ≡ front (map f (os ++ (o ∷ []))) l
out_col f os o l h =
    let e : length (map f os) ≡ length os = length-map os f in
    ap (λ t. set (front (map f os) l) t (f o)) (sym e) ∙ front-more (map f os) (f o) l (omega arith) ∙ ap (λ t. front t l) (sym (map_snoc f os o))

pub out-more : (os : List Out) (o : Out) (l : OutList) → length os < 128 → OutFits l → set_out (length os) o (lay_outs os l) ≡ lay_outs (os ++ (o ∷ [])) l
unfolding set_out
out-more os o l h w =
    columns (out_col (λ x. x.node) os o l.node (omega (arith, w.node))) (out_col (λ x. x.start) os o l.start (omega (arith, w.start)))
    (out_col (λ x. x.end) os o l.end (omega (arith, w.end))) (out_col (λ x. x.write) os o l.write (omega (arith, w.write)))
    (out_col (λ x. x.bytes) os o l.bytes (omega (arith, w.bytes))) (out_col (λ x. x.dead) os o l.dead (omega (arith, w.dead)))
  where
    columns : {a a' b b' c c' d d' e e' f f' : List ℕ} → a ≡ a' → b ≡ b' → c ≡ c' → d ≡ d' → e ≡ e' → f ≡ f' → out_list a b c d e f ≡ out_list a' b' c' d' e' f'
    columns p q r s t u = cc

-- ---- a write and its number

number_of : (n : ℕ) → write_number (write_of n) ≡ n
number_of zero = refl
number_of (suc n) = refl

-- the column's number of a write that stands for n is n
pub carries : (n : ℕ) (w : WriteId) → w ≡ write_of n → write_number w ≡ n
carries n w e = ap write_number e ∙ number_of n
