-- Laws of the walk over variables: the segments found so far, and those that the definition still has to find, are together the path. Each turn moves one
-- segment over, and writes it behind those that stand in the lists.
use Prim.Native.Nat.{ℕ, zero, suc, ◌+◌, ◌≤◌, ◌<◌}
use mathlib.Core.Bool.{Bool, true, false}
use mathlib.Core.List.{List, [], ◌∷◌, ◌++◌, map, append-nil, map-append}
use Rattle.std.specs.Prelude.{Option, None, Some}
use mathlib.Core.Path.{◌≡◌, refl, sym, ap, ◌∙◌, subst}
use native.Mathlib.Numerals.{add-one}
use native.Mathlib.Omega.{arith}
use lib.ListN.{length, drop, set, length-append, length-map}
use lib.Dec.{eqb}
use lib.Seq.{drop-cons, set_at, append_snoc}
use borrow.Author.Tests.{lt-ltb, le-ltb, eq-eqb, ne_eqb}
use Rattle.model.specs.State.{Tree, at}
use Rattle.model.specs.Tree.{Seg, child, matched, next_child, onward, walk, resolve, blocks}
use Rattle.model.specs.Insert.{last_seg, match_end}
use Rattle.model.specs.Refusals.{PathList, PathFits}
use Rattle.model.specs.Calls.{front, lay_path}
use Rattle.rule_resolve.specs.declared.Match.{Match}
use Rattle.rule_resolve.specs.Walk.{Stored, Walkable, Resolved}
use Rattle.shape_answer.specs.Lists.{path_list_of}
use Rattle.theory_resolve.proofs.Walked.{Next, next-child}

-- ---- one more segment

front-more : (xs l : List ℕ) (n v : ℕ) → length xs ≡ n → n < length l → set (front xs l) n v ≡ front (xs ++ (v ∷ [])) l
front-more xs l n v e h =
    ap (λ (k : ℕ). set (xs ++ drop k l) n v) e
    ∙ ap (λ (ys : List ℕ). set (xs ++ ys) n v) (drop-cons l n 0 h)
    ∙ set_at xs (at l n) (drop (suc n) l) v n e
    ∙ sym (append_snoc xs v (drop (suc n) l))
    ∙ rw (length-append, e, add-one)

segs-more : (f : Seg → ℕ) (ss : List Seg) (s : Seg) (l : List ℕ) (n : ℕ) → length ss ≡ n → n < length l
    → set (front (map f ss) l) n (f s) ≡ front (map f (ss ++ (s ∷ []))) l
segs-more f ss s l n e h = rw map-append (front-more (map f ss) l n (f s) (length-map ss f ∙ e) h)

blocks_more : (ss : List Seg) (s : Seg) → blocks (ss ++ (s ∷ [])) ≡ blocks ss + s.len
unfolding blocks
blocks_more [] s = omega arith
blocks_more (x ∷ ss) s = omega (arith, blocks_more ss s)

last_more : (before : Seg) (ss : List Seg) (s : Seg) → last_seg before (ss ++ (s ∷ [])) ≡ s
unfolding last_seg
last_more before [] s = refl
last_more before (x ∷ ss) s = last_more x ss s

-- ---- the next child

pub next-is : (t : Tree) (hs : List ℕ) (pos p : ℕ) → pos < length hs → child t p (at hs pos) ≡ next_child t hs pos p
unfolding next_child
next-is t hs pos p h = sym (ap (λ (b : Bool). elim b as (λ z. Option ℕ) [ true ↦ child t p (at hs pos) | false ↦ None ]) (lt-ltb pos (length hs) h))

pub next-none : (t : Tree) (hs : List ℕ) (pos p : ℕ) → length hs ≤ pos → next_child t hs pos p ≡ None
unfolding next_child
next-none t hs pos p h = ap (λ (b : Bool). elim b as (λ z. Option ℕ) [ true ↦ child t p (at hs pos) | false ↦ None ]) (le-ltb pos (length hs) h)

next-some : (t : Tree) (hs : List ℕ) (pos p : ℕ) {k : ℕ} → pos < length hs → Some k ≡ child t p (at hs pos) → next_child t hs pos p ≡ Some k
next-some t hs pos p h e = sym (next-is t hs pos p h) ∙ sym e

pub next-nothing : (t : Tree) (hs : List ℕ) (pos p : ℕ) → pos < length hs → None ≡ child t p (at hs pos) → next_child t hs pos p ≡ None
next-nothing t hs pos p h e = sym (next-is t hs pos p h) ∙ sym e

abbrev seg : ℕ → ℕ → Seg
seg k n = record { node = k; len = n }

walk-into : (t : Tree) (hs : List ℕ) (left pos k n : ℕ) → n ≡ matched t hs pos k
    → walk t hs (suc left) pos (Some k) ≡ seg k n ∷ walk t hs left (pos + n) (onward (eqb n (at t.len k)) t hs (pos + n) k)
unfolding walk
walk-into t hs left pos k n e =
    ap (λ (m : ℕ). seg k m ∷ walk t hs left (pos + m) (onward (eqb m (at t.len k)) t hs (pos + m) k)) (sym e)

walk_none : (t : Tree) (hs : List ℕ) (left pos : ℕ) → walk t hs left pos None ≡ []
unfolding walk
walk_none t hs zero pos = refl
walk_none t hs (suc left) pos = refl

-- ---- the walk

abbrev pub match_at : ℕ → ℕ → ℕ → ℕ → Match
match_at segs blocks node len = record { segs = segs; blocks = blocks; node = node; len = len }

-- m and the lists l tell of the segments found so far; the walk goes on into o, and has turns enough
pub record Walking (t : Tree) (hs : List ℕ) (l₀ : PathList) (o : Option ℕ) (m : Match) (l : PathList) : Type 0 where
  pub found : List Seg
  pub left : ℕ
  pub segs : length found ≡ m.segs
  pub covered : blocks found ≡ m.blocks
  pub end : match_end found ≡ seg m.node m.len
  pub lists : l ≡ lay_path found l₀
  pub enough : length hs ≤ m.blocks + left
  pub whole : resolve t hs ≡ found ++ walk t hs left m.blocks o

pub walk_start : (t : Tree) (hs : List ℕ) (l : PathList) → Walking t hs l (next_child t hs 0 0) (match_at 0 0 0 0) l
unfolding resolve blocks last_seg
walk_start t hs l = record { found = []; left = length hs; segs = refl; covered = refl; end = refl; lists = refl; enough = omega arith; whole = refl }

pub walk_end : {t : Tree} {hs : List ℕ} {l₀ l : PathList} {segs pos cur last : ℕ} → Walking t hs l₀ None (match_at segs pos cur last) l
    → Resolved t hs l₀ l (match_at segs pos cur last)
walk_end {t} {hs} {l₀} w =
    let path : w.found ≡ resolve t hs = sym (w.whole ∙ rw walk_none (append-nil w.found)) in
    record {
      answer = rw (← path) (cc);
      lists = w.lists ∙ ap (λ (ss : List Seg). lay_path ss l₀) path;
    }

-- the next segment is one of the path's
pub walk-room : {t : Tree} {hs : List ℕ} {l₀ l : PathList} {k segs pos cur last : ℕ} → Walking t hs l₀ (Some k) (match_at segs pos cur last) l
    → pos < length hs → segs < length (resolve t hs)
walk-room {t} {hs} {k = k} {segs} {pos} w h = go w.left w.enough w.whole
  where
    go : (left : ℕ) → length hs ≤ pos + left → resolve t hs ≡ w.found ++ walk t hs left pos (Some k) → segs < length (resolve t hs)
    go zero f e = absurd (omega arith)
    go (suc left) f e =
        let more = e ∙ ap (λ (ss : List Seg). w.found ++ ss) (walk-into t hs left pos k (matched t hs pos k) refl) in
        omega (arith, w.segs, simp length-append at (ap length more))

walk_turn : {t : Tree} {hs node₀ len₀ node len : List ℕ} {k segs pos cur last n : ℕ}
    → Walking t hs (path_list_of node₀ len₀) (Some k) (match_at segs pos cur last) (path_list_of node len)
    → pos < length hs → n ≡ matched t hs pos k → 1 ≤ n → segs < length node₀ → segs < length len₀
    → Walking t hs (path_list_of node₀ len₀) (onward (eqb n (at t.len k)) t hs (pos + n) k) (match_at (segs + 1) (pos + n) k n) (path_list_of (set node segs k) (set len segs n))
walk_turn {t} {hs} {node₀} {len₀} {node} {len} {k} {segs} {pos} {cur} {last} {n} w h e some-blocks a b = go w.left w.enough w.whole
  where
    found : List Seg
    found = w.found ++ (seg k n ∷ [])

    go : (left : ℕ) → length hs ≤ pos + left → resolve t hs ≡ w.found ++ walk t hs left pos (Some k)
        → Walking t hs (path_list_of node₀ len₀) (onward (eqb n (at t.len k)) t hs (pos + n) k) (match_at (segs + 1) (pos + n) k n) (path_list_of (set node segs k) (set len segs n))
    go zero f g = absurd (omega arith)
    go (suc left) f g =
        record {
          found = found;
          left = left;
          segs = omega (arith, w.segs, length-append w.found (seg k n ∷ []));
          covered = omega (arith, w.covered, blocks_more w.found (seg k n));
          end = last_more (seg 0 0) w.found (seg k n);
          lists =
              ap (λ (l : PathList). path_list_of (set l.node segs k) (set l.len segs n)) w.lists
              ∙ ap (λ (ns : List ℕ). path_list_of ns (set (front (map (λ s. s.len) w.found) len₀) segs n)) (segs-more (λ s. s.node) w.found (seg k n) node₀ segs w.segs a)
              ∙ ap (λ (ns : List ℕ). path_list_of (front (map (λ s. s.node) found) node₀) ns) (segs-more (λ s. s.len) w.found (seg k n) len₀ segs w.segs b);
          enough = omega arith;
          whole =
              g
              ∙ ap (λ (ss : List Seg). w.found ++ ss) (walk-into t hs left pos k n e)
              ∙ sym (append_snoc w.found (seg k n) (walk t hs left (pos + n) (onward (eqb n (at t.len k)) t hs (pos + n) k)));
        }

module _ {t : Tree} {hs node₀ len₀ node len : List ℕ} {k segs pos cur last n : ℕ} where
  -- the whole node matched, and the walk goes on
  pub walk-on : Walking t hs (path_list_of node₀ len₀) (next_child t hs pos cur) (match_at segs pos cur last) (path_list_of node len) → Some k ≡ child t cur (at hs pos)
      → pos < length hs → n ≡ matched t hs pos k → 1 ≤ n → segs < length node₀ → segs < length len₀ → n ≤ at t.len k → at t.len k ≤ n
      → Walking t hs (path_list_of node₀ len₀) (next_child t hs (pos + n) k) (match_at (segs + 1) (pos + n) k n) (path_list_of (set node segs k) (set len segs n))
  walk-on w e h m f a b low high = rw (eq-eqb n (at t.len k) (omega arith)) at (walk_turn (rw (next-some t hs pos cur h e) at w) h m f a b)

  -- a part of it matched
  pub walk-part : Walking t hs (path_list_of node₀ len₀) (next_child t hs pos cur) (match_at segs pos cur last) (path_list_of node len) → Some k ≡ child t cur (at hs pos)
      → pos < length hs → n ≡ matched t hs pos k → 1 ≤ n → segs < length node₀ → segs < length len₀ → n < at t.len k
      → Resolved t hs (path_list_of node₀ len₀) (path_list_of (set node segs k) (set len segs n)) (match_at (segs + 1) (pos + n) k n)
  walk-part w e h m f a b low = walk_end (rw (ne_eqb n (at t.len k) (λ q. omega arith)) at (walk_turn (rw (next-some t hs pos cur h e) at w) h m f a b))

-- its hashes can be read, and there is a place for its segment
pub entered : {t : Tree} {hs : List ℕ} {l₀ l : PathList} {k segs pos cur last : ℕ} → Walkable t → PathFits l₀ → pos < length hs → Some k ≡ child t cur (at hs pos)
    → Walking t hs l₀ (next_child t hs pos cur) (match_at segs pos cur last) l
    → Stored t.len t.run t.words k × (segs < length l₀.node) × (segs < length l₀.len)
entered {t} {hs} {k = k} {pos = pos} {cur} v f h found w =
    let e = next-some t hs pos cur h found in
    let c = (subst (λ (o : Option ℕ). Next t hs pos cur o) e (next-child t hs pos cur)).0 in
    let room = walk-room (rw e at w) h in
    (v.stored k c.not_root c.in_use, omega (arith, v.few hs, f.node), omega (arith, v.few hs, f.len))
