-- An insert's outcomes from its tests: refused, nothing new, a leaf, a leaf after a cut; and what each stage asks of the next. Assumes nothing.
use mathlib.Core.Path.{◌≡◌, refl, sym, ap, ap₂, ◌∙◌}
use mathlib.Core.Bool.{true, false}
use mathlib.Core.List.{List, [], ◌∷◌, ◌++◌, map}
use Prim.Native.Nat.{ℕ, suc, ◌+◌, ◌-◌, ◌^◌, ◌≤◌, ◌<◌}
use native.Mathlib.Omega.{arith}
use borrow.Author.Tests.{lt-ltb, le-ltb, ltb-true, le-leb}
use lib.ListN.{length, take, drop, set, length-append, length-take, length-drop}
use lib.Seq.{length-take-le, take_at}
use Rattle.std.specs.Prelude.{Option, Some, None}
use Rattle.model.specs.declared.Cut.{Cut}
use Rattle.model.specs.declared.InsertAnswer.{InsertAnswer}
use Rattle.model.specs.Words.{Each}
use Rattle.model.specs.Sizes.{max_nodes, max_words, max_hashes, max_numbers, max_stamp, store_records, store_pins, path_places}
use Rattle.model.specs.State.{Tree, Ranges, Pins, State, at, nodes_in, used_in, stores_of, next_id_of, records_of, entries_of}
use Rattle.model.specs.Sound.{TreeLent, Sound}
use Rattle.model.specs.SoundTest.{sound}
use Rattle.model.specs.Tree.{Seg, resolve, blocks}
use Rattle.model.specs.Store.{plus, lay_counts}
use Rattle.model.specs.Insert.{Inserted, cut_tree, add_leaf, match_end, adds, ends_inside, with_tree, with_leaf, cut, cut_first, grow, insert_path}
use Rattle.model.specs.Refusals.{PathList, PathFits, path_fits, first_of, insert_refusals, node_need, new_blocks, cuts, cut_records, cut_entries, cut_ids}
use Rattle.model.specs.Calls.{Outcome, done, unless, front, lay_path, path_of, insert}
use Rattle.shape_state.specs.Lent.{tree_of, state_of}
use Rattle.shape_answer.specs.declared.Inserted.TheVariants as I
use Rattle.shape_answer.specs.Answers.{outcome, inserted_of}
use Rattle.rule_resolve.specs.declared.Match.{Match}
use Rattle.rule_resolve.specs.Walk.{match_of, Resolved}
use Rattle.shape_answer.specs.Lists.{path_list_of}
use Rattle.theory_refuse.proofs.Says.{true_says}
use Rattle.theory_refuse.proofs.Sound.{sound-says}
use Rattle.theory_refuse.proofs.Refused.{insert-kept}
use Rattle.theory_refuse.proofs.Unless.{unless-some}
use Rattle.theory_resolve.proofs.Walked.{resolve-few}
use Rattle.theory_cut.proofs.Insert.{EndsAt, match-end, cut-tree}
use Rattle.theory_calls.proofs.Parts.{sound-parts}
use Rattle.theory_calls.proofs.Cut.{records-counted, entries-counted, ids-counted}
use Rattle.theory_calls.proofs.Accepted.{NoneHolds, each_fits, none_where}
use Rattle.rule_grow.proofs.Laws.{Done, done-turn}
use Rattle.call_cut.specs.Room.{Cuttable}
use Rattle.call_cut.proofs.Laws.{ids-are, tree-cut}
use Rattle.call_cut.specs.Refusal.{insert_refusal, Shown}
use Rattle.call_insert.specs.Found.{Found, Passed, LeafRoom, Left}

nodes-cut : (j k : ℕ) (t : Tree) → (cut_tree j k t).nodes ≡ suc t.nodes
unfolding cut_tree
nodes-cut j k t = refl

used-cut : (j k : ℕ) (t : Tree) → (cut_tree j k t).used ≡ t.used
unfolding cut_tree
used-cut j k t = refl

-- ---- the lists

-- one element more, behind the n that were copied
pub front-more : (n v : ℕ) (src l : List ℕ) → n ≤ length src → n < length l → set (front (take n src) l) n v ≡ front (take n src ++ (v ∷ [])) l
front-more n v src l a b =
    let long : length (take n src) ≡ n = length-take-le n src a in
    let d : Done l (front (take n src) l) (take n src) n = record { front = long; high = omega arith; is = ap (λ i. take n src ++ drop i l) long } in
    let e = done-turn l (front (take n src) l) (take n src) n v d b in
    e.is ∙ ap (λ i. (take n src ++ (v ∷ [])) ++ drop i l) (sym e.front)

pub longer : (n v w : ℕ) (a b src src' l l' : List ℕ) → path_list_of a b ≡ path_list_of (front (take n src) l) (front (take n src') l') → n ≤ length src
    → n ≤ length src' → n < length l → n < length l'
    → path_list_of (set a n v) (set b n w) ≡ path_list_of (front (take n src ++ (v ∷ [])) l) (front (take n src' ++ (w ∷ [])) l')
longer n v w a b src src' l l' e p q r t =
    ap (λ (k : PathList). path_list_of (set k.node n v) (set k.len n w)) e
    ∙ ap₂ (λ (x y : List ℕ). path_list_of x y) (front-more n v src l p r) (front-more n w src' l' q t)

map_more : {A B : Type 0} (f : A → B) (xs : List A) (x : A) → map f (xs ++ (x ∷ [])) ≡ map f xs ++ (f x ∷ [])
map_more f [] x = refl
map_more f (y ∷ xs) x = ap (λ l. f y ∷ l) (map_more f xs x)

map_long : {A B : Type 0} (f : A → B) (xs : List A) → length (map f xs) ≡ length xs
map_long f [] = refl
map_long f (x ∷ xs) = ap suc (map_long f xs)

blocks_more : (ss : List Seg) (s : Seg) → blocks (ss ++ (s ∷ [])) ≡ blocks ss + s.len
unfolding blocks
blocks_more [] s = omega arith
blocks_more (t ∷ ss) s = let ih = blocks_more ss s in omega arith

segs-more : (ss : List Seg) (s : Seg) → length (ss ++ (s ∷ [])) ≡ length ss + 1
segs-more ss s = length-append ss (s ∷ [])

-- what was laid in front is found there
take_front : (xs l : List ℕ) → take (length xs) (front xs l) ≡ xs
take_front xs l = take_at xs (drop (length xs) l) (length xs) refl

take_within : (n : ℕ) (l xs : List ℕ) → take n l ≡ xs → length xs ≡ n → n ≤ length l
take_within n l xs e f =
    let g : length (take n l) ≡ n = ap length e ∙ f in
    omega (arith, length-take n l)

abbrev nodes_of : List Seg → List ℕ
nodes_of ss = map (λ s. s.node) ss

abbrev lens_of : List Seg → List ℕ
lens_of ss = map (λ s. s.len) ss

module _ {ss : List Seg} {m : Match} {found : PathList} (f : Found ss m found) where
  segs-are : m.segs ≡ length ss
  segs-are = ap (λ (a : Match). a.segs) f.match

  blocks-are : m.blocks ≡ blocks ss
  blocks-are = ap (λ (a : Match). a.blocks) f.match

  pub node-within : m.segs ≤ length found.node
  node-within = take_within m.segs found.node (nodes_of ss) f.node (map_long (λ (s : Seg). s.node) ss ∙ sym segs-are)

  pub len-within : m.segs ≤ length found.len
  len-within = take_within m.segs found.len (lens_of ss) f.len (map_long (λ (s : Seg). s.len) ss ∙ sym segs-are)

-- a path that `resolve` found
resolved_found : (t : Tree) (hs : List ℕ) (l found : PathList) (m : Match) → Resolved t hs l found m → Found (resolve t hs) m found
resolved_found t hs l found m r =
    let n : m.segs ≡ length (resolve t hs) = ap (λ (a : Match). a.segs) r.answer in
    record {
      match = r.answer;
      node = ap₂ (λ (i : ℕ) (k : List ℕ). take i k) (n ∙ sym (map_long (λ (s : Seg). s.node) (resolve t hs))) (ap (λ (k : PathList). k.node) r.lists)
          ∙ take_front (nodes_of (resolve t hs)) l.node;
      len = ap₂ (λ (i : ℕ) (k : List ℕ). take i k) (n ∙ sym (map_long (λ (s : Seg). s.len) (resolve t hs))) (ap (λ (k : PathList). k.len) r.lists)
          ∙ take_front (lens_of (resolve t hs)) l.len;
    }

-- ---- the refusals

-- what an insert that is not refused leaves and answers
abbrev taken : Inserted → PathList → Outcome PathList InsertAnswer
taken w l = record { state = w.state; lists = lay_path w.path l; answer = done (record { path = path_of w.path; split = w.split }) }

module _ (st : State) (l : PathList) (hs : List ℕ) where
  -- the outcome of an insert that is refused with number n, or not, 0
  numbered : (n : ℕ) → first_of (insert_refusals st l hs) ≡ n → insert st l hs ≡ unless n st l (taken (insert_path hs (resolve st.tree hs) st) l)
  unfolding insert
  numbered n e = ap (λ i. unless i st l (taken (insert_path hs (resolve st.tree hs) st) l)) e

  module _ (h : Sound st) (fits : PathFits l) where
    is-sound : sound st ≡ true
    is-sound = true_says (sound st) (sound-says st) h

    is-long : path_fits l ≡ true
    unfolding path_fits
    is-long = rw (le-leb _ _ fits.node, le-leb _ _ fits.len)

    many-number : max_hashes < length hs → first_of (insert_refusals st l hs) ≡ 3
    many-number m = rw (is-sound, is-long, lt-ltb max_hashes (length hs) m)

    few-number : length hs ≤ max_hashes → first_of (insert_refusals st l hs) ≡ insert_refusal st hs
    unfolding insert_refusal
    few-number m = rw (is-sound, is-long, le-ltb max_hashes (length hs) m)

    pub many-refused : max_hashes < length hs → outcome st l (inserted_of (I.Refused 3)) ≡ insert st l hs
    many-refused m = sym (numbered 3 (many-number m))

    module _ (short : length hs ≤ max_hashes) (n : ℕ) (e : n ≡ insert_refusal st hs) where
      pub number-refused : (n ≡ 0 → ⊥) → outcome st l (inserted_of (I.Refused n)) ≡ insert st l hs
      number-refused some =
          sym (numbered n (few-number short ∙ sym e) ∙ unless-some st l (taken (insert_path hs (resolve st.tree hs) st) l) n n refl some)

      pub passed : {k : PathList} (found : PathList) (m : Match) → n ≡ 0 → Resolved st.tree hs k found m → Passed st l hs m found
      passed {k} found m z r =
          record { sound = h; fits = fits; short = short; none = sym e ∙ z; path = resolved_found st.tree hs k found m r }

-- what the test of 6, 7, 8, 9 and 11 asks
pub shown : (parent depth len run words : List ℕ) (c : Ranges) (p : Pins) (marks bytes books hs : List ℕ) (m : Match)
    → Sound (state_of (tree_of parent depth len run words (nodes_in books) (used_in books)) c p marks bytes books) → length hs ≤ max_hashes
    → m ≡ match_of (resolve (tree_of parent depth len run words (nodes_in books) (used_in books)) hs)
    → Shown len c.node c.start c.end p.node p.start p.end books m (length hs)
    (state_of (tree_of parent depth len run words (nodes_in books) (used_in books)) c p marks bytes books) hs
shown parent depth len run words c p marks bytes books hs m h short e =
    record {
      seen = record {
        sound = h;
        nodes = refl;
        used = refl;
        len = refl;
        node = refl;
        start = refl;
        end = refl;
        books = refl;
        over = refl;
        count = refl;
        short = short;
        match = e;
      };
      pin_node = refl;
      pin_start = refl;
      pin_end = refl;
    }

pub segs_fit : (n : ℕ) → n < path_places + 1 → n + 1 < 2 ^ 64
segs_fit n l = omega arith

-- ---- what no refusal says

record Roomy (st : State) (hs : List ℕ) : Type 0 where
  nodes : st.tree.nodes + node_need st hs ≤ max_nodes
  words : st.tree.used + new_blocks st hs ≤ max_words
  records : Each 0 (stores_of st) (λ s. records_of st s + cut_records st hs s ≤ store_records)
  entries : Each 0 (stores_of st) (λ s. entries_of st s + cut_entries st hs s ≤ store_pins)
  ids : next_id_of st + cut_ids st hs (stores_of st) ≤ max_stamp

roomy : (st : State) (l : PathList) (hs : List ℕ) → NoneHolds (insert_refusals st l hs) → Roomy st hs
roomy st l hs (unsound, (short, (many, (few_nodes, (few_words, (few_records, (few_entries, (late, end)))))))) =
    record {
      nodes = omega arith;
      words = omega arith;
      records = each_fits (λ s. records_of st s + cut_records st hs s) (stores_of st) store_records few_records;
      entries = each_fits (λ s. entries_of st s + cut_entries st hs s) (stores_of st) store_pins few_entries;
      ids = omega arith;
    }

need-some : (st : State) (hs : List ℕ) → adds hs (resolve st.tree hs) ≡ true → node_need st hs ≡ plus (ends_inside st.tree (resolve st.tree hs)) 1
unfolding node_need
need-some st hs e = rw (e, node_need)

new_is : (st : State) (hs : List ℕ) → new_blocks st hs ≡ length hs - blocks (resolve st.tree hs)
unfolding new_blocks
new_is st hs = refl

-- ---- the leaf

-- the counts that are written are read back
counts-read : (parent depth len run words : List ℕ) (c : Ranges) (p : Pins) (marks bytes : List ℕ) (n i : ℕ) (l l₁ : List ℕ) → l₁ ≡ lay_counts n i l
    → state_of (tree_of parent depth len run words (nodes_in l₁) (used_in l₁)) c p marks bytes l₁
    ≡ state_of (tree_of parent depth len run words n i) c p marks bytes (lay_counts n i l)
unfolding lay_counts
counts-read parent depth len run words c p marks bytes n i l l₁ e =
    ap (λ (q : List ℕ). state_of (tree_of parent depth len run words (nodes_in q) (used_in q)) c p marks bytes q) e

-- what `add_leaf`, the counts that are written and the lists' functions leave is the model's
pub leafed : (ss : List Seg) (split : Option Cut) (t : Tree) (parent depth len run words : List ℕ) (c : Ranges) (p : Pins) (marks bytes l l₁ : List ℕ)
    (hs : List ℕ) (m : Match) (k k' found : PathList) → Found ss m found
    → tree_of parent depth len run words (t.nodes + 1) (t.used + (length hs - m.blocks)) ≡ add_leaf m.node m.blocks (drop m.blocks hs) t
    → l₁ ≡ lay_counts (t.nodes + 1) (t.used + (length hs - m.blocks)) l
    → k' ≡ path_list_of (front (take m.segs found.node ++ (t.nodes ∷ [])) k.node) (front (take m.segs found.len ++ ((length hs - m.blocks) ∷ [])) k.len)
    → Left (with_leaf hs ss split (state_of t c p marks bytes l)) k (state_of (tree_of parent depth len run words (nodes_in l₁) (used_in l₁)) c p marks bytes l₁) k'
unfolding with_leaf with_tree
leafed ss split t parent depth len run words c p marks bytes l l₁ hs m k k' found f e d g =
    record {
      state = counts-read parent depth len run words c p marks bytes (t.nodes + 1) (t.used + (length hs - m.blocks)) l l₁ d
          ∙ ap put (e ∙ ap (λ (a : Match). add_leaf a.node a.blocks (drop a.blocks hs) t) f.match);
      lists = g
          ∙ ap₂ (λ (a b : List ℕ). path_list_of (front a k.node) (front b k.len))
          (ap (λ (a : List ℕ). a ++ (t.nodes ∷ [])) f.node ∙ sym (map_more (λ (q : Seg). q.node) ss s))
          (ap₂ (λ (a : List ℕ) (n : ℕ). a ++ (n ∷ [])) f.len long ∙ sym (map_more (λ (q : Seg). q.len) ss s));
    }
  where
    rest : ℕ
    rest = length (drop (blocks ss) hs)

    long : length hs - m.blocks ≡ rest
    long = ap (λ (b : ℕ). length hs - b) (blocks-are f) ∙ sym (length-drop (blocks ss) hs)

    s : Seg
    s = record { node = t.nodes; len = rest }

    -- the state with the tree u, whose counts are written
    put : Tree → State
    put u = state_of u c p marks bytes (lay_counts u.nodes u.used l)

leaf_path : (ss : List Seg) (hs : List ℕ) (split : Option Cut) (st : State) → blocks ss ≤ length hs
    → record { segs = length ss + 1; blocks = length hs } ≡ path_of (with_leaf hs ss split st).path
unfolding with_leaf
leaf_path ss hs split st within =
    let s : Seg = record { node = st.tree.nodes; len = length (drop (blocks ss) hs) } in
    let sum : length hs ≡ blocks (ss ++ (s ∷ [])) = omega (arith, blocks_more ss s, length-drop (blocks ss) hs) in
    let two : length ss + 1 ≡ length (ss ++ (s ∷ [])) = sym (segs-more ss s) in
    λ i. record { segs = two i; blocks = sum i }

-- what is left of w is its outcome
left-taken : (w : Inserted) (l l' : PathList) (st' : State) (n b : ℕ) → Left w l st' l' → record { segs = n; blocks = b } ≡ path_of w.path
    → outcome st' l' (done (record { path = record { segs = n; blocks = b }; split = w.split })) ≡ taken w l
left-taken w l l' st' n b h e = λ i. record { state = h.state i; lists = h.lists i; answer = done (record { path = e i; split = w.split }) }

-- room for it in a tree of the pools' sizes
leaf_room : (ss : List Seg) (t : Tree) (bs : List ℕ) (l : PathList) (hs : List ℕ) (m : Match) (found : PathList) → Found ss m found → PathFits l
    → TreeLent t → max_numbers ≤ length bs → t.nodes < max_nodes → m.blocks ≤ length hs → t.used + (length hs - m.blocks) ≤ max_words
    → m.segs < path_places → LeafRoom ss t bs l hs m found
leaf_room ss t bs l hs m found f fits lent long nodes within words few =
    record {
      path = f;
      within = within;
      parent = omega (arith, lent.parent);
      depth = omega (arith, lent.depth);
      len = omega (arith, lent.len);
      run = omega (arith, lent.run);
      words = omega (arith, lent.words);
      books = long;
      path_node = omega (arith, fits.node);
      path_len = omega (arith, fits.len);
    }

-- ---- an insert that is not refused

module _ {st : State} {l : PathList} {hs : List ℕ} {m : Match} {found : PathList} (h : Passed st l hs m found) where
  zero_number : first_of (insert_refusals st l hs) ≡ 0
  zero_number = few-number st l hs h.sound h.fits h.short ∙ h.none

  accepted : taken (insert_path hs (resolve st.tree hs) st) l ≡ insert st l hs
  accepted = sym (numbered st l hs 0 zero_number)

  fit : Roomy st hs
  unfolding insert
  fit =
      let w = insert_path hs (resolve st.tree hs) st in
      roomy st l hs (none_where w.state (lay_path w.path l) (record { path = path_of w.path; split = w.split }) (insert-kept st l hs) zero_number)

  blocks_is : m.blocks ≡ blocks (resolve st.tree hs)
  blocks_is = blocks-are h.path

  node-is : m.node ≡ (match_end (resolve st.tree hs)).node
  node-is = ap (λ (a : Match). a.node) h.path.match

  len_is : m.len ≡ (match_end (resolve st.tree hs)).len
  len_is = ap (λ (a : Match). a.len) h.path.match

  few-segs : m.segs < st.tree.nodes
  few-segs = rw (segs-are h.path) (resolve-few st h.sound hs)

  pub segs-few : m.segs < path_places + 1
  segs-few = omega (arith, few-segs, h.sound.counts.nodes)

  pub path_room : (m.segs ≤ length found.node) × (m.segs ≤ length found.len) × (m.segs ≤ length l.node) × (m.segs ≤ length l.len)
  path_room = (node-within h.path, len-within h.path, omega (arith, segs-few, h.fits.node), omega (arith, segs-few, h.fits.len))

  -- nothing is new
  pub nothing-new : (l' : PathList) → length hs ≤ m.blocks
      → l' ≡ path_list_of (front (take m.segs found.node) l.node) (front (take m.segs found.len) l.len)
      → outcome st l' (inserted_of (I.Done (record { path = record { segs = m.segs; blocks = m.blocks }; split = None }))) ≡ insert st l hs
  unfolding insert_path
  nothing-new l' all e =
      let none : adds hs (resolve st.tree hs) ≡ false = le-ltb (blocks (resolve st.tree hs)) (length hs) (omega (arith, blocks_is)) in
      let f = h.path in
      left-taken (grow false hs (resolve st.tree hs) st) l l' st m.segs m.blocks
      (record {
        state = refl;
        lists = e ∙ ap₂ (λ (a b : List ℕ). path_list_of (front a l.node) (front b l.len)) f.node f.len;
      }) (ap (λ (a : Match). record { segs = a.segs; blocks = a.blocks }) f.match)
      ∙ ap (λ b. taken (grow b hs (resolve st.tree hs) st) l) (sym none) ∙ accepted

  -- something is
  module _ (new : m.blocks < length hs) where
    added : adds hs (resolve st.tree hs) ≡ true
    added = lt-ltb (blocks (resolve st.tree hs)) (length hs) (omega (arith, blocks_is))

    ends : EndsAt st.tree hs (blocks (resolve st.tree hs)) (match_end (resolve st.tree hs))
    ends = match-end st.tree (sound-parts st h.sound).tree hs added

    pub node-used : m.node < st.tree.nodes
    node-used = rw node-is ends.in_use

    pub node-small : m.node < 256
    node-small = omega (arith, node-used, h.sound.counts.nodes)

    pub node_in : m.node < length st.tree.len
    node_in = omega (arith, node-used, h.sound.counts.nodes, h.sound.lent.tree.len)

    words_fit : st.tree.used + (length hs - m.blocks) ≤ max_words
    words_fit = omega (arith, fit.words, new_is st hs, blocks_is)

    -- the match ends with a node
    module _ (whole : at st.tree.len m.node ≤ m.len) where
      not_inside : ends_inside st.tree (resolve st.tree hs) ≡ false
      not_inside =
          le-ltb (match_end (resolve st.tree hs)).len (at st.tree.len (match_end (resolve st.tree hs)).node) (rw (node-is, len_is) at whole)

      nodes-one : st.tree.nodes < max_nodes
      nodes-one =
          let e : node_need st hs ≡ 1 = need-some st hs added ∙ ap (λ b. plus b 1) not_inside in
          omega (arith, fit.nodes)

      pub leaf_asks : LeafRoom (resolve st.tree hs) st.tree st.books l hs m found
      leaf_asks =
          leaf_room (resolve st.tree hs) st.tree st.books l hs m found h.path h.fits h.sound.lent.tree h.sound.lent.books nodes-one (omega arith) words_fit
          (omega (arith, few-segs, nodes-one))

      pub leaf_new : (st' : State) (l' : PathList) → Left (with_leaf hs (resolve st.tree hs) None st) l st' l'
          → outcome st' l' (inserted_of (I.Done (record { path = record { segs = m.segs + 1; blocks = length hs }; split = None }))) ≡ insert st l hs
      unfolding insert_path with_leaf
      leaf_new st' l' w =
          let path = resolve st.tree hs in
          left-taken (with_leaf hs path None st) l l' st' (m.segs + 1) (length hs) w
          (ap (λ (n : ℕ). record { segs = n + 1; blocks = length hs }) (segs-are h.path) ∙ leaf_path path hs None st (omega (arith, blocks_is)))
          ∙ ap (λ b. taken (cut_first b hs path st) l) (sym not_inside) ∙ ap (λ b. taken (grow b hs path st) l) (sym added) ∙ accepted

    -- it ends inside a node
    module _ (part : m.len < at st.tree.len m.node) where
      inside : ends_inside st.tree (resolve st.tree hs) ≡ true
      inside =
          lt-ltb (match_end (resolve st.tree hs)).len (at st.tree.len (match_end (resolve st.tree hs)).node) (rw (node-is, len_is) at part)

      nodes-two : suc st.tree.nodes < max_nodes
      nodes-two =
          let e : node_need st hs ≡ 2 = need-some st hs added ∙ ap (λ b. plus b 1) inside in
          omega (arith, fit.nodes)

      does : cuts st hs ≡ true
      does = rw (added, inside)

      cut-here : Cuttable (match_end (resolve st.tree hs)).node (match_end (resolve st.tree hs)).len st
      cut-here =
          let e = match_end (resolve st.tree hs) in
          let i = ends.in_node (ltb-true _ _ inside) in
          record {
            sound = h.sound;
            not_root = i.0;
            in_use = ends.in_use;
            some = i.1;
            inside = ltb-true _ _ inside;
            room = omega (arith, nodes-two);
            records = λ s low less. rw (records-counted st hs does s) at (fit.records s low less);
            entries = λ s low less. rw (entries-counted st hs does s) at (fit.entries s low less);
            ids = rw (ids-are e.node e.len st (stores_of st) h.sound.counts.stores, ← ids-counted st hs does (stores_of st)) fit.ids;
          }

      pub cut_asks : Cuttable m.node m.len st
      cut_asks = rw (node-is, len_is) cut-here

      -- the cut that is made
      abbrev pub made : Option Cut
      made = Some (record { node = m.node; at = m.len; new = st.tree.nodes })

      module _ (st₁ : State) (e : st₁ ≡ cut m.node m.len st) where
        tree_is : st₁.tree ≡ cut_tree m.node m.len st.tree
        tree_is = ap (λ (s : State). s.tree) e ∙ cut-tree m.node m.len st

        pub leaf_asks_cut : length st₁.books ≡ length st.books → LeafRoom (resolve st.tree hs) st₁.tree st₁.books l hs m found
        leaf_asks_cut same =
            let cut_lent = (tree-cut m.node m.len st cut_asks).lent in
            rw tree_is
            (leaf_room (resolve st.tree hs) (cut_tree m.node m.len st.tree) st₁.books l hs m found h.path h.fits cut_lent
            (rw same h.sound.lent.books) (rw (nodes-cut m.node m.len st.tree) nodes-two) (omega arith)
            (rw (used-cut m.node m.len st.tree) words_fit) (omega (arith, few-segs, nodes-two)))

        pub cut-new : (st' : State) (l' : PathList)
            → Left (with_leaf hs (resolve st.tree hs) made st₁) l st' l'
            → outcome st' l' (inserted_of (I.Done (record { path = record { segs = m.segs + 1; blocks = length hs }; split = made }))) ≡ insert st l hs
        unfolding insert_path with_leaf
        cut-new st' l' w =
            let path = resolve st.tree hs in
            left-taken (with_leaf hs path made st₁) l l' st' (m.segs + 1) (length hs) w
            (ap (λ (n : ℕ). record { segs = n + 1; blocks = length hs }) (segs-are h.path)
            ∙ leaf_path path hs made st₁ (omega (arith, blocks_is)))
            ∙ ap (λ (s : State). taken (with_leaf hs path made s) l) e
            ∙ ap (λ (a : Match). taken (with_leaf hs path (Some (record { node = a.node; at = a.len; new = st.tree.nodes })) (cut a.node a.len st)) l) h.path.match
            ∙ ap (λ b. taken (cut_first b hs path st) l) (sym inside)
            ∙ ap (λ b. taken (grow b hs path st) l) (sym added) ∙ accepted
